use Rattle.std.proofs.Common.{◌∙◌, refl, sym, ap, subst}
use Rattle.viz_base.specs.declared.jobs.Job.{Job}
use Rattle.viz_calc.specs.State.{State}
use Rattle.cert_semantics.specs.Nodes.{by_answers, node_on}
use Rattle.sym_calc.specs.declared.paths.Path.{Path}
use Rattle.viz_base.specs.Jobs.{IsFormed}
use Rattle.sym_calc.specs.declared.paths.Origin.{Origin}
use Rattle.sym_calc.specs.Knowledge.{is_kept, AreKnown}
use Rattle.cert_check.specs.declared.verdicts.Verdict.{Verdict}
use Rattle.cert_check.specs.steps.Ways.{path_at}
use Rattle.cert_check.specs.steps.Tells.{Judges}
use Rattle.cert_check.specs.Leaves.{StandsOver, IsLeafVerdict}
use Rattle.cert_check.proofs.Descents.{sound_is, form_is}
use Rattle.cert_check.proofs.Judging.{judged, known_along, leaf_rejected}
use Rattle.cert_check.proofs.walk.check_answers.Goals as goal

pub new-sym-requires : goal.new-sym-requires
new-sym-requires c =
    let s = c.args.descent.now in
    subst (λ (o : Origin). AreKnown o.form c.path.result.now.facts c.path.result.now.floors) (sym c.path.ensures.origin)
    (known_along s.job.now (path_at s) c.path.result.now.facts c.path.result.now.floors s.sound c.requires.few c.path.ensures.facts c.path.ensures.floors)

pub check_new_leaf-requires : goal.check_new_leaf-requires
check_new_leaf-requires c = ap (λ (t : State). t.coeffs) c.new-sym.ensures.state

pub returns-in-Accepted : goal.returns-in-Accepted
returns-in-Accepted c =
    let s = c.args.descent.now in
    let path = path_at s in
    let n = c.args.number in
    let leaf = c.in_ok-check_new_leaf in
    let along : StandsOver s.job.now.range path c.new-sym.result = record {
      formed = subst (λ form. IsFormed form s.job.now.range) (sym (form_is s.job.now.form s.above)) s.job.now.ok.formed;
      sound = sound_is path s.sound;
      entailed = s.entailed;
      origin_is = ap (λ (p : Path). p.origin) c.new-sym.ensures.path ∙ c.path.ensures.origin;
      facts_are = ap (λ (p : Path). p.facts) c.new-sym.ensures.path ∙ c.path.ensures.facts;
      floors_are = ap (λ (p : Path). p.floors) c.new-sym.ensures.path ∙ c.path.ensures.floors;
      kept = λ world. ap (λ (t : State). t.kept.worlds world) c.new-sym.ensures.state
          ∙ (λ i. is_kept (c.path.ensures.origin i) (c.path.ensures.facts i) (c.path.ensures.floors i) world);
    } in
    let over : StandsOver c.job.result.now.range path c.new-sym.result = subst (λ (j : Job). StandsOver j.range path c.new-sym.result) (sym c.job.ensures) along in
    let found = subst (λ (j : Job). IsLeafVerdict j n path c.new-sym.result.tape.now leaf.field-0) c.job.ensures (leaf.ensures.verdict path over) in
    let here = subst (λ t. IsLeafVerdict s.job.now n path t leaf.field-0) c.new-sym.ensures.tape found in
    let at = subst (λ (v : Verdict). IsLeafVerdict s.job.now n path c.args.answers.now v) c.in-Accepted.is here in
    judged s.job.now (node_on path (by_answers c.args.answers.now)) n tt (record { shaped = refl; decides = at })

pub returns : goal.returns
returns c =
    let s = c.args.descent.now in
    let path = path_at s in
    let n = c.args.number in
    let leaf = c.in_ok-check_new_leaf in
    let along : StandsOver s.job.now.range path c.new-sym.result = record {
      formed = subst (λ form. IsFormed form s.job.now.range) (sym (form_is s.job.now.form s.above)) s.job.now.ok.formed;
      sound = sound_is path s.sound;
      entailed = s.entailed;
      origin_is = ap (λ (p : Path). p.origin) c.new-sym.ensures.path ∙ c.path.ensures.origin;
      facts_are = ap (λ (p : Path). p.facts) c.new-sym.ensures.path ∙ c.path.ensures.facts;
      floors_are = ap (λ (p : Path). p.floors) c.new-sym.ensures.path ∙ c.path.ensures.floors;
      kept = λ world. ap (λ (t : State). t.kept.worlds world) c.new-sym.ensures.state
          ∙ (λ i. is_kept (c.path.ensures.origin i) (c.path.ensures.facts i) (c.path.ensures.floors i) world);
    } in
    let over : StandsOver c.job.result.now.range path c.new-sym.result = subst (λ (j : Job). StandsOver j.range path c.new-sym.result) (sym c.job.ensures) along in
    let found = subst (λ (j : Job). IsLeafVerdict j n path c.new-sym.result.tape.now leaf.field-0) c.job.ensures (leaf.ensures.verdict path over) in
    let here = subst (λ t. IsLeafVerdict s.job.now n path t leaf.field-0) c.new-sym.ensures.tape found in
    let at = subst (λ (v : Verdict). IsLeafVerdict s.job.now n path c.args.answers.now v) c.in-Rejected.is here in
    let node = node_on path (by_answers c.args.answers.now) in
    subst (λ m. Judges s.job.now node m c.rejected.result) at.0
    (c.rejected.ensures s.job.now node (leaf_rejected s.job.now path c.args.answers.now c.in-Rejected.reject at.1))
