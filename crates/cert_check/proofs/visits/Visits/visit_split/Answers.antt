use Rattle.std.proofs.Common.{◌≡◌, ◌+◌, ◌∙◌, [], ◌∷◌, Err, refl, sym, ap}
use Rattle.std.specs.Option.{option_and_then}
use Rattle.std.proofs.lemmas.Bool.{and_parts}
use Rattle.std.proofs.lemmas.Result.{err_from_is_err_and}
use Rattle.viz_base.specs.declared.jobs.Job.{Job}
use Rattle.cert_semantics.specs.Paths.{form_of, is_declared}
use Rattle.cert_semantics.specs.Shapes.{has_variable}
use Rattle.cert_semantics.specs.Nodes.{splits, node_on}
use Rattle.viz_base.specs.declared.rectangles.Child.TheVariants.{First}
use Rattle.cert_check.specs.declared.visits.Pending.{Pending}
use Rattle.cert_check.specs.declared.visits.Visits.{Visits}
use Rattle.cert_semantics.specs.Units.{cut_of, cut_at}
use Rattle.cert_check.specs.steps.Ways.{path_at}
use Rattle.cert_check.proofs.Descents.{form_is}
use Rattle.cert_check.proofs.Judging.{is_judged}
use Rattle.cert_check.proofs.Tellings.{tells_one}
use Rattle.cert_check.proofs.Turns.{told_err, told_mem, below_first}
use Rattle.cert_check.proofs.visits.Visits.visit_split.Goals as goal

pub returns-in_err-check_split-clause-tells : goal.returns-in_err-check_split-clause-tells
returns-in_err-check_split-clause-tells c =
    let s = c.args.self.now.descent in
    let p = err_from_is_err_and c.from_residual.result c.from_residual.ensures.1 in
    told_err s.job.now (node_on (path_at s) (splits c.args.row)) c.args.number c.from_residual.result c.in_err-check_split.field-0.0 (p.1 ∙ ap Err p.2) c.in_err-check_split.ensures

pub enter_first-requires : goal.enter_first-requires
enter_first-requires c =
    let s = c.args.self.now.descent in
    let good = is_judged s.job.now (node_on (path_at s) (splits c.args.row)) c.args.number c.in_ok-check_split.field-0 c.in_ok-check_split.ensures in
    (and_parts (is_declared (path_at s) c.args.row) (has_variable c.args.row) good.shaped).0

pub returns-in_err-enter_first-clause-tells : goal.returns-in_err-enter_first-clause-tells
returns-in_err-enter_first-clause-tells c =
    let s = c.args.self.now.descent in
    let p = err_from_is_err_and c.from_residual-in_err-enter_first.result c.from_residual-in_err-enter_first.ensures.1 in
    told_mem s.job.now (node_on (path_at s) (splits c.args.row) ∷ []) c.args.number c.from_residual-in_err-enter_first.result (p.1 ∙ ap Err p.2)

pub returns-in_err-hold-clause-tells : goal.returns-in_err-hold-clause-tells
returns-in_err-hold-clause-tells c =
    let s = c.args.self.now.descent in
    let p = err_from_is_err_and c.from_residual-in_err-hold.result c.from_residual-in_err-hold.ensures.1 in
    told_mem s.job.now (node_on (path_at s) (splits c.args.row) ∷ []) c.args.number c.from_residual-in_err-hold.result (p.1 ∙ ap Err p.2)

pub returns-clause-tells : goal.returns-clause-tells
returns-clause-tells c =
    let s = c.args.self.now.descent in
    tells_one s.job.now (node_on (path_at s) (splits c.args.row)) c.args.number (c.args.number + 1) c.in_ok-check_split.field-0 c.in_ok-check_split.ensures

pub returns-clause-due : goal.returns-clause-due
returns-clause-due c =
    let old = c.args.self.now in
    let s = old.descent in
    let row = c.args.row in
    let held : Pending = record { row = row; part = old.part } in
    let new : Visits = record { descent = c.enter_first.new.self; part = c.child_part-self.result; pending = c.hold.new.pending } in
    let good = is_judged s.job.now (node_on (path_at s) (splits row)) c.args.number c.in_ok-check_split.field-0 c.in_ok-check_split.ensures in
    let declared = (and_parts (is_declared (path_at s) row) (has_variable row) good.shaped).0 in
    let form : c.job.result.now.form ≡ form_of (path_at s) = ap (λ (j : Job). j.form) (c.job.ensures ∙ c.in_ok-enter_first.ensures.job) ∙ sym (form_is s.job.now.form s.above) in
    let cut = c.child_part-self.ensures ∙ (λ i. option_and_then (cut_at (cut_of (form i) row) First) old.part) in
    below_first old new c.args.number row held c.in_ok-enter_first.ensures.job c.in_ok-enter_first.ensures.above c.in_ok-hold.ensures refl refl declared good.decides cut c.requires.ready
