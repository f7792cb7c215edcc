use Rattle.std.proofs.Common.{[], ◌++◌, ap, ◌∙◌, sym, subst}
use Rattle.viz_calc.specs.Renderings.{band_at}
use Rattle.lay_margin.specs.Readings.{floats_at, passed_by}
use Rattle.lay_margin.specs.Runs.{run_at, IsRunOf}
use Rattle.lay_margin.specs.steps.Leads.{Going, lead_of}
use Rattle.layout_semantics.specs.Leads.{lead}
use Rattle.lay_margin.proofs.Joined.{lead-joined, joined-run}
use Rattle.lay_margin.proofs.leads.whole_lead.Goals as goal

pub returns-clause-value : goal.returns-clause-value
returns-clause-value g c = λ e o.
    let at = g.S.Steady.at in
    let tree = c.args.tree.now in
    let passed = passed_by c.args.past in
    let cb = band_at at c.args.cb.now e in
    let own = c.copy_run-own.ensures.value e (c.lead-ended.ensures.goes.closes e o) in
    c.lead-ended.ensures.value e o
    ∙ ap (λ r. lead_of tree e.world passed cb c.args.b r (floats_at at c.new-waiting.result e)) own
    ∙ ap (λ ws. lead_of tree e.world passed cb c.args.b (run_at at c.args.run.now e) (floats_at at ws e)) c.new-waiting.ensures
    ∙ lead-joined tree e.world passed cb c.args.b (run_at at c.args.run.now e) []

pub returns-clause-margins : goal.returns-clause-margins
returns-clause-margins g c = λ e o ms is.
    let at = g.S.Steady.at in
    let tree = c.args.tree.now in
    let passed = passed_by c.args.past in
    let cb = band_at at c.args.cb.now e in
    let all = (lead tree e.world passed cb c.args.b).margins in
    let own = c.copy_run-own.ensures.value e (c.lead-ended.ensures.goes.closes e o) in
    let value =
    c.lead-ended.ensures.value e o
    ∙ ap (λ r. lead_of tree e.world passed cb c.args.b r (floats_at at c.new-waiting.result e)) own
    ∙ ap (λ ws. lead_of tree e.world passed cb c.args.b (run_at at c.args.run.now e) (floats_at at ws e)) c.new-waiting.ensures
    ∙ lead-joined tree e.world passed cb c.args.b (run_at at c.args.run.now e) [] in
    subst (λ r. IsRunOf r (ms ++ all)) (sym (ap (λ (t : Going). t.run) value)) (joined-run (run_at at c.args.run.now e) ms all is)
