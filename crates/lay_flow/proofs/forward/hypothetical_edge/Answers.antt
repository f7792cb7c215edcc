use Rattle.std.proofs.Common.{Some, ap, sym, subst, length, arith}
use Rattle.std.proofs.lemmas.Grind.{common_steps}
use Rattle.viz_calc.specs.World.{Reading}
use Rattle.viz_calc.specs.Renderings.{band_at}
use Rattle.lay_line.proofs.Chains.{but_mem, start_but_mem, next_but_mem}
use Rattle.lay_margin.specs.Readings.{floats_at, passed_by}
use Rattle.lay_margin.specs.Runs.{run_at}
use Rattle.lay_margin.specs.steps.Leads.{Going}
use Rattle.lay_flow.specs.Low.{IsBaseLow, IsRunLow}
use Rattle.lay_flow.specs.Readings.{base_at}
use Rattle.lay_flow.specs.WayFits.{IsLeadLow}
use Rattle.lay_flow.proofs.LeadsLow.{lead-low}
use Rattle.lay_flow.proofs.Sizes.{ends-fit}
use Rattle.lay_steps.specs.Forward.{hypothetical_edge}
use Rattle.lay_flow.proofs.forward.hypothetical_edge.Goals as goal

pub returns : goal.returns
unfolding hypothetical_edge
returns g c =
    let at = g.S.Steady.at in
    let tree = c.args.way.now.page.now.tree.now in
    let b = c.args.b in
    let run = (λ (e : Reading). run_at at c.args.run.now e) in
    let cb = (λ (e : Reading). band_at at c.args.cb.now e) in
    let asks = (λ (e : Reading). IsBaseLow (base_at at c.args.way.now.base.now e) × IsRunLow (run e) × IsLeadLow tree e.world (cb e) b) in
    let own = c.copy_run-own.ensures in
    let led = c.lead.ensures in
    let one = start_but_mem {asks = asks} own.goes (but_mem own.cause) (λ f e o. ends-fit (run e) (f e o).1) in
    let two = next_but_mem one led.goes led.cause (λ f e o band k r. ((f e o).2 band k r).fits) in
    let chain = next_but_mem two c.edge.ensures.goes (but_mem c.edge.ensures.cause) (λ f e o. (
      (f e o).0,
      subst IsRunLow (sym (ap (λ (t : Going). t.run) (led.value e o)))
          (lead-low tree e.world (passed_by (Some b)) (length tree.boxes) (cb e) b (run_at at c.copy_run-own.result e) (floats_at at c.new-waiting.result e) (f e o).2
          (subst IsRunLow (sym (own.value e (led.goes.closes e o))) (f e o).1)),
    )) in
    record {
      goes = chain.goes;
      value = grind (arith, common_steps);
      cause = chain.cause;
    }
