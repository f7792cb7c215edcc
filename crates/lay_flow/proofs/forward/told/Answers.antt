use Rattle.std.proofs.Common.{ap, ◌∙◌}
use Rattle.viz_calc.specs.World.{Reading}
use Rattle.lay_line.proofs.Chains.{but_mem, start_but_mem, next_but_mem}
use Rattle.lay_margin.specs.Readings.{floats_at as waiting_at}
use Rattle.lay_margin.specs.Runs.{run_at}
use Rattle.lay_flow.specs.WayFits.{IsGroundLow, IsGoingLow}
use Rattle.lay_flow.specs.Ways.{ground_at, WaitingFitsAt}
use Rattle.lay_flow.proofs.LevelTells.{trial-half, ground-half, tells-of}
use Rattle.lay_flow.proofs.forward.told.Goals as goal

pub returns-in-Ok : goal.returns-in-Ok
returns-in-Ok g c =
    let at = g.S.Steady.at in
    let way = c.args.way.now in
    let tries = c.in-Ok.tries in
    let ground = (λ (e : Reading). ground_at at way e) in
    let ws = (λ (e : Reading). waiting_at at c.args.asked.now.waiting.now e) in
    let run = (λ (e : Reading). run_at at c.args.asked.now.run.now e) in
    let y = (λ (e : Reading). at c.args.y e) in
    let asks = (λ (e : Reading). WaitingFitsAt at way e (y e) (ws e) × IsGroundLow (ground e).base (ground e).floats (ground e).least × IsGoingLow (ground e).size (run e) (ws e)) in
    let found = c.in-Ok.ensures in
    let told = c.clears_level-cleared.ensures in
    let one = start_but_mem {asks = asks} found.goes found.cause (λ f e o. ((f e o).1, (f e o).2)) in
    let chain = next_but_mem one told.goes (but_mem told.cause) (λ f e o.
    let h = f e o in
    (ground-half (ground e).base (ground e).floats (ground e).least h.1, trial-half at way e (run e) (ws e) tries (y e) (found.level e o) h.1 h.2)) in
    record {
      goes = chain.goes;
      value = λ e o.
          told.value e o ∙ tells-of at way e c.args.asked.now.b (run e) (ws e) tries (y e) (found.level e (told.goes.closes e o));
      kept = λ e o. (found.level e (told.goes.closes e o)).tried.1;
      cause = chain.cause;
    }

pub returns-in-Err : goal.returns-in-Err
returns-in-Err g c =
    let at = g.S.Steady.at in
    let way = c.args.way.now in
    let ground = (λ (e : Reading). ground_at at way e) in
    let ws = (λ (e : Reading). waiting_at at c.args.asked.now.waiting.now e) in
    let run = (λ (e : Reading). run_at at c.args.asked.now.run.now e) in
    let y = (λ (e : Reading). at c.args.y e) in
    let asks = (λ (e : Reading). WaitingFitsAt at way e (y e) (ws e) × IsGroundLow (ground e).base (ground e).floats (ground e).least × IsGoingLow (ground e).size (run e) (ws e)) in
    let found = c.in-Err.ensures in
    let told = c.told_at.ensures in
    let one = start_but_mem {asks = asks} found.goes found.cause (λ f e o. ((f e o).1, (f e o).2)) in
    let chain = next_but_mem one told.goes told.cause (λ f e o. (f e o).0) in
    record {
      goes = chain.goes;
      value = told.value;
      kept = told.kept;
      cause = chain.cause;
    }
