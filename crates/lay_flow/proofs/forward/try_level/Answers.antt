use Rattle.std.proofs.Common.{◌≡◌, Some, sym, subst, ◌∙◌, arith}
use Rattle.std.proofs.lemmas.Grind.{common_steps}
use Rattle.viz_calc.specs.World.{Reading}
use Rattle.viz_calc.specs.Run.{BlamesButMem}
use Rattle.viz_calc.specs.State.{WhereOpen}
use Rattle.viz_calc.proofs.Runs.{Goes-then}
use Rattle.layout_laws.proofs.Truths.{le}
use Rattle.lay_line.proofs.Chains.{but_mem, start_but_mem, next_but_mem}
use Rattle.lay_margin.specs.Readings.{floats_at as waiting_at}
use Rattle.lay_margin.specs.Runs.{run_at}
use Rattle.lay_flow.specs.Levels.{IsWithin, StaysFree}
use Rattle.lay_flow.specs.WayFits.{IsGroundLow, IsGoingLow}
use Rattle.lay_flow.specs.Ways.{ground_at, AreTried}
use Rattle.lay_flow.proofs.LevelTells.{near-waits}
use Rattle.lay_flow.proofs.forward.try_level.Goals.{then-tries-le-MANY-via-then-tries-le-MANY, then-tries-le-MANY-via-else-tries-le-MANY+then-not-is_level_for}
use Rattle.lay_flow.proofs.forward.try_level.Goals as goal

pub returns-then-tries-le-MANY-clause-cause : goal.returns-then-tries-le-MANY-clause-cause
returns-then-tries-le-MANY-clause-cause g c =
    let at = g.S.Steady.at in
    let run = g.S.Steady.run in
    let ground = (λ (e : Reading). ground_at at c.args.way.now e) in
    let asks = (λ (e : Reading). IsGroundLow (ground e).base (ground e).floats (ground e).least × IsGoingLow (ground e).size (run_at at c.args.asked.now.run.now e) (waiting_at at c.args.asked.now.waiting.now e)) in
    elim c.then-tries-le-MANY.branch [
      | then-tries-le-MANY-via-then-tries-le-MANY w ↦
          subst (λ k. BlamesButMem (run c.args.calc.now) (run k) (WhereOpen (run c.args.calc.now).is_open asks)) (sym w.calc-is) (grind (arith, common_steps))
      | then-tries-le-MANY-via-else-tries-le-MANY+then-not-is_level_for w ↦
          subst (λ k. BlamesButMem (run c.args.calc.now) (run k) (WhereOpen (run c.args.calc.now).is_open asks)) (sym w.calc-is)
          (start_but_mem {asks = asks} w.is_level_for.ensures.goes (but_mem w.is_level_for.ensures.cause) (λ f e o. ((f e o).0.edge, (f e o).1.margins))).cause
    ]

pub try_rest-tries-requires : goal.try_rest-tries-requires
try_rest-tries-requires g c = λ e o.
    subst (AreTried g.S.Steady.at c.args.way.now e (waiting_at g.S.Steady.at c.args.asked.now.waiting.now e)) c.in-Some.is (c.requires e (c.is_level_for.ensures.goes.closes e o))

pub returns-then-le-clause-goes : goal.returns-then-le-clause-goes
returns-then-le-clause-goes g c = Goes-then _ _ _ (Goes-then _ _ _ c.is_level_for.ensures.goes c.try_rest-tries.ensures.goes) c.le.ensures.goes

pub returns-then-le-clause-level : goal.returns-then-le-clause-level
returns-then-le-clause-level g c = λ e o.
    let at = g.S.Steady.at in
    let ground = ground_at at c.args.way.now e in
    let run = run_at at c.args.asked.now.run.now e in
    let tries = c.try_rest-tries.result in
    let o2 = c.le.ensures.goes.closes e o in
    let edge = sym c.try_rest-tries.ensures.edge in
    let level = c.is_level_for.ensures.value e (c.try_rest-tries.ensures.goes.closes e o2) c.if-not-is_level_for.false in
    record {
      tried = c.try_rest-tries.ensures.value e o2;
      level = record {
        level = le (at tries.trial.level e) (at tries.y e) (sym (c.le.ensures.value e o) ∙ c.if-le.true);
        free = subst (λ z. StaysFree ground.floats ground.least (at z e) (at c.args.y.now e)) edge level.free;
        within = subst (λ z. IsWithin ground.base run (at z e)) edge level.within;
      };
    }

pub returns-then-le-clause-cause : goal.returns-then-le-clause-cause
returns-then-le-clause-cause g c =
    let at = g.S.Steady.at in
    let way = c.args.way.now in
    let ground = (λ (e : Reading). ground_at at way e) in
    let run = (λ (e : Reading). run_at at c.args.asked.now.run.now e) in
    let ws = (λ (e : Reading). waiting_at at c.args.asked.now.waiting.now e) in
    let asks = (λ (e : Reading). IsGroundLow (ground e).base (ground e).floats (ground e).least × IsGoingLow (ground e).size (run e) (ws e)) in
    let level = c.is_level_for.ensures in
    let rest = c.try_rest-tries.ensures in
    let one = start_but_mem {asks = asks} level.goes (but_mem level.cause) (λ f e o. ((f e o).0.edge, (f e o).1.margins)) in
    let two = next_but_mem one rest.goes rest.cause (λ f e o. near-waits at way e (run e) (ws e) (at c.in-Some.tries.y e) (level.value e o c.if-not-is_level_for.false).within (f e o).0 (f e o).1) in
    (next_but_mem two c.le.ensures.goes (but_mem c.le.ensures.cause) (λ f. tt)).cause

pub returns-else-le-clause-goes : goal.returns-else-le-clause-goes
returns-else-le-clause-goes g c = Goes-then _ _ _ (Goes-then _ _ _ c.is_level_for.ensures.goes c.try_rest-tries.ensures.goes) c.le.ensures.goes

pub returns-else-le-clause-kept : goal.returns-else-le-clause-kept
returns-else-le-clause-kept g c = λ e o. (c.try_rest-tries.ensures.value e (c.le.ensures.goes.closes e o)).1

pub returns-else-le-clause-cause : goal.returns-else-le-clause-cause
returns-else-le-clause-cause g c =
    let at = g.S.Steady.at in
    let way = c.args.way.now in
    let ground = (λ (e : Reading). ground_at at way e) in
    let run = (λ (e : Reading). run_at at c.args.asked.now.run.now e) in
    let ws = (λ (e : Reading). waiting_at at c.args.asked.now.waiting.now e) in
    let asks = (λ (e : Reading). IsGroundLow (ground e).base (ground e).floats (ground e).least × IsGoingLow (ground e).size (run e) (ws e)) in
    let level = c.is_level_for.ensures in
    let rest = c.try_rest-tries.ensures in
    let one = start_but_mem {asks = asks} level.goes (but_mem level.cause) (λ f e o. ((f e o).0.edge, (f e o).1.margins)) in
    let two = next_but_mem one rest.goes rest.cause (λ f e o. near-waits at way e (run e) (ws e) (at c.in-Some.tries.y e) (level.value e o c.if-not-is_level_for.false).within (f e o).0 (f e o).1) in
    (next_but_mem two c.le.ensures.goes (but_mem c.le.ensures.cause) (λ f. tt)).cause
