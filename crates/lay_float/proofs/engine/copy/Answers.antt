use Rattle.std.proofs.Common.{refl, ◌∙◌, sym, arith}
use Rattle.std.proofs.lemmas.Grind.{common_steps}
use Rattle.std.specs.Prelude.{⊤}
use Rattle.viz_calc.proofs.Runs.{Goes-then, BlamesButMem-then}
use Rattle.layout_laws.proofs.Members.{to_map}
use Rattle.lay_float.specs.Readings.{box_at, boxes_at}
use Rattle.lay_float.proofs.Loops.{copied, all-copied}
use Rattle.lay_float.proofs.Spots.{edges_fit}
use Rattle.lay_float.proofs.engine.copy.Goals as goal

pub loop-f-preserved : goal.loop-f-preserved
loop-f-preserved g c =
    let at = g.S.Steady.at in
    let run = g.S.Steady.run in
    let goes = Goes-then _ _ _ c.loop-f.invariant.goes c.copy_float-copied.ensures.goes in
    record {
      goes = Goes-then _ _ _ goes c.append.ensures.goes;
      value = λ e o.
          let o1 = c.append.ensures.goes.closes e o in
          copied (λ f. box_at at f e) c.loop-f.out.placed c.append.new.floats.placed c.args.floats.now c.loop-f.f-index c.copy_float-copied.result c.f-item.result
          c.loop-f-test.true c.f-item.is (c.append.ensures.value e o) (c.copy_float-copied.ensures.value e o1)
          ∙ c.loop-f.invariant.value e (c.copy_float-copied.ensures.goes.closes e o1);
      cause =
          let first = BlamesButMem-then (run c.args.calc.now) (run c.loop-f.calc) (run c.copy_float-copied.new.calc) _ _ c.loop-f.invariant.goes c.copy_float-copied.ensures.goes c.loop-f.invariant.cause
          (λ f e o.
          edges_fit (boxes_at at c.args.floats.now e) (box_at at c.f-item.result e) (f e (c.loop-f.invariant.goes.closes e o))
          (to_map (λ f. box_at at f e) c.args.floats.now c.f-item.result (c.loop-f.f-index, c.loop-f-test.true, sym c.f-item.is)))
          (record { coeff = c.copy_float-copied.ensures.cause.coeff; opens = c.copy_float-copied.ensures.cause.opens }) in
          BlamesButMem-then (run c.args.calc.now) (run c.copy_float-copied.new.calc) (run c.append.new.calc) ⊤ _ goes c.append.ensures.goes first (λ _. tt) c.append.ensures.cause;
    }

pub returns : goal.returns
returns g c = record {
  goes = grind (arith, common_steps);
  value = λ e o.
      let at = g.S.Steady.at in
      all-copied (λ f. box_at at f e) c.loop-f.out.placed c.args.floats.now c.loop-f.f-index (omega arith) ∙ c.loop-f.invariant.value e o;
  cause = grind (arith, common_steps);
  ended = refl;
}
