use Rattle.std.proofs.Common.{arith}
use Rattle.std.proofs.lemmas.Grind.{common_steps}
use Rattle.viz_calc.proofs.Blamed.{Blames-given}
use Rattle.viz_calc.proofs.Runs.{Goes-then, Blames-then}
use Rattle.vis_truth.proofs.terms.comparison.Goals as goal

pub returns : goal.returns
returns g c = record {
  goes = Goes-then _ _ _ (Goes-then _ _ _ c.term-left.ensures.goes c.term-right.ensures.goes) c.compare.ensures.goes;
  value = grind (arith, common_steps);
  cause =
      let left = c.term-left.ensures in
      let right = c.term-right.ensures in
      Blames-then _ _ _ _ _ (Goes-then _ _ _ left.goes right.goes) c.compare.ensures.goes
      (Blames-then _ _ _ _ _ left.goes right.goes
      (Blames-given _ _ _ _ (λ fits e o. (fits e o).0) left.cause)
      (λ fits e o. (fits e (left.goes.closes e o)).1) right.cause)
      (λ fits e o. tt) c.compare.ensures.cause;
}
