use Rattle.std.proofs.Common.{arith}
use Rattle.std.proofs.lemmas.Grind.{common_steps}
use Rattle.viz_calc.proofs.Blamed.{Blames-given}
use Rattle.viz_calc.proofs.Runs.{Goes-then, Blames-then}
use Rattle.lay_width.proofs.terms.left_over.Goals as goal

pub returns-then-le : goal.returns-then-le
returns-then-le g c = record {
  goes = Goes-then _ _ _ (Goes-then _ _ _ c.zero-none.ensures.goes c.sub-rest.ensures.goes) c.if-le.ensures.goes;
  value = grind (arith, common_steps);
  cause =
      let none = c.zero-none.ensures in
      let rest = c.sub-rest.ensures in
      Blames-then _ _ _ _ _ (Goes-then _ _ _ none.goes rest.goes) c.if-le.ensures.goes
      (Blames-then _ _ _ _ _ none.goes rest.goes
      (Blames-given _ _ _ _ (λ f e o. ((f e o).0, tt)) none.cause)
      (λ f e o. ((f e (none.goes.closes e o)).1.0, tt)) rest.cause)
      (λ f. tt) c.if-le.ensures.cause;
}

pub returns-else-le : goal.returns-else-le
returns-else-le g c = record {
  goes = Goes-then _ _ _ (Goes-then _ _ _ c.zero-none.ensures.goes c.sub-rest.ensures.goes) c.if-le.ensures.goes;
  value = grind (arith, common_steps);
  cause =
      let none = c.zero-none.ensures in
      let rest = c.sub-rest.ensures in
      Blames-then _ _ _ _ _ (Goes-then _ _ _ none.goes rest.goes) c.if-le.ensures.goes
      (Blames-then _ _ _ _ _ none.goes rest.goes
      (Blames-given _ _ _ _ (λ f e o. ((f e o).0, tt)) none.cause)
      (λ f e o. ((f e (none.goes.closes e o)).1.0, tt)) rest.cause)
      (λ f. tt) c.if-le.ensures.cause;
}
