use Rattle.std.proofs.Common.{◌≡◌, suc, ◌+◌, ◌-◌, Some, None, IsTrue, arith, sym, ap, ◌∙◌, subst}
use Rattle.std.proofs.lemmas.Grind.{common_steps}
use Rattle.viz_calc.specs.World.{Reading}
use Rattle.viz_calc.specs.Run.{Blames}
use Rattle.viz_calc.proofs.Runs.{Goes-then, Blames-then}
use Rattle.layout_semantics.specs.DefiniteHeights.{container_to, percentage_container}
use Rattle.lay_width.specs.Readings.{option_at}
use Rattle.lay_width.specs.Fitting.{DefiniteFits_to, OwnHeightFits}
use Rattle.lay_width.proofs.Levels.{definite-none, definite-step, fits-step, fits-root}
use Rattle.lay_width.proofs.heights.+definite_height.Goals as goal

pub returns-then-levels-eq0 : goal.returns-then-levels-eq0
returns-then-levels-eq0 g t c = record {
  goes = grind (arith, common_steps);
  value = λ e o. sym (definite-none c.args.levels c.args.tree.now e.world c.args.b c.if-levels-eq0.true);
  cause = grind (arith, common_steps);
}

pub returns-in-Some : goal.returns-in-Some
returns-in-Some g t c = record {
  goes = Goes-then _ _ _ c.definite_height-around.ensures.goes c.own_height_around.ensures.goes;
  value = λ e o.
      let up : c.args.levels ≡ suc (c.args.levels - 1) = omega arith in
      let one : c.from.result + 1 ≡ suc c.args.b = grind arith in
      let outer : percentage_container c.args.tree.now c.args.b ≡ Some c.in-Some.outer = sym (ap (λ n. container_to n c.args.tree.now c.args.b) one) ∙ grind arith in
      let is = definite-step c.args.levels (c.args.levels - 1) c.args.tree.now e.world c.args.b (Some c.in-Some.outer) up outer in
      grind arith;
  cause =
      let run = g.S.Steady.run in
      let up : c.args.levels ≡ suc (c.args.levels - 1) = omega arith in
      let one : c.from.result + 1 ≡ suc c.args.b = grind arith in
      let outer : percentage_container c.args.tree.now c.args.b ≡ Some c.in-Some.outer = sym (ap (λ n. container_to n c.args.tree.now c.args.b) one) ∙ grind arith in
      let more = (e : Reading) → IsTrue ((run c.args.calc.now).is_open e) → DefiniteFits_to c.args.levels c.args.tree.now e.world c.args.b in
      let parts = (λ (f : more) (e : Reading) (o : IsTrue ((run c.args.calc.now).is_open e)).
      fits-step c.args.levels (c.args.levels - 1) c.args.tree.now e.world c.args.b c.in-Some.outer up outer (f e o)) in
      let around = c.definite_height-around.ensures in
      let first : Blames (run c.args.calc.now) (run c.definite_height-around.new.calc) more = record {
        mem = around.cause.mem;
        coeff = λ f. around.cause.coeff (λ e o. (parts f e o).0);
        opens = around.cause.opens;
      } in
      Blames-then (run c.args.calc.now) (run c.definite_height-around.new.calc) (run c.own_height_around.new.calc)
      ((e : Reading) → IsTrue ((run c.definite_height-around.new.calc).is_open e) → OwnHeightFits c.args.tree.now e.world (option_at g.S.Steady.at c.definite_height-around.result e) c.in-Some.outer)
      more around.goes c.own_height_around.ensures.goes first
      (λ f e o. subst (λ h. OwnHeightFits c.args.tree.now e.world h c.in-Some.outer) (sym (around.value e o)) (parts f e (around.goes.closes e o)).1)
      c.own_height_around.ensures.cause;
}

pub returns-in-None : goal.returns-in-None
returns-in-None g t c = record {
  goes = c.height.ensures.goes;
  value = λ e o.
      let up : c.args.levels ≡ suc (c.args.levels - 1) = omega arith in
      let one : c.from.result + 1 ≡ suc c.args.b = grind arith in
      let outer : percentage_container c.args.tree.now c.args.b ≡ None = sym (ap (λ n. container_to n c.args.tree.now c.args.b) one) ∙ grind arith in
      let is = definite-step c.args.levels (c.args.levels - 1) c.args.tree.now e.world c.args.b None up outer in
      grind arith;
  cause =
      let up : c.args.levels ≡ suc (c.args.levels - 1) = omega arith in
      let one : c.from.result + 1 ≡ suc c.args.b = grind arith in
      let outer : percentage_container c.args.tree.now c.args.b ≡ None = sym (ap (λ n. container_to n c.args.tree.now c.args.b) one) ∙ grind arith in
      let cause = c.height.ensures.cause in
      record {
        mem = cause.mem;
        coeff = λ f. cause.coeff (λ e o. fits-root c.args.levels (c.args.levels - 1) c.args.tree.now e.world c.args.b up outer (f e o));
        opens = cause.opens;
      };
}
