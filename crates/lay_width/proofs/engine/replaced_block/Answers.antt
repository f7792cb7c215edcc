use Rattle.std.proofs.Common.{IsTrue, sym, subst, arith}
use Rattle.std.proofs.lemmas.Grind.{common_steps}
use Rattle.viz_calc.specs.World.{Reading}
use Rattle.viz_calc.specs.Run.{Blames}
use Rattle.viz_calc.proofs.Runs.{Goes-then, Blames-then}
use Rattle.lay_width.specs.Readings.{widths_at}
use Rattle.lay_width.specs.Fitting.{ReplacedBlockFits, ReplacedBetweenFits}
use Rattle.lay_width.proofs.engine.replaced_block.Goals as goal

pub returns : goal.returns
returns g c = record {
  goes = Goes-then _ _ _ c.edges-edges.ensures.goes c.replaced_between.ensures.goes;
  value = grind (arith, common_steps);
  cause =
      let run = g.S.Steady.run in
      let at = g.S.Steady.at in
      let tree = c.args.tree.now in
      let b = c.args.b in
      let edges = c.edges-edges.ensures in
      let more = (e : Reading) → IsTrue ((run c.args.calc.now).is_open e) → ReplacedBlockFits tree e.world b (at c.args.cb.now e) in
      let first : Blames (run c.args.calc.now) (run c.edges-edges.new.calc) more = record {
        mem = edges.cause.mem;
        coeff = λ f. edges.cause.coeff (λ e o. (f e o).0);
        opens = edges.cause.opens;
      } in
      Blames-then (run c.args.calc.now) (run c.edges-edges.new.calc) (run c.replaced_between.new.calc)
      ((e : Reading) → IsTrue ((run c.edges-edges.new.calc).is_open e) → ReplacedBetweenFits tree e.world b (at c.args.cb.now e) (widths_at at c.edges-edges.result e))
      more edges.goes c.replaced_between.ensures.goes first
      (λ f e o. subst (λ t. ReplacedBetweenFits tree e.world b (at c.args.cb.now e) t) (sym (edges.value e o)) (f e (edges.goes.closes e o)).1)
      c.replaced_between.ensures.cause;
}
