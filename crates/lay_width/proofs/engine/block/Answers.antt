use Rattle.std.proofs.Common.{◌≡◌, true, false, IsTrue, arith, sym, subst, pos}
use Rattle.std.proofs.lemmas.Grind.{common_steps}
use Rattle.viz_calc.specs.World.{Reading}
use Rattle.viz_calc.specs.Run.{Blames}
use Rattle.viz_calc.proofs.Runs.{Goes-then, Blames-then}
use Rattle.layout_semantics.specs.Horizontal.{is_auto, terms_around}
use Rattle.lay_width.specs.Readings.{widths_at}
use Rattle.lay_width.specs.Fitting.{own_width_of, BlockFits, BlockFitsBy, GivenBlockFits}
use Rattle.lay_width.proofs.ClampedTerms.{block-auto, block-length}
use Rattle.lay_width.proofs.engine.block.Goals as goal

pub returns-then-is_auto : goal.returns-then-is_auto
returns-then-is_auto g c = record {
  goes = grind (arith, common_steps);
  value = λ e o.
      let auto : is_auto (own_width_of c.args.tree.now c.args.b) ≡ true = grind arith in
      let is = block-auto c.args.tree.now e.world c.args.b (g.S.Steady.at c.args.cb.now e) auto in
      grind arith;
  cause = grind (arith, common_steps);
}

pub returns-else-is_auto : goal.returns-else-is_auto
returns-else-is_auto g c = record {
  goes = Goes-then _ _ _ c.edges-edges.ensures.goes c.given_block.ensures.goes;
  value = λ e o.
      let given : is_auto (own_width_of c.args.tree.now c.args.b) ≡ false = grind arith in
      let is = block-length c.args.tree.now e.world c.args.b (g.S.Steady.at c.args.cb.now e) given in
      grind arith;
  cause =
      let run = g.S.Steady.run in
      let at = g.S.Steady.at in
      let tree = c.args.tree.now in
      let b = c.args.b in
      let length = own_width_of tree b in
      let given : is_auto (own_width_of c.args.tree.now c.args.b) ≡ false = grind arith in
      let edges = c.edges-edges.ensures in
      let more = (e : Reading) → IsTrue ((run c.args.calc.now).is_open e) → BlockFits tree e.world b (at c.args.cb.now e) in
      let first : Blames (run c.args.calc.now) (run c.edges-edges.new.calc) more = record {
        mem = edges.cause.mem;
        coeff = λ f. edges.cause.coeff (λ e o. (f e o).0);
        opens = edges.cause.opens;
      } in
      Blames-then (run c.args.calc.now) (run c.edges-edges.new.calc) (run c.given_block.new.calc)
      ((e : Reading) → IsTrue ((run c.edges-edges.new.calc).is_open e) → GivenBlockFits tree e.world b (at c.args.cb.now e) length (widths_at at c.edges-edges.result e))
      more edges.goes c.given_block.ensures.goes first
      (λ f e o. subst (λ t. GivenBlockFits tree e.world b (at c.args.cb.now e) length t) (sym (edges.value e o))
      (subst (λ x. BlockFitsBy x tree e.world b (at c.args.cb.now e) (terms_around tree e.world b (at c.args.cb.now e) (pos 0))) given (f e (edges.goes.closes e o)).1))
      c.given_block.ensures.cause;
}
