use Rattle.std.proofs.Common.{◌∷◌, [], ap, sym, subst, arith}
use Rattle.std.proofs.lemmas.Grind.{common_steps}
use Rattle.viz_base.specs.Numbers.{floor_of}
use Rattle.viz_base.specs.declared.styles.Align.TheVariants as of_align
use Rattle.viz_calc.specs.State.{IsSmall}
use Rattle.viz_calc.specs.World.{Reading}
use Rattle.lay_line.specs.LineFits.{OnLine}
use Rattle.lay_line.proofs.Chains.{start, next}
use Rattle.lay_line.proofs.OnLines.{zero_small, moved_small}
use Rattle.viz_calc.proofs.Runs.{Goes-then}
use Rattle.lay_line.proofs.line_content.moved.Goals as goal

pub returns-in-Left : goal.returns-in-Left
returns-in-Left g c = record {
  goes = c.zero.ensures.goes;
  value = grind (arith, common_steps);
  cause = (start c.zero.ensures.goes c.zero.ensures.cause (λ f e o. (zero_small, tt))).cause;
}

pub returns-in-Center : goal.returns-in-Center
returns-in-Center g c = record {
  goes = Goes-then _ _ _ c.spare-spare.ensures.goes c.half.ensures.goes;
  value = grind (arith, common_steps);
  cause =
      let at = g.S.Steady.at in
      let l = (λ (e : Reading). at c.args.room.now.left e) in
      let r = (λ (e : Reading). at c.args.room.now.right e) in
      let h = (λ (e : Reading). at c.args.held.now e) in
      let spare = c.spare-spare.ensures in
      let first = start {asks = λ (e : Reading). OnLine (l e ∷ r e ∷ h e ∷ [])} spare.goes spare.cause (λ f. f) in
      (next first c.half.ensures.goes c.half.ensures.cause (λ f e o.
      (subst IsSmall (sym (ap (λ x. floor_of x 2) (spare.value e o))) (moved_small (l e) (r e) (h e) of_align.Center (f e o)), tt))).cause;
}
