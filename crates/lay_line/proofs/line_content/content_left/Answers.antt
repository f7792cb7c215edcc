use Rattle.std.proofs.Common.{◌∷◌, [], ◌+ℤ◌, ap, sym, subst, arith}
use Rattle.std.proofs.lemmas.Grind.{common_steps}
use Rattle.viz_calc.specs.State.{IsSmall}
use Rattle.viz_calc.specs.World.{Reading}
use Rattle.lay_line.specs.LineFits.{OnLine}
use Rattle.lay_line.proofs.Chains.{start, next}
use Rattle.lay_line.proofs.OnLines.{begin_small}
use Rattle.lay_line.specs.Contexts.{context_at}
use Rattle.lay_line.specs.steps.Lining.{left_in}
use Rattle.viz_calc.proofs.Runs.{Goes-then}
use Rattle.lay_line.proofs.line_content.content_left.Goals as goal

pub returns : goal.returns
unfolding context_at left_in
returns g c = record {
  goes = Goes-then _ _ _ c.moved-by.ensures.goes c.add.ensures.goes;
  value = grind (arith, common_steps);
  cause =
      let at = g.S.Steady.at in
      let l = (λ (e : Reading). at c.args.room.now.left e) in
      let r = (λ (e : Reading). at c.args.room.now.right e) in
      let h = (λ (e : Reading). at c.args.held.now e) in
      let by = c.moved-by.ensures in
      let first = start {asks = λ (e : Reading). OnLine (l e ∷ r e ∷ h e ∷ [])} by.goes by.cause (λ f. f) in
      (next first c.add.ensures.goes c.add.ensures.cause (λ f e o.
      (subst IsSmall (sym (ap (λ x. l e +ℤ x) (by.value e o))) (begin_small (l e) (r e) (h e) c.text_align-align.result (f e o)), tt))).cause;
}
