use Rattle.std.proofs.Common.{◌∷◌, [], ◌-ℤ◌, ap, sym, subst, arith}
use Rattle.std.proofs.lemmas.Grind.{common_steps}
use Rattle.viz_calc.specs.State.{IsSmall}
use Rattle.viz_calc.specs.World.{Reading}
use Rattle.lay_line.specs.LineFits.{OnLine}
use Rattle.lay_line.proofs.Chains.{start, next}
use Rattle.lay_line.proofs.OnLines.{zero_small, inline_size_small, free_small}
use Rattle.viz_calc.proofs.Runs.{Goes-then}
use Rattle.lay_line.proofs.line_content.spare.Goals as goal

pub returns-then-le : goal.returns-then-le
returns-then-le g c = record {
  goes = Goes-then _ _ _ (Goes-then _ _ _ c.band_width-inline_size.ensures.goes c.le.ensures.goes) c.sub.ensures.goes;
  value = grind (arith, common_steps);
  cause =
      let at = g.S.Steady.at in
      let l = (λ (e : Reading). at c.args.room.now.left e) in
      let r = (λ (e : Reading). at c.args.room.now.right e) in
      let h = (λ (e : Reading). at c.args.held.now e) in
      let inline_size = c.band_width-inline_size.ensures in
      let asks = (λ (e : Reading). OnLine (l e ∷ r e ∷ h e ∷ [])) in
      let first = start {asks = asks} inline_size.goes inline_size.cause (λ f e o. (inline_size_small (l e) (r e) (h e) (f e o), tt)) in
      let second = next first c.le.ensures.goes c.le.ensures.cause (λ f. tt) in
      (next second c.sub.ensures.goes c.sub.ensures.cause (λ f e o.
      (subst IsSmall (sym (ap (λ x. x -ℤ h e) (inline_size.value e (c.le.ensures.goes.closes e o)))) (free_small (l e) (r e) (h e) (f e o)), tt))).cause;
}

pub returns : goal.returns
returns g c = record {
  goes = Goes-then _ _ _ (Goes-then _ _ _ c.band_width-inline_size.ensures.goes c.le.ensures.goes) c.zero.ensures.goes;
  value = grind (arith, common_steps);
  cause =
      let at = g.S.Steady.at in
      let l = (λ (e : Reading). at c.args.room.now.left e) in
      let r = (λ (e : Reading). at c.args.room.now.right e) in
      let h = (λ (e : Reading). at c.args.held.now e) in
      let inline_size = c.band_width-inline_size.ensures in
      let asks = (λ (e : Reading). OnLine (l e ∷ r e ∷ h e ∷ [])) in
      let first = start {asks = asks} inline_size.goes inline_size.cause (λ f e o. (inline_size_small (l e) (r e) (h e) (f e o), tt)) in
      let second = next first c.le.ensures.goes c.le.ensures.cause (λ f. tt) in
      (next second c.zero.ensures.goes c.zero.ensures.cause (λ f e o. (zero_small, tt))).cause;
}
