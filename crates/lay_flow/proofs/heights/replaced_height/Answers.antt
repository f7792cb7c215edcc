use Rattle.std.proofs.Common.{ℕ, ◌∷◌, [], sym, subst, arith}
use Rattle.std.proofs.lemmas.Grind.{common_steps}
use Rattle.viz_calc.specs.State.{AllSmall}
use Rattle.viz_calc.specs.World.{Reading}
use Rattle.layout_semantics.specs.Replaced.{by_ratio, replaced_size}
use Rattle.lay_line.proofs.Chains.{Chain, start, next}
use Rattle.lay_flow.specs.Fits.{IsReplacedFit}
use Rattle.lay_flow.proofs.heights.replaced_height.Goals.{in-Some, in-None}
use Rattle.lay_flow.proofs.heights.replaced_height.Goals as goal

pub returns : goal.returns
returns g c =
    let at = g.S.Steady.at in
    let run = g.S.Steady.run in
    let tree = c.args.page.now.tree.now in
    let b = c.args.b in
    let room = (λ (e : Reading). at c.args.room.now e) in
    let asks = (λ (e : Reading). IsReplacedFit tree e.world b (room e)) in
    let one = start {asks = asks} c.known_height.ensures.goes c.known_height.ensures.cause (λ f e o. (f e o).own) in
    let two : Chain (run c.args.calc.now) (run c.match-known_height.calc) asks = elim c.match-known_height.branch [
      | in-Some w ↦ rw w.calc-is one
      | in-None w ↦
          rw w.calc-is (next (next one w.width-width.ensures.goes w.width-width.ensures.cause (λ f e o. (f e o).width)) w.by_ratio-height.ensures.goes w.by_ratio-height.ensures.cause (λ f e o.
          subst (λ z. AllSmall (by_ratio z w.intrinsic_size-size.result.0 w.intrinsic_size-size.result.1 ∷ [])) (sym (w.width-width.ensures.value e o))
          (subst (λ (s : ℕ × ℕ). AllSmall (by_ratio (replaced_size tree e.world b (room e)).width s.0 s.1 ∷ [])) (sym w.intrinsic_size-size.ensures) (f e o).ratio)))
    ] in
    let chain = next two c.clamped.ensures.goes c.clamped.ensures.cause (λ f e o. (f e o).own) in
    record {
      goes = chain.goes;
      value = grind (arith, common_steps);
      cause = chain.cause;
    }
