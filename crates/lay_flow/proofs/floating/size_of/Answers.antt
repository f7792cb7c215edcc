use Rattle.std.proofs.Common.{◌≡◌, subst, sym, ◌∙◌, arith}
use Rattle.std.proofs.lemmas.Grind.{common_steps}
use Rattle.viz_calc.specs.World.{Reading}
use Rattle.lay_float.specs.Readings.{extent_at}
use Rattle.lay_line.proofs.Chains.{start, next}
use Rattle.page_limits.specs.Bounds.{IsExtentIn}
use Rattle.lay_flow.specs.Low.{reach}
use Rattle.lay_flow.specs.Readings.{apart_at}
use Rattle.lay_flow.proofs.Sizes.{zero-fits}
use Rattle.lay_flow.proofs.floating.size_of.Goals.{in_default-via-in-Some+in_default, in_default-via-in_default}
use Rattle.lay_flow.proofs.floating.size_of.Goals as goal

pub returns-in-Some-Some : goal.returns-in-Some-Some
unfolding apart_at
returns-in-Some-Some g c =
    let at = g.S.Steady.at in
    let independent = c.in-Some-Some.independent in
    let same : (e : Reading) → (apart_at at c.args.apart.now e c.args.at).size ≡ extent_at at independent.size e = λ e. grind (arith, common_steps) in
    let copied = c.copy_extent.ensures in
    let chain = start {asks = λ (e : Reading). IsExtentIn reach (apart_at at c.args.apart.now e c.args.at).size} copied.goes copied.cause (λ f e o. subst (IsExtentIn reach) (same e) (f e o)) in
    record {
      goes = chain.goes;
      value = λ e o. copied.value e o ∙ sym (same e);
      cause = chain.cause;
    }

pub returns-in_default : goal.returns-in_default
unfolding apart_at
returns-in_default g c =
    let at = g.S.Steady.at in
    let one = start {asks = λ (e : Reading). IsExtentIn reach (apart_at at c.args.apart.now e c.args.at).size} c.zero-width.ensures.goes c.zero-width.ensures.cause (λ f e o. zero-fits) in
    let chain = next one c.zero-height.ensures.goes c.zero-height.ensures.cause (λ f e o. zero-fits) in
    record {
      goes = chain.goes;
      value = λ e o.
          elim c.in_default.branch [
            | in_default-via-in-Some+in_default w ↦ grind (arith, common_steps)
            | in_default-via-in_default w ↦ grind (arith, common_steps)
          ];
      cause = chain.cause;
    }
