use Rattle.std.proofs.Common.{◌≡◌, ◌++◌, ◌∙◌, ap, sym, subst, arith}
use Rattle.std.proofs.lemmas.Grind.{common_steps}
use Rattle.std.specs.List.{AllByRecursion}
use Rattle.viz_calc.specs.World.{Reading}
use Rattle.viz_calc.specs.Renderings.{spot_at}
use Rattle.layout_semantics.specs.Rectangles.{shifted}
use Rattle.lay_frame.specs.Readings.{boxes_at}
use Rattle.lay_line.proofs.Chains.{start_but_mem}
use Rattle.page_limits.specs.Bounds.{IsPlacedIn}
use Rattle.lay_flow.specs.Low.{reach, IsIndependentLow}
use Rattle.lay_flow.specs.Fits.{IsSpotNear}
use Rattle.lay_flow.specs.Readings.{apart_at}
use Rattle.lay_flow.proofs.floating.add_apart.Goals as goal

pub returns-in-Some-Some : goal.returns-in-Some-Some
unfolding apart_at
returns-in-Some-Some g c =
    let at = g.S.Steady.at in
    let independent = c.in-Some-Some.independent in
    let apart = (λ (e : Reading). apart_at at c.args.apart.now e c.args.at) in
    let same : (e : Reading) → (apart_at at c.args.apart.now e c.args.at).boxes ≡ boxes_at at independent.boxes.items e = λ e. grind (arith, common_steps) in
    let added = c.add_each.ensures in
    let chain = start_but_mem {asks = λ (e : Reading). IsSpotNear (spot_at at c.args.by.now e) × IsIndependentLow (apart e)} added.goes added.cause (λ f e o.
    let boxes = subst (AllByRecursion (IsPlacedIn reach)) (same e) (f e o).1.boxes in
    ((f e o).0, subst (λ xs. AllByRecursion (IsPlacedIn reach) (boxes_at at xs e)) (sym c.as_slice.ensures.value) boxes)) in
    record {
      goes = chain.goes;
      value = λ e o.
          added.value e o
          ∙ ap (λ xs. boxes_at at c.args.out.now.items e ++ shifted (spot_at at c.args.by.now e) xs)
          (ap (λ xs. boxes_at at xs e) c.as_slice.ensures.value ∙ sym (same e));
      cause = chain.cause;
    }

pub returns : goal.returns
unfolding apart_at
returns g c = record {
  goes = grind (arith, common_steps);
  value = grind (arith, common_steps);
  cause = grind (arith, common_steps);
}
