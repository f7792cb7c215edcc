use Rattle.std.proofs.Common.{◌≡◌, ◌+◌, List, drop, sym, subst, ap, ◌∙◌, arith}
use Rattle.std.specs.Prelude.{ℕ, ℤ}
use Rattle.viz_base.specs.declared.layouts.Spot.{Spot}
use Rattle.viz_calc.specs.World.{Reading}
use Rattle.lay_line.specs.Contexts.{context_at}
use Rattle.lay_line.specs.Readings.{entries_at, place_at, places_at, spots_at, set_line_at, before_at}
use Rattle.lay_line.specs.Items.{item_of}
use Rattle.lay_line.specs.LineFits.{BoxesFit, SetFits, PlaceOnLine, PlacesOnLine, SpotsOnLine}
use Rattle.lay_line.proofs.Chains.{ChainButMem, next_but_mem}
use Rattle.lay_line.proofs.Entering.{items-go}
use Rattle.lay_line.proofs.Found.{all-from, all-here}
use Rattle.lay_line.proofs.OnLines.{spots_behind_on_line}
use Rattle.lay_line.proofs.entries.add_items.Goals as goal

pub loop-place-preserved : goal.loop-place-preserved
loop-place-preserved g c =
    let at = g.S.Steady.at in
    let xs = c.args.line.now.places.now in
    let k = c.loop-place.place-index in
    let one : c.loop-place.count + 1 ≡ k + 1 = let same = c.loop-place.invariant.count in omega (arith, same) in
    let behind = c.split_at.ensures.back ∙ ap (λ n. drop n xs) one in
    let run = g.S.Steady.run in
    let p = c.place-item.result in
    let so_far : ChainButMem (run c.args.calc.now) (run c.loop-place.calc) (λ (e : Reading). BoxesFit (context_at at c.args.container.now e) × SetFits (set_line_at at c.args.line.now e)) =
    record { goes = c.loop-place.invariant.goes; cause = c.loop-place.invariant.cause } in
    let then = next_but_mem so_far c.add_item.ensures.goes c.add_item.ensures.cause (λ f e o.
    let fits = f e o in
    let n = fits.1.numbers in
    let left = all-from PlaceOnLine (λ q. place_at at q e) xs k fits.1.places in (
      fits.0,
      (
        (n.0, (n.1.1.0, tt)),
        (
          all-here PlaceOnLine (λ q. place_at at q e) xs k p c.loop-place-test.true c.place-item.is left,
          (
            subst (λ l. PlacesOnLine (places_at at l e)) (sym behind) (all-from PlaceOnLine (λ q. place_at at q e) xs (k + 1) fits.1.places),
            c.loop-place.invariant.spots e fits.1.spots,
          ),
        ),
      ),
    )) in
    record {
      goes = then.goes;
      cause = then.cause;
      spots = λ e on. subst (λ (l : List (ℕ × Spot ℤ)). SpotsOnLine l) (sym (c.spots_behind-spots.ensures at e)) (spots_behind_on_line (item_of p.item) (spots_at at c.loop-place.spots.now e) (c.loop-place.invariant.spots e on));
      value = λ e o.
          items-go (context_at at c.args.container.now e) (set_line_at at c.args.line.now e) (λ p. place_at at p e) xs k c.place-item.result
          (entries_at at c.loop-place.entries e) (entries_at at c.add_item.new.entries e) (before_at at c.loop-place.before e) c.split_at.result.1.now
          (spots_at at c.loop-place.spots.now e) (spots_at at c.spots_behind-spots.result.now e) c.loop-place-test.true c.place-item.is behind
          (c.add_item.ensures.value e o) (c.spots_behind-spots.ensures at e)
          ∙ c.loop-place.invariant.value e (c.add_item.ensures.goes.closes e o);
      count = one;
    }
