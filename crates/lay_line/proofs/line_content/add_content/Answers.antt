use Rattle.std.proofs.Common.{◌≡◌, refl, sym, subst, arith}
use Rattle.std.proofs.lemmas.Grind.{common_steps}
use Rattle.viz_calc.specs.World.{Reading}
use Rattle.lay_line.specs.Contexts.{context_at}
use Rattle.lay_line.specs.LineFits.{BoxesFit, ContentFits}
use Rattle.lay_line.specs.Readings.{pieces_at, places_at, spots_at}
use Rattle.lay_line.specs.steps.Lining.{places_of}
use Rattle.lay_line.proofs.Chains.{start_but_mem, next_but_mem, but_mem}
use Rattle.lay_line.proofs.OnLines.{right_small, content_stands, content_set}
use Rattle.viz_calc.proofs.Runs.{Goes-then}
use Rattle.lay_line.proofs.line_content.add_content.Goals as goal

pub returns : goal.returns
returns g c = record {
  goes = Goes-then _ _ _ (Goes-then _ _ _ c.add-right.ensures.goes c.places-set.ensures.goes) c.add_line_entries.ensures.goes;
  value = grind (arith, common_steps);
  cause =
      let at = g.S.Steady.at in
      let base = (λ (e : Reading). at c.args.content.baseline e) in
      let left = (λ (e : Reading). at c.args.content.left e) in
      let width = (λ (e : Reading). at c.args.content.width e) in
      let spots = (λ (e : Reading). spots_at at c.args.content.spots.items e) in
      let pieces = (λ (e : Reading). pieces_at at c.args.pieces.now e) in
      let right = c.add-right.ensures in
      let set = c.places-set.ensures in
      let first = start_but_mem {asks = λ (e : Reading). BoxesFit (context_at at c.args.container.now e) × ContentFits (base e) (left e) (width e) (spots e) (pieces e)} right.goes (but_mem right.cause)
      (λ f e o. (right_small (base e) (left e) (width e) (spots e) (pieces e) (f e o).1, tt)) in
      let second = next_but_mem first set.goes set.cause (λ f e o. content_stands (base e) (left e) (width e) (spots e) (pieces e) (f e o).1) in
      (next_but_mem second c.add_line_entries.ensures.goes c.add_line_entries.ensures.cause (λ f e o.
      let o1 = set.goes.closes e o in
      let places = c.as_slice.ensures.value in (
        (f e o).0,
        content_set (base e) (left e) (width e) (spots e) (pieces e) (f e o).1 (at c.add-right.result e) (places_at at c.as_slice.result.now e) (spots_at at c.as_slice-2.result.now e)
            (right.value e o1) (subst (λ l. places_at at l e ≡ places_of (left e) (pieces e)) (sym places) (set.value e o)) (subst (λ l. spots_at at l e ≡ spots e) (sym c.as_slice-2.ensures.value) refl),
      ))).cause;
}
