use Rattle.std.proofs.Common.{◌∷◌, [], arith}
use Rattle.std.proofs.lemmas.Grind.{common_steps}
use Rattle.viz_calc.specs.World.{Reading}
use Rattle.lay_line.specs.Contexts.{context_at}
use Rattle.lay_line.specs.LineFits.{BoxesFit, OnLine, PlacesOnLine, SpotsOnLine}
use Rattle.lay_line.specs.Readings.{places_at, spots_at}
use Rattle.lay_line.proofs.Chains.{start_but_mem}
use Rattle.lay_line.specs.steps.Entries.{item_in}
use Rattle.lay_line.proofs.entries.add_item.Goals as goal

pub returns-in-Start : goal.returns-in-Start
unfolding item_in
returns-in-Start g c = record {
  goes = c.add_start.ensures.goes;
  value = grind (arith, common_steps);
  cause =
      let at = g.S.Steady.at in
      let here = c.args.here.now in
      let line = c.args.line.now in
      let asks = (λ (e : Reading). BoxesFit (context_at at c.args.container.now e) × (OnLine (at line.baseline e ∷ at line.right e ∷ [])
      × (OnLine (at here.place.now.left e ∷ at here.place.now.right e ∷ []) × (PlacesOnLine (places_at at here.after.now e) × SpotsOnLine (spots_at at here.spots.now e))))) in
      (start_but_mem {asks = asks} c.add_start.ensures.goes c.add_start.ensures.cause (λ f e o.
      let p = f e o in
      (p.0 c.in-Start.at, ((p.1.0.0, (p.1.1.0.1.0, (p.1.0.1.0, tt))), p.1.1.1.0)))).cause;
}

pub returns-in-Word : goal.returns-in-Word
unfolding item_in
returns-in-Word g c = record {
  goes = c.add_text.ensures.goes;
  value = grind (arith, common_steps);
  cause =
      let at = g.S.Steady.at in
      let here = c.args.here.now in
      let line = c.args.line.now in
      let asks = (λ (e : Reading). BoxesFit (context_at at c.args.container.now e) × (OnLine (at line.baseline e ∷ at line.right e ∷ [])
      × (OnLine (at here.place.now.left e ∷ at here.place.now.right e ∷ []) × (PlacesOnLine (places_at at here.after.now e) × SpotsOnLine (spots_at at here.spots.now e))))) in
      (start_but_mem {asks = asks} c.add_text.ensures.goes c.add_text.ensures.cause (λ f e o.
      let p = f e o in
      (p.0 c.in-Word.at, ((p.1.0.0, p.1.1.0), p.1.1.1.0)))).cause;
}

pub returns-in-Space : goal.returns-in-Space
unfolding item_in
returns-in-Space g c = record {
  goes = c.add_text-in-Space.ensures.goes;
  value = grind (arith, common_steps);
  cause =
      let at = g.S.Steady.at in
      let here = c.args.here.now in
      let line = c.args.line.now in
      let asks = (λ (e : Reading). BoxesFit (context_at at c.args.container.now e) × (OnLine (at line.baseline e ∷ at line.right e ∷ [])
      × (OnLine (at here.place.now.left e ∷ at here.place.now.right e ∷ []) × (PlacesOnLine (places_at at here.after.now e) × SpotsOnLine (spots_at at here.spots.now e))))) in
      (start_but_mem {asks = asks} c.add_text-in-Space.ensures.goes c.add_text-in-Space.ensures.cause (λ f e o.
      let p = f e o in
      (p.0 c.in-Space.at, ((p.1.0.0, p.1.1.0), p.1.1.1.0)))).cause;
}

pub returns-in-Atomic : goal.returns-in-Atomic
unfolding item_in
returns-in-Atomic g c = record {
  goes = c.add_atomic.ensures.goes;
  value = grind (arith, common_steps);
  cause =
      let at = g.S.Steady.at in
      let here = c.args.here.now in
      let line = c.args.line.now in
      let b = c.in-Atomic.at in
      let asks = (λ (e : Reading). BoxesFit (context_at at c.args.container.now e) × (OnLine (at line.baseline e ∷ at line.right e ∷ [])
      × (OnLine (at here.place.now.left e ∷ at here.place.now.right e ∷ []) × (PlacesOnLine (places_at at here.after.now e) × SpotsOnLine (spots_at at here.spots.now e))))) in
      (start_but_mem {asks = asks} c.add_atomic.ensures.goes c.add_atomic.ensures.cause (λ f e o.
      let p = f e o in
      (p.0 b, (p.1.0.0, (p.1.1.0.0, tt))))).cause;
}
