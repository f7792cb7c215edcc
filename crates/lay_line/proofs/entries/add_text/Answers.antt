use Rattle.std.proofs.Common.{◌∷◌, [], sym, subst, ◌^◌, arith}
use Rattle.std.proofs.lemmas.Grind.{common_steps}
use Rattle.viz_calc.specs.World.{Reading}
use Rattle.lay_line.specs.Contexts.{context_at}
use Rattle.lay_line.specs.LineFits.{BoxFits, OnLine, PlacesOnLine}
use Rattle.lay_line.specs.Readings.{places_at}
use Rattle.lay_line.proofs.Chains.{start_but_mem, next_but_mem, but_mem}
use Rattle.lay_line.proofs.OnLines.{right_on_line}
use Rattle.lay_line.proofs.Placing.{Within}
use Rattle.lay_line.specs.steps.Entries.{piece_in}
use Rattle.viz_calc.proofs.Runs.{Goes-then}
use Rattle.lay_line.proofs.entries.add_text.Goals as goal

pub returns : goal.returns
unfolding piece_in
returns g c = record {
  goes = Goes-then _ _ _ c.text_fragment-entry.ensures.goes c.add_entry.ensures.goes;
  value = grind (arith, common_steps);
  cause =
      let at = g.S.Steady.at in
      let b = c.args.at in
      let here = c.args.here.now in
      let piece = c.text_fragment-entry.ensures in
      let asks = (λ (e : Reading). BoxFits (context_at at c.args.container.now e) b × (OnLine (at c.args.line.now.baseline e ∷ at here.place.now.left e ∷ at here.place.now.right e ∷ [])
      × PlacesOnLine (places_at at here.after.now e))) in
      let first = start_but_mem {asks = asks} piece.goes (but_mem piece.cause) (λ f e o.
      let p = f e o in
      (p.0, (p.1.0.0, (p.1.0.1.0, (subst (Within (2 ^ 98)) (sym (c.text_right-right.ensures at e)) (right_on_line b (at here.place.now.right e) (places_at at here.after.now e) p.1.0.1.1.0 p.1.1), tt))))) in
      (next_but_mem first c.add_entry.ensures.goes c.add_entry.ensures.cause (λ f e o. tt)).cause;
}
