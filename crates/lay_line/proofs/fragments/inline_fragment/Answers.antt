use Rattle.std.proofs.Common.{◌∷◌, [], sym, arith}
use Rattle.std.proofs.lemmas.Grind.{common_steps}
use Rattle.viz_calc.specs.World.{Reading}
use Rattle.layout_semantics.specs.Fragments.{is_end_of}
use Rattle.lay_line.specs.Contexts.{context_at}
use Rattle.lay_line.specs.LineFits.{BoxFits, OnLine, PlacesOnLine}
use Rattle.lay_line.specs.Readings.{place_at, places_at}
use Rattle.lay_line.proofs.Chains.{start}
use Rattle.lay_line.proofs.OnLines.{found_on_line}
use Rattle.lay_line.specs.steps.Entries.{from_in}
use Rattle.lay_line.proofs.fragments.inline_fragment.Goals as goal

pub returns-in-Some : goal.returns-in-Some
unfolding context_at from_in
returns-in-Some g c = record {
  goes = c.fragment_to.ensures.goes;
  value = grind (arith, common_steps);
  cause =
      let at = g.S.Steady.at in
      let b = c.args.at in
      let last = c.in-Some.last.now in
      let line = c.args.line.now in
      let after = c.args.span.now.after.now in
      let asks = (λ (e : Reading). BoxFits (context_at at c.args.container.now e) b
      × (OnLine (at line.baseline e ∷ at c.args.span.now.left.now e ∷ at line.right e ∷ []) × PlacesOnLine (places_at at after e))) in
      (start {asks = asks} c.fragment_to.ensures.goes c.fragment_to.ensures.cause (λ f e o.
      let p = f e o in
      (p.0, (p.1.0.0, (p.1.0.1.0, ((found_on_line (is_end_of b) (places_at at after e) (place_at at last e) (sym (c.in-Some.ensures at e)) p.1.1).0, tt)))))).cause;
}

pub returns-in-None : goal.returns-in-None
unfolding context_at from_in
returns-in-None g c = record {
  goes = c.fragment_to-in-None.ensures.goes;
  value = grind (arith, common_steps);
  cause =
      let at = g.S.Steady.at in
      let b = c.args.at in
      let line = c.args.line.now in
      let after = c.args.span.now.after.now in
      let asks = (λ (e : Reading). BoxFits (context_at at c.args.container.now e) b
      × (OnLine (at line.baseline e ∷ at c.args.span.now.left.now e ∷ at line.right e ∷ []) × PlacesOnLine (places_at at after e))) in
      (start {asks = asks} c.fragment_to-in-None.ensures.goes c.fragment_to-in-None.ensures.cause (λ f e o.
      let p = f e o in
      (p.0, p.1.0))).cause;
}
