-- How much a line holds, one segment further on.
use Rattle.std.proofs.Common.{◌≡◌, ℕ, true, false, cond, List, [], ◌∷◌, map, refl, sym, ap, ◌∙◌}
use Rattle.std.specs.Prelude.{ℤ}
use Rattle.viz_calc.specs.World.{Reading}
use Rattle.layout_semantics.specs.InlineContent.{Item, float_boxes}
use Rattle.layout_semantics.specs.LineHeights.{InlineContext}
use Rattle.lay_line.specs.Items.{item_of, bare_of}
use Rattle.lay_line.specs.Readings.{pieces_at, parts_at}
use Rattle.lay_line.specs.declared.held.Piece.{Piece}
use Rattle.lay_line.specs.declared.segments.Segments.{Segments}
use Rattle.lay_line.specs.steps.Held.{Held}
use Rattle.lay_line.specs.steps.Loading.{Load, bare, loaded, takes_more, loading, parts_of}
use Rattle.lay_line.specs.steps.Measured.{Measured, held_with}
use Rattle.lay_line.specs.steps.Meeting.{Slot}

pub bare-same : {N : Type 0} (at : N → Reading → ℤ) (e : Reading) (ps : List (Piece N)) → bare (pieces_at at ps e) ≡ bare_of ps
bare-same at e [] = refl
bare-same at e (p ∷ ps) = ap (λ l. item_of p.item ∷ l) (bare-same at e ps)

pub parts-same : {N : Type 0} (at : N → Reading → ℤ) (e : Reading) (s : Segments N) (parts : List (List (Piece N))) → parts_of s.pieces.now s.marks.now ≡ parts → parts_at at s e ≡ map (λ p. pieces_at at p e) parts
parts-same at e s parts is = ap (map (λ p. pieces_at at p e)) is

module _ (c : InlineContext) (slot : Slot) (f : Load) where
  pub takes-next : (part : List Measured) (parts all : List (List Measured)) (held : Held) (items : List Item) (floats : List ℕ) (next : Load)
      → all ≡ part ∷ parts → held ≡ held_with f.held part → true ≡ takes_more c slot f held → bare part ≡ items → floats ≡ float_boxes items
      → next ≡ loaded c slot f items floats held → loading c slot next parts ≡ loading c slot f all
  takes-next part parts all held items floats next is h t b fl n =
      sym (ap (loading c slot f) is
      ∙ (ap (λ k. cond (takes_more c slot f k) (loading c slot (loaded c slot f (bare part) (float_boxes (bare part)) k) parts) (f, part ∷ parts)) (sym h)
      ∙ (ap (λ k. cond k (loading c slot (loaded c slot f (bare part) (float_boxes (bare part)) held) parts) (f, part ∷ parts)) (sym t)
      ∙ (ap (λ l. loading c slot (loaded c slot f l (float_boxes l) held) parts) b
      ∙ (ap (λ l. loading c slot (loaded c slot f items l held) parts) (sym fl)
      ∙ ap (λ l. loading c slot l parts) (sym n))))))

  pub takes-none : (part : List Measured) (parts all : List (List Measured)) (held : Held) → all ≡ part ∷ parts → held ≡ held_with f.held part → false ≡ takes_more c slot f held
      → (f, all) ≡ loading c slot f all
  takes-none part parts all held is h t =
      sym (ap (loading c slot f) is
      ∙ (ap (λ k. cond (takes_more c slot f k) (loading c slot (loaded c slot f (bare part) (float_boxes (bare part)) k) parts) (f, part ∷ parts)) (sym h)
      ∙ (ap (λ k. cond k (loading c slot (loaded c slot f (bare part) (float_boxes (bare part)) held) parts) (f, part ∷ parts)) (sym t)
      ∙ ap (λ l. (f, l)) (sym is))))

  pub none-left : (all : List (List Measured)) → all ≡ [] → (f, all) ≡ loading c slot f all
  none-left all is = ap (λ l. (f, l)) is ∙ sym (ap (loading c slot f) is)
