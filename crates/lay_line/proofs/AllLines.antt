-- All lines of a block container, from its pieces.
use Rattle.std.proofs.Common.{◌≡◌, ℕ, ℤ, List, [], length, None, sym, ap, ◌∙◌}
use Rattle.std.proofs.lemmas.List.{length-map}
use Rattle.viz_base.specs.declared.layouts.Entry.{Entry}
use Rattle.viz_calc.specs.World.{Reading}
use Rattle.layout_semantics.specs.Floats.{FloatBox}
use Rattle.layout_semantics.specs.InlineContent.{Item, content}
use Rattle.layout_semantics.specs.LineHeights.{InlineContext}
use Rattle.layout_semantics.specs.Lines.{SoFar, LaidLines, LineList, before_all, lines_in}
use Rattle.layout_semantics.specs.Segments.{may_part}
use Rattle.lay_line.specs.Items.{bare_of}
use Rattle.lay_line.specs.Readings.{piece_at, pieces_at, parts_at}
use Rattle.lay_line.specs.declared.segments.Segments.{Segments}
use Rattle.lay_line.specs.steps.Lining.{laying, lined}
use Rattle.lay_line.specs.steps.Loading.{bare, tallest_by}
use Rattle.lay_line.specs.steps.Marks.{marks}
use Rattle.lay_line.specs.steps.Measured.{measured}
use Rattle.lay_line.specs.steps.Words.{width_in}
use Rattle.lay_line.proofs.Lined.{lined-is}
use Rattle.lay_line.proofs.LoadSteps.{bare-same}
use Rattle.lay_line.proofs.NextLines.{parts-read}
use Rattle.lay_line.proofs.Parts.{bare-measured}

abbrev pub start_of : ℤ → ℤ → List FloatBox → List ℕ → SoFar
start_of y least floats opened = record { y = y; least = least; floats = floats; opened = opened; baseline = None }

abbrev pub list_of : SoFar → List (Entry ℤ) → LineList
list_of after entries = record { entries = entries; bottom = after.y; baseline = after.baseline; floats = after.floats }

module _ {N : Type 0} (at : N → Reading → ℤ) (e : Reading) (c : InlineContext) (y least : ℤ) (floats : List FloatBox) where
  pub lines-laid : (items : List Item) (s : Segments N) (tall top highest : ℤ) (opened : List ℕ) (after : SoFar) (entries : List (Entry ℤ))
      → items ≡ content c.tree c.container → pieces_at at s.pieces.now e ≡ measured (width_in c) items → s.marks.now ≡ marks (may_part c.tree) None None items
      → tall ≡ tallest_by c (bare_of s.pieces.now) → top ≡ y → highest ≡ least → opened ≡ []
      → after ≡ (laying (length s.pieces.now) c tall (start_of top highest floats opened) (parts_at at s e)).after
      → entries ≡ (laying (length s.pieces.now) c tall (start_of top highest floats opened) (parts_at at s e)).entries
      → list_of after entries ≡ lines_in c y least floats
  unfolding lined
  lines-laid items s tall top highest opened after entries i m k t p q r a w =
      let ms = pieces_at at s.pieces.now e in
      let n = length s.pieces.now in
      let start = start_of top highest floats opened in
      let parts = parts_at at s e in
      let long : n ≡ length ms = sym (length-map s.pieces.now (λ x. piece_at at x e)) in
      let same : bare_of s.pieces.now ≡ items = sym (bare-same at e s.pieces.now) ∙ (ap bare m ∙ bare-measured (width_in c) items) in
      let tall_is : tall ≡ tallest_by c items = t ∙ ap (tallest_by c) same in
      let start_is : start ≡ before_all y least floats = ap (λ z. start_of z highest floats opened) p ∙ (ap (λ z. start_of y z floats opened) q ∙ ap (start_of y least floats) r) in
      ap (λ x. list_of x entries) a
      ∙ (ap (list_of (laying n c tall start parts).after) w
      ∙ (ap (λ x. listed (laying x c tall start parts)) long
      ∙ (ap (λ x. listed (laying (length ms) c x start parts)) tall_is
      ∙ (ap (λ x. listed (laying (length ms) c (tallest_by c items) x parts)) start_is
      ∙ (ap (λ x. listed (laying (length ms) c (tallest_by c items) (before_all y least floats) x)) (parts-read at e s)
      ∙ (ap (λ x. lined c items x s.marks.now (before_all y least floats)) m
      ∙ (ap (λ x. lined c items (measured (width_in c) items) x (before_all y least floats)) k
      ∙ (ap (λ x. lined c x (measured (width_in c) x) (marks (may_part c.tree) None None x) (before_all y least floats)) i
      ∙ lined-is c y least floats))))))))
    where
      listed : LaidLines → LineList
      listed l = record { entries = l.entries; bottom = l.after.y; baseline = l.after.baseline; floats = l.after.floats }
