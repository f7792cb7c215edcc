-- What a line holds of measured items is what it holds of the items.
use Rattle.std.proofs.Common.{◌≡◌, ℕ, ℤ, ◌+ℤ◌, Bool, true, false, cond, List, [], ◌∷◌, ◌++◌, refl, sym, ◌∙◌, ap, append_assoc, append-nil}
use Rattle.std.specs.Prelude.{◌||◌}
use Rattle.layout_semantics.specs.InlineContent.{Item, start, finish, word, space, atomic, forced, float}
use Rattle.lay_line.specs.steps.Held.{Held, with_item, with_items}
use Rattle.layout_semantics.specs.LineHeights.{InlineContext}
use Rattle.layout_semantics.specs.LineFilling.{item_width}
use Rattle.layout_semantics.specs.Fragments.{ItemPlace}
use Rattle.lay_line.specs.steps.Staying.{is_solid, is_some_left, fewer, stays, put, stand}
use Rattle.lay_line.specs.steps.Measured.{Measured, measured, held_with, placed_at, stand_with, Row, row_with, rows, first_row}

one-same : (width : Item → ℤ) (h : Held) (i : Item) → with_item (λ j. width i) h i ≡ with_item width h i
one-same width h (start at) = refl
one-same width h (finish at) = refl
one-same width h (word at text) = refl
one-same width h (space at) = refl
one-same width h (atomic at) = refl
one-same width h (forced at) = refl
one-same width h (float at) = refl

pub held-same : (width : Item → ℤ) (h : Held) (items : List Item) → held_with h (measured width items) ≡ with_items width h items
held-same width h [] = refl
held-same width h (i ∷ items) = ap (λ (s : Held). held_with s (measured width items)) (one-same width h i) ∙ held-same width (with_item width h i) items

-- and they stand where the items do
places-same : (c : InlineContext) (x : ℤ) (begun : Bool) (left : ℕ) (items : List Item) → stand_with x begun left (measured (item_width c) items) ≡ stand c x begun left items
places-same c x begun left [] = refl
places-same c x begun left (i ∷ items) =
    ap (λ l. one l (stand_with (x +ℤ item_width c i) (begun || is_solid i) (fewer left) (measured (item_width c) items))) (places-same c x begun (fewer left) items)
    ∙ ap (one (stand c x begun (fewer left) items)) (places-same c (x +ℤ item_width c i) (begun || is_solid i) (fewer left) items)
  where
    one : List ItemPlace → List ItemPlace → List ItemPlace
    one without rest = put (record { item = i; left = x; right = x +ℤ item_width c i }) (stays begun (is_some_left (fewer left)) i) without rest

-- item by item
rows-same : (x : ℤ) (begun : Bool) (left : ℕ) (places : List ItemPlace) (ms : List Measured) → (rows (record { x = x; begun = begun; left = left; places = places }) ms).places ≡ places ++ stand_with x begun left ms
rows-same x begun left places [] = sym (append-nil places)
rows-same x begun left places (m ∷ ms) = by (stays begun (is_some_left (fewer left)) m.item)
    (rows-same (x +ℤ m.width) (begun || is_solid m.item) (fewer left) (places ++ placed_at x m ∷ []) ms ∙ append_assoc places (placed_at x m ∷ []) (stand_with (x +ℤ m.width) (begun || is_solid m.item) (fewer left) ms))
    (rows-same x begun (fewer left) places ms)
  where
    here : Row
    here = record { x = x; begun = begun; left = fewer left; places = places }

    by : (b : Bool) → (rows (row_with here m) ms).places ≡ places ++ placed_at x m ∷ stand_with (x +ℤ m.width) (begun || is_solid m.item) (fewer left) ms → (rows here ms).places ≡ places ++ stand_with x begun (fewer left) ms
        → (rows (cond b (row_with here m) here) ms).places ≡ places ++ put (placed_at x m) b (stand_with x begun (fewer left) ms) (stand_with (x +ℤ m.width) (begun || is_solid m.item) (fewer left) ms)
    by true p q = p
    by false p q = q

pub row-same : (c : InlineContext) (x : ℤ) (left : ℕ) (items : List Item) → (rows (first_row x left) (measured (item_width c) items)).places ≡ stand c x false left items
row-same c x left items = rows-same x false left [] (measured (item_width c) items) ∙ places-same c x false left items
