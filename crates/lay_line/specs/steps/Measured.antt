-- Items with the width that each takes, and what a line holds of them.
use Rattle.std.specs.Prelude.{ℕ, ℤ, ◌+ℤ◌, Bool, false, cond, ◌||◌, List, [], ◌∷◌, ◌++◌, map}
use Rattle.layout_semantics.specs.InlineContent.{Item}
use Rattle.layout_semantics.specs.Fragments.{ItemPlace}
use Rattle.lay_line.specs.steps.Held.{Held, with_item}
use Rattle.lay_line.specs.steps.Staying.{is_solid, is_some_left, fewer, stays, put}

pub record Measured : Type 0 where
  pub item : Item
  pub width : ℤ

abbrev pub measured : (Item → ℤ) → List Item → List Measured
measured width items = map (λ i. record { item = i; width = width i }) items

abbrev pub with_measured : Held → Measured → Held
with_measured h m = with_item (λ i. m.width) h m.item

abbrev pub held_with : Held → List Measured → Held
held_with h [] = h
held_with h (m ∷ ms) = held_with (with_measured h m) ms

-- from x on
abbrev pub placed_at : ℤ → Measured → ItemPlace
placed_at x m = record { item = m.item; left = x; right = x +ℤ m.width }

-- where they stand
abbrev pub stand_with : ℤ → Bool → ℕ → List Measured → List ItemPlace
stand_with x begun left [] = []
stand_with x begun left (m ∷ ms) = put (placed_at x m) (stays begun (is_some_left (fewer left)) m.item)
    (stand_with x begun (fewer left) ms) (stand_with (x +ℤ m.width) (begun || is_solid m.item) (fewer left) ms)

-- item by item: where the next one stands, whether a word or an atomic box has
-- come, how many items are left up to the last one, and the places so far
pub record Row : Type 0 where
  pub x : ℤ
  pub begun : Bool
  pub left : ℕ
  pub places : List ItemPlace

-- with an item that stays
abbrev pub row_with : Row → Measured → Row
row_with r m = record {
  x = r.x +ℤ m.width;
  begun = r.begun || is_solid m.item;
  left = r.left;
  places = r.places
      ++ placed_at r.x m ∷ [];
}

abbrev pub row_after : Row → Measured → Row
row_after r m = cond (stays r.begun (is_some_left (fewer r.left)) m.item)
    (row_with (record r { left = fewer r.left }) m) (record r { left = fewer r.left })

abbrev pub rows : Row → List Measured → Row
rows r [] = r
rows r (m ∷ ms) = rows (row_after r m) ms

abbrev pub first_row : ℤ → ℕ → Row
first_row x left = record { x = x; begun = false; left = left; places = [] }
