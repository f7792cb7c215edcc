-- The width of a line's content in one pass: the steps that the code takes, item by item.
use Rattle.std.specs.Prelude.{ℤ, pos, ◌+ℤ◌, Bool, true, false, cond, List, fold}
use Rattle.layout_semantics.specs.InlineContent.{Item, word, space, atomic}

-- what a line holds so far: its width without the spaces at its ends, the width of
-- the spaces since the last word or atomic box, and whether there was one
pub record Held : Type 0 where
  pub width : ℤ
  pub spaces : ℤ
  pub begun : Bool

abbrev pub nothing_held : Held
nothing_held = record { width = pos 0; spaces = pos 0; begun = false }

abbrev pub with_solid : ℤ → Held → Held
with_solid w h = record { width = h.width +ℤ h.spaces +ℤ w; spaces = pos 0; begun = true }

abbrev pub with_space : ℤ → Held → Held
with_space w h = record { width = h.width; spaces = cond h.begun (h.spaces +ℤ w) (pos 0); begun = h.begun }

abbrev pub with_other : ℤ → Held → Held
with_other w h = record { width = h.width +ℤ w; spaces = h.spaces; begun = h.begun }

-- with one item more, `width` being what each takes
abbrev pub with_item : (Item → ℤ) → Held → Item → Held
with_item width h (word at text) = with_solid (width (word at text)) h
with_item width h (atomic at) = with_solid (width (atomic at)) h
with_item width h (space at) = with_space (width (space at)) h
with_item width h other = with_other (width other) h

-- with those of a segment
abbrev pub with_items : (Item → ℤ) → Held → List Item → Held
with_items width h items = fold (with_item width) h items
