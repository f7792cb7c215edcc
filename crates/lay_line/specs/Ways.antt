-- The exact values on the way to what a line holds and how far it reaches.
use Rattle.std.specs.Prelude.{ℤ, pos, ◌+ℤ◌, cond, List, [], ◌∷◌}
use Rattle.layout_semantics.specs.InlineContent.{Item, word, space, atomic}
use Rattle.lay_line.specs.steps.Held.{Held}

abbrev pub solid_way : ℤ → Held → List ℤ
solid_way w h = (h.width +ℤ h.spaces) ∷ (h.width +ℤ h.spaces +ℤ w) ∷ pos 0 ∷ []

abbrev pub space_way : ℤ → Held → List ℤ
space_way w h = cond h.begun ((h.spaces +ℤ w) ∷ []) (pos 0 ∷ [])

abbrev pub other_way : ℤ → Held → List ℤ
other_way w h = (h.width +ℤ w) ∷ []

abbrev pub item_way : ℤ → Held → Item → List ℤ
item_way w h (word at text) = solid_way w h
item_way w h (atomic at) = solid_way w h
item_way w h (space at) = space_way w h
item_way w h i = other_way w h
