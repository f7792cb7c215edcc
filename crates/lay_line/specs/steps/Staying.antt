-- What stays of a line's content, and where it stands, in one pass.
use Rattle.std.specs.Prelude.{ℕ, zero, suc, ℤ, ◌+ℤ◌, Bool, true, false, cond, ◌&&◌, ◌||◌, List, [], ◌∷◌, fold}
use Rattle.layout_semantics.specs.InlineContent.{Item, word, space, atomic}
use Rattle.layout_semantics.specs.LineHeights.{InlineContext}
use Rattle.layout_semantics.specs.LineFilling.{item_width}
use Rattle.layout_semantics.specs.Fragments.{ItemPlace}

-- a word or an atomic box
abbrev pub is_solid : Item → Bool
is_solid (word at text) = true
is_solid (atomic at) = true
is_solid _ = false

-- ---- how many items stand on a line

-- how many items there are, and how many up to the last word or atomic box
pub record Span : Type 0 where
  pub items : ℕ
  pub solid : ℕ

abbrev pub no_items : Span
no_items = record { items = 0; solid = 0 }

abbrev pub span_after : Span → Item → Span
span_after s i = record { items = suc s.items; solid = cond (is_solid i) (suc s.items) s.solid }

abbrev pub spanned : Span → List Item → Span
spanned s items = fold span_after s items

-- ---- where they stand

abbrev pub fewer : ℕ → ℕ
fewer zero = 0
fewer (suc n) = n

abbrev pub is_some_left : ℕ → Bool
is_some_left zero = false
is_some_left (suc n) = true

-- whether an item stays, where a word or an atomic box stands before it, and one after it
abbrev pub stays : Bool → Bool → Item → Bool
stays begun more (space at) = begun && more
stays begun more i = true

-- an item in its place, before the places of those after it, or those where it goes
abbrev pub put : ItemPlace → Bool → List ItemPlace → List ItemPlace → List ItemPlace
put p true without rest = p ∷ rest
put p false without rest = without

-- the places of the items that stay, from x on: so many are left up to the last word or atomic box
abbrev pub stand : InlineContext → ℤ → Bool → ℕ → List Item → List ItemPlace
stand c x begun left [] = []
stand c x begun left (i ∷ items) =
    put (record { item = i; left = x; right = x +ℤ item_width c i }) (stays begun (is_some_left (fewer left)) i)
    (stand c x begun (fewer left) items) (stand c (x +ℤ item_width c i) (begun || is_solid i) (fewer left) items)
