use Rattle.std.proofs.Common.{◌≡◌, ℕ, ℤ, Bool, true, false, cond, List, [], ◌∷◌, ◌++◌, refl, sym, ◌∙◌, ap, append_assoc}
use Rattle.std.specs.Prelude.{Option, Some, None, take}
use Rattle.std.specs.Option.{option_map_or}
use Rattle.viz_base.specs.declared.layouts.Entry.{Entry}
use Rattle.viz_base.specs.declared.layouts.Spot.{Spot}
use Rattle.layout_semantics.specs.InlineContent.{Item, start, finish, word, space, atomic, forced, float}
use Rattle.layout_semantics.specs.LineHeights.{InlineContext}
use Rattle.layout_semantics.specs.Fragments.{ItemPlace, SetLine, is_text_of, text_fragment, text_right, text_entry, inline_fragment, opened_entries, item_entries, entries_after, line_entries, float_entries, spots_after, atomic_entry}
use Rattle.layout_laws.specs.LineStacks.{line_rectangle, line_rectangles}

abbrev of_item : InlineContext → SetLine → Option ItemPlace → ItemPlace → List ItemPlace → List (ℕ × Spot ℤ) → Item → List (Entry ℤ)
of_item c line before p after spots i = elim i [ start at ↦ inline_fragment c line at (Some p.right) after ∷ [] | finish at ↦ [] | word at text ↦ text_entry c line at before p after | space at ↦ text_entry c line at before p after | atomic at ↦ atomic_entry c line at p.left ∷ [] | forced at ↦ [] | float at ↦ float_entries (take 1 spots) ]

-- ---- line boxes among entries

pub rectangles-append : (xs ys : List (Entry ℤ)) → line_rectangles (xs ++ ys) ≡ line_rectangles xs ++ line_rectangles ys
rectangles-append [] ys = refl
rectangles-append (x ∷ xs) ys = ap (λ l. line_rectangle x ++ l) (rectangles-append xs ys) ∙ sym (append_assoc (line_rectangle x) (line_rectangles xs) (line_rectangles ys))

none-append : (xs ys : List (Entry ℤ)) → line_rectangles xs ≡ [] → line_rectangles ys ≡ [] → line_rectangles (xs ++ ys) ≡ []
none-append xs ys e f = rectangles-append xs ys ∙ ap (λ l. l ++ line_rectangles ys) e ∙ f

fragments-none : (c : InlineContext) (line : SetLine) (opened : List ℕ) → line_rectangles (opened_entries c line opened) ≡ []
fragments-none c line [] = refl
fragments-none c line (at ∷ opened) = fragments-none c line opened

text-none : (c : InlineContext) (line : SetLine) (at : ℕ) (before : Option ItemPlace) (p : ItemPlace) (after : List ItemPlace) → line_rectangles (text_entry c line at before p after) ≡ []
text-none c line at before p after = by (option_map_or (is_text_of at) before false)
  where
    by : (b : Bool) → line_rectangles (cond b [] (text_fragment c line at p.left (text_right at p.right after) ∷ [])) ≡ []
    by true = refl
    by false = refl

pub floats-none : (spots : List (ℕ × Spot ℤ)) → line_rectangles (float_entries spots) ≡ []
floats-none [] = refl
floats-none (spot ∷ spots) = floats-none spots

item-none : (c : InlineContext) (line : SetLine) (before : Option ItemPlace) (p : ItemPlace) (after : List ItemPlace) (spots : List (ℕ × Spot ℤ)) (i : Item) → line_rectangles (of_item c line before p after spots i) ≡ []
item-none c line before p after spots (start at) = refl
item-none c line before p after spots (finish at) = refl
item-none c line before p after spots (word at text) = text-none c line at before p after
item-none c line before p after spots (space at) = text-none c line at before p after
item-none c line before p after spots (atomic at) = refl
item-none c line before p after spots (forced at) = refl
item-none c line before p after spots (float at) = floats-none (take 1 spots)

places-none : (c : InlineContext) (line : SetLine) (before : Option ItemPlace) (ps : List ItemPlace) (spots : List (ℕ × Spot ℤ)) → line_rectangles (entries_after c line before ps spots) ≡ []
places-none c line before [] spots = refl
places-none c line before (p ∷ after) spots =
    none-append (item_entries c line before p after spots) (entries_after c line (Some p) after (spots_after p.item spots))
    (item-none c line before p after spots p.item) (places-none c line (Some p) after (spots_after p.item spots))

-- a line's fragments are no line boxes
pub entries-none : (c : InlineContext) (line : SetLine) (opened : List ℕ) → line_rectangles (line_entries c line opened) ≡ []
entries-none c line opened = none-append (opened_entries c line opened) (entries_after c line None line.places line.spots) (fragments-none c line opened) (places-none c line None line.places line.spots)
