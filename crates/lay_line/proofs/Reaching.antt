use Rattle.std.proofs.Common.{◌≡◌, ℕ, ℤ, List, [], ◌∷◌, ◌++◌, map, fold, refl, sym, ◌∙◌, ap, arith}
use Rattle.std.specs.Int.{int_max}
use Rattle.std.proofs.lemmas.Int.{ints, clamps}
use Rattle.std.proofs.lemmas.List.Sums.{fold-append}
use Rattle.layout_semantics.specs.Extremes.{greatest_from}
use Rattle.layout_semantics.specs.InlineContent.{Item, start, finish, word, space, atomic, forced, float}
use Rattle.layout_semantics.specs.LineHeights.{InlineContext, LineExtent, extent_in_line, strut, line_extent, extended_boxes}
use Rattle.lay_line.specs.steps.Filling.{with_box, with_item_box, extent_at_start}

greatest-more : (a b : ℤ) (xs : List ℤ) → greatest_from (int_max b a) xs ≡ int_max b (greatest_from a xs)
greatest-more a b [] = refl
greatest-more a b (x ∷ xs) = let rest = greatest-more a b xs in ap (int_max x) rest ∙ omega (arith, ints, clamps)

extent-from : (c : InlineContext) (e : LineExtent) (boxes : List ℕ)
    → fold (with_box c) e boxes ≡ record { above = greatest_from e.above (map (λ at. (extent_in_line c at).above) boxes); below = greatest_from e.below (map (λ at. (extent_in_line c at).below) boxes) }
extent-from c e [] = refl
extent-from c e (b ∷ bs) =
    let more = extent_in_line c b in
    let above = greatest-more e.above more.above (map (λ at. (extent_in_line c at).above) bs) in
    let below = greatest-more e.below more.below (map (λ at. (extent_in_line c at).below) bs) in
    extent-from c (with_box c e b) bs
    ∙ (ap (λ x. made x (greatest_from (int_max more.below e.below) (map (λ at. (extent_in_line c at).below) bs))) above
    ∙ ap (made (int_max more.above (greatest_from e.above (map (λ at. (extent_in_line c at).above) bs)))) below)
  where
    made : ℤ → ℤ → LineExtent
    made x y = record { above = x; below = y }

items-extent : (c : InlineContext) (e : LineExtent) (items : List Item) → fold (with_box c) e (extended_boxes items) ≡ fold (with_item_box c) e items
items-extent c e [] = refl
items-extent c e (start at ∷ items) = items-extent c (with_box c e at) items
items-extent c e (finish at ∷ items) = items-extent c e items
items-extent c e (word at text ∷ items) = items-extent c e items
items-extent c e (space at ∷ items) = items-extent c e items
items-extent c e (atomic at ∷ items) = items-extent c (with_box c e at) items
items-extent c e (forced at ∷ items) = items-extent c e items
items-extent c e (float at ∷ items) = items-extent c e items

-- a line's reach is what the pass carries
pub extent-same : (c : InlineContext) (opened : List ℕ) (items : List Item) → line_extent c (opened ++ extended_boxes items) ≡ fold (with_item_box c) (extent_at_start c opened) items
extent-same c opened items = sym (extent-from c (strut c) (opened ++ extended_boxes items)) ∙ (fold-append (with_box c) (strut c) opened (extended_boxes items) ∙ items-extent c (extent_at_start c opened) items)
