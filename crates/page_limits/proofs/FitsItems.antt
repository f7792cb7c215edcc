-- The lines of a container have few items: at most two of each box of the page, and one of each character.
use Rattle.std.proofs.Common.{◌≡◌, ℕ, zero, suc, ◌+◌, ◌*◌, ◌<◌, ◌≤◌, ◌==◌, Bool, true, false, List, [], ◌∷◌, length, flat_map, Option, slice_get, refl, sym, subst, ap, arith}
use Rattle.std.specs.Prelude.{chars, sum_by}
use Rattle.std.specs.List.{AllByRecursion}
use Rattle.std.specs.Option.{option_map_or}
use Rattle.std.proofs.lemmas.List.{length-append}
use Rattle.std.proofs.lemmas.List.Sums.{sum_by-cons}
use Rattle.viz_base.specs.declared.trees.BoxNode.{BoxNode}
use Rattle.viz_base.specs.declared.trees.BoxTree.{BoxTree}
use Rattle.viz_base.proofs.ListLemmas.{slice_some}
use Rattle.layout_semantics.specs.InlineContent.{Item, start, finish, word, space, atomic, forced, float, Sort, a_float, an_atomic, a_break, a_text, an_inline, sort_of, text_of, text_items, letter_before, character_before, items_to, content}
use Rattle.layout_semantics.specs.Order.{kids_of, document_order}
use Rattle.layout_semantics.proofs.Forest.{IsKid}
use Rattle.layout_semantics.proofs.Orders.{document_order-is}
use Rattle.layout_semantics.proofs.Pages.{forest}
use Rattle.layout_laws.specs.Nested.{items_of_sort}
use Rattle.layout_laws.proofs.Levels.{All-implied}
use Rattle.page_limits.proofs.WidthsLists.{costs, costs-append}
use Rattle.page_limits.proofs.WidthsOrder.{rank-of-list, order-cost}

-- ---- the words and spaces of a text

letter-count : (at c : ℕ) (items : List Item) → length (letter_before at c items) ≤ suc (length items)
letter-count at c [] = omega arith
letter-count at c (word other text ∷ items) = omega arith
letter-count at c (start other ∷ items) = omega arith
letter-count at c (finish other ∷ items) = omega arith
letter-count at c (space other ∷ items) = omega arith
letter-count at c (atomic other ∷ items) = omega arith
letter-count at c (forced other ∷ items) = omega arith
letter-count at c (float other ∷ items) = omega arith

text-count : (at : ℕ) (text : List ℕ) → length (text_items at text) ≤ length text
text-count at [] = omega arith
text-count at (c ∷ cs) = by (c == 32) (text-count at cs)
  where
    by : (b : Bool) → length (text_items at cs) ≤ length cs → length (character_before b at c (text_items at cs)) ≤ suc (length cs)
    by true rest = omega (arith, rest)
    by false rest = let a = letter-count at c (text_items at cs) in omega (arith, a, rest)

-- ---- those of a box

abbrev count_in : BoxNode → ℕ
count_in x = length (chars x.chars) + 2

letters : (bs : List BoxNode) → costs count_in bs ≡ sum_by (λ (x : BoxNode). length (chars x.chars)) bs + 2 * length bs
letters [] = refl
letters (b ∷ bs) = let all = sum_by-cons (λ (x : BoxNode). length (chars x.chars)) b bs in let rest = letters bs in omega (arith, all, rest)

module _ (tree : BoxTree) where
  abbrev count_at : ℕ → ℕ
  count_at k = option_map_or count_in (slice_get tree.boxes k) 0

  -- of several boxes and all in them
  abbrev counts : List ℕ → ℕ
  counts ks = costs count_at (flat_map (document_order tree.boxes) ks)

  count-is : (k : ℕ) → k < length tree.boxes → count_at k ≡ length (text_of tree k) + 2
  count-is k l =
      let x = slice_some tree.boxes k l in
      subst (λ (o : Option BoxNode). option_map_or count_in o 0 ≡ length (option_map_or (λ (b : BoxNode). chars b.chars) o []) + 2) (sym x.1) refl

  order-is : (k : ℕ) → k < length tree.boxes → costs count_at (document_order tree.boxes k) ≡ length (text_of tree k) + 2 + counts (kids_of tree.boxes k)
  order-is k l =
      let all = ap (costs count_at) (document_order-is tree.boxes k (forest tree) l) in
      let own = count-is k l in
      omega (arith, all, own)

  each-count : (f : ℕ → List Item) (ks : List ℕ) → AllByRecursion (λ k. length (f k) ≤ costs count_at (document_order tree.boxes k)) ks → length (flat_map f ks) ≤ counts ks
  each-count f [] a = omega arith
  each-count f (k ∷ ks) a =
      let rest = each-count f ks a.1 in
      let split = length-append (f k) (flat_map f ks) in
      let all = costs-append count_at (document_order tree.boxes k) (flat_map (document_order tree.boxes) ks) in
      let here = a.0 in
      omega (arith, rest, split, all, here)

  sort-count : (k : ℕ) (inside : List Item) (s : Sort) → k < length tree.boxes → length inside ≤ counts (kids_of tree.boxes k) → length (items_of_sort tree k inside s) ≤ costs count_at (document_order tree.boxes k)
  sort-count k inside a_float l h = let is = order-is k l in omega (arith, is)
  sort-count k inside an_atomic l h = let is = order-is k l in omega (arith, is)
  sort-count k inside a_break l h = let is = order-is k l in omega (arith, is)
  sort-count k inside a_text l h = let is = order-is k l in let text = text-count k (text_of tree k) in omega (arith, is, text)
  sort-count k inside an_inline l h = let is = order-is k l in let split = length-append inside (finish k ∷ []) in omega (arith, is, split, h)

  items-count : (n k : ℕ) → k < length tree.boxes → length (items_to n tree k) ≤ costs count_at (document_order tree.boxes k)
  unfolding items_to
  items-count zero k l = omega arith
  items-count (suc n) k l = sort-count k (flat_map (items_to n tree) (kids_of tree.boxes k)) (sort_of tree k) l
      (each-count (items_to n tree) (kids_of tree.boxes k)
      (All-implied (IsKid tree.boxes k) (λ j. length (items_to n tree j) ≤ costs count_at (document_order tree.boxes j)) (kids_of tree.boxes k) (λ j i. items-count n j i.within) ((forest tree).kids k)))

  pub few-items : length tree.boxes ≤ 16384 → sum_by (λ (x : BoxNode). length (chars x.chars)) tree.boxes ≤ 524288 → (k : ℕ) → k < length tree.boxes → length (content tree k) ≤ 557056
  few-items few short k l =
      let inside = each-count (items_to (length tree.boxes) tree) (kids_of tree.boxes k)
      (All-implied (IsKid tree.boxes k) (λ j. length (items_to (length tree.boxes) tree j) ≤ costs count_at (document_order tree.boxes j)) (kids_of tree.boxes k) (λ j i. items-count (length tree.boxes) j i.within) ((forest tree).kids k)) in
      let own = order-is k l in
      let all = order-cost tree count_at k l in
      let list = rank-of-list count_in tree.boxes in
      let parts = letters tree.boxes in
      omega (arith, inside, own, all, list, parts, few, short)
