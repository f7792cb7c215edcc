-- The boxes of every tree are numbered in document order, and its root is laid out whole.
use Rattle.std.proofs.Common.{◌≡◌, ℕ, zero, suc, ◌+◌, ◌<◌, ◌≤◌, ◌⊎◌, inl, inr, Bool, false, nat_lt, IsTrue, List, [], ◌∷◌, length, map, Option, None, Some, slice_get, refl, ap, ◌∙◌, arith}
use Rattle.std.specs.Prelude.{option_map}
use Rattle.std.specs.List.{list_all, range_with_len, AllByRecursion}
use Rattle.std.specs.Option.{option_map_or, option_and_then}
use Rattle.std.proofs.lemmas.Bool.{and_from, cases_order}
use Rattle.std.proofs.lemmas.Bool.Decides.{nat_tests}
use Rattle.std.proofs.lemmas.Option.{slice_get-map}
use Rattle.viz_base.specs.Orders.{IsInOrder}
use Rattle.viz_base.specs.Trees.{is_fragmented, is_inline, ascends}
use Rattle.viz_base.specs.declared.trees.BoxNode.{BoxNode}
use Rattle.viz_base.specs.declared.trees.BoxTree.{BoxTree}
use Rattle.viz_base.specs.declared.trees.Kind.{Kind}
use Rattle.viz_base.specs.declared.trees.Kind.TheVariants as of_kind
use Rattle.layout_semantics.specs.Blocks.{kind_of}
use Rattle.layout_semantics.specs.Order.{kids_of}
use Rattle.layout_semantics.proofs.Forest.{IsForest, IsKid, both}
use Rattle.layout_semantics.proofs.Pages.{forest}
use Rattle.lay_steps.specs.Order.{next_of, each_before_next, is_before_to, is_before, is_in_order}

pub whole_no_inline : (kind : Kind) → is_fragmented kind ≡ false → is_inline kind ≡ false
whole_no_inline of_kind.Inline e = absurd (cc)
whole_no_inline _ e = refl

pub root-whole : (tree : BoxTree) → is_fragmented (kind_of tree 0) ≡ false
root-whole tree = by_box (slice_get tree.boxes 0) refl
  where
    by_box : (o : Option BoxNode) → slice_get tree.boxes 0 ≡ o → is_fragmented (option_map_or (λ (b : BoxNode). b.kind) o of_kind.Block) ≡ false
    by_box None e = refl
    by_box (Some b) e = tree.ok.root_is_whole b e

pub root_no_inline : (tree : BoxTree) → is_inline (kind_of tree 0) ≡ false
root_no_inline tree = whole_no_inline (kind_of tree 0) (root-whole tree)

module _ (boxes : List BoxNode) (forest : IsForest boxes) (order : IsInOrder (map (λ (b : BoxNode). b.parent) boxes)) where
  -- what is in the boxes from a place on and before an end stands before that end too
  abbrev Closes : ℕ → ℕ → Type 0
  Closes low end = (at kid : ℕ) → low ≤ at → at < end → IsKid boxes at kid → kid < end

  parent_there : (at kid : ℕ) → IsKid boxes at kid → slice_get (map (λ (b : BoxNode). b.parent) boxes) kid ≡ Some (Some at)
  parent_there at kid own = slice_get-map (λ (b : BoxNode). b.parent) boxes kid ∙ by_box (slice_get boxes kid) own.parent
    where
      by_box : (o : Option BoxNode) → option_and_then (λ (b : BoxNode). b.parent) o ≡ Some at → option_map (λ (b : BoxNode). b.parent) o ≡ Some (Some at)
      by_box None e = absurd (cc)
      by_box (Some b) e = ap Some e

  -- up to the next box of the same parent
  next_closes : (parent k next : ℕ) → IsKid boxes parent k → IsKid boxes parent next → k < next → Closes k next
  next_closes parent k next first second rising at kid from below own = by_place (cases_order kid next)
    where
      after : parent < k
      after = first.after

      by_place : (kid ≡ next) ⊎ ((kid < next) ⊎ (next < kid)) → kid < next
      by_place (inl same) =
          let one = own.parent in
          let other = second.parent in
          let parents : at ≡ parent = cc in
          omega arith
      by_place (inr (inl before)) = before
      by_place (inr (inr past)) =
          let between : IsTrue (nat_lt at (suc parent)) = order at next kid (Some parent) (parent_there at kid own) (parent_there parent next second) below past in
          let inside : at < suc parent = grind (arith, nat_tests, between) in
          omega arith

  -- a box closes before the one that comes next
  kid_closes : (parent k end : ℕ) (ks : List ℕ) → parent < end → Closes parent end → IsKid boxes parent k → AllByRecursion (IsKid boxes parent) ks → IsTrue (ascends k ks)
      → (k < next_of ks end) × Closes k (next_of ks end)
  kid_closes parent k end [] l c own kids r =
      let after = own.after in
      (c parent k (omega arith) l own, λ at kid from below i. c at kid (omega arith) below i)
  kid_closes parent k end (j ∷ ks) l c own kids r =
      let first = (both (nat_lt k j) (ascends j ks) r).0 in
      let rising : k < j = grind (arith, nat_tests, first) in
      (rising, next_closes parent k j own kids.0 rising)

  kids_before : (test : ℕ → ℕ → Bool) → ((at end : ℕ) → at < end → Closes at end → IsTrue (test at end)) → (parent low end : ℕ) (ks : List ℕ) → parent < end → Closes parent end
      → AllByRecursion (IsKid boxes parent) ks → IsTrue (ascends low ks) → IsTrue (each_before_next test ks end)
  kids_before test passes parent low end [] l c kids r = refl
  kids_before test passes parent low end (k ∷ ks) l c kids r =
      let rising = (both (nat_lt low k) (ascends k ks) r).1 in
      let here = kid_closes parent k end ks l c kids.0 kids.1 rising in
      and_from (test k (next_of ks end)) (each_before_next test ks end) (passes k (next_of ks end) here.0 here.1)
      (kids_before test passes parent k end ks l c kids.1 rising)

  closed_before : (levels at end : ℕ) → at < end → Closes at end → IsTrue (is_before_to levels boxes at end)
  unfolding is_before_to
  closed_before zero at end l c = grind (arith, nat_tests, l)
  closed_before (suc levels) at end l c =
      let here : IsTrue (nat_lt at end) = grind (arith, nat_tests, l) in
      and_from (nat_lt at end) (each_before_next (is_before_to levels boxes) (kids_of boxes at) end) here
      (kids_before (is_before_to levels boxes) (closed_before levels) at at end (kids_of boxes at) l c (forest.kids at) (forest.rising at))

pub box_before : (tree : BoxTree) (at : ℕ) → at < length tree.boxes → IsTrue (is_before tree.boxes at (length tree.boxes))
box_before tree at l = closed_before tree.boxes (forest tree) tree.ok.in_order (length tree.boxes) at (length tree.boxes) l (λ parent kid from below own. own.within)

each_passes : (test : ℕ → Bool) (low n : ℕ) → ((k : ℕ) → k < low + n → IsTrue (test k)) → IsTrue (list_all test (range_with_len low n))
each_passes test low zero passes = refl
each_passes test low (suc n) passes =
    and_from (test low) (list_all test (range_with_len (low + 1) n)) (passes low (omega arith)) (each_passes test (low + 1) n (λ k l. passes k (omega arith)))

pub tree_in_order : (tree : BoxTree) → IsTrue (is_in_order tree)
tree_in_order tree = each_passes (λ at. is_before tree.boxes at (length tree.boxes)) 0 (length tree.boxes) (λ at l. box_before tree at (omega arith))
