-- What the boxes in a box cost together is no more than what all boxes do.
use Rattle.std.proofs.Common.{◌≡◌, ℕ, zero, suc, ◌+◌, ◌<◌, ◌≤◌, Bool, true, false, nat_lt, List, [], ◌∷◌, flat_map, length, Option, None, Some, slice_get, IsTrue, refl, sym, subst, arith}
use Rattle.std.specs.List.{AllByRecursion}
use Rattle.std.specs.Option.{option_map_or, option_and_then}
use Rattle.std.proofs.lemmas.Bool.Decides.{nat_tests}
use Rattle.std.proofs.lemmas.Option.{slice_get_within}
use Rattle.viz_base.specs.Trees.{ascends}
use Rattle.viz_base.specs.declared.trees.BoxNode.{BoxNode}
use Rattle.viz_base.specs.declared.trees.BoxTree.{BoxTree}
use Rattle.layout_semantics.specs.Blocks.{parent_of}
use Rattle.layout_semantics.specs.Order.{kids_of, order_to, document_order}
use Rattle.layout_semantics.proofs.Forest.{IsKid, both}
use Rattle.layout_semantics.proofs.Pages.{forest}
use Rattle.lay_preferred.proofs.SmallBoxes.{IsClosed, before-next}
use Rattle.page_limits.proofs.WidthsLists.{costs, costs-append}

-- ---- the values of a function before a number together

abbrev pub rank : (ℕ → ℕ) → ℕ → ℕ
rank cost zero = 0
rank cost (suc n) = rank cost n + cost n

rank-more : (cost : ℕ → ℕ) (m n : ℕ) → m ≤ n → rank cost m ≤ rank cost n
rank-more cost m zero l = by m l
  where
    by : (m : ℕ) → m ≤ 0 → rank cost m ≤ 0
    by zero l = omega arith
    by (suc m) l = absurd (omega (arith, l))
rank-more cost m (suc n) l = by (λ less. rank-more cost m n less) (nat_lt n m) refl
  where
    by : (m ≤ n → rank cost m ≤ rank cost n) → (b : Bool) → nat_lt n m ≡ b → rank cost m ≤ rank cost n + cost n
    by again true e = let same : m ≡ suc n = grind (arith, nat_tests) in subst (λ (x : ℕ). rank cost x ≤ rank cost n + cost n) (sym same) (omega arith)
    by again false e = let less : m ≤ n = grind (arith, nat_tests) in let rest = again less in omega (arith, rest)

from-first : (f : ℕ → ℕ) (n : ℕ) → rank f (suc n) ≡ f 0 + rank (λ i. f (suc i)) n
from-first f zero = omega arith
from-first f (suc n) = let rest = from-first f n in omega (arith, rest)

-- of the elements of a list
pub rank-of-list : {A : Type 0} (g : A → ℕ) (xs : List A) → rank (λ i. option_map_or g (slice_get xs i) 0) (length xs) ≡ costs g xs
rank-of-list g [] = refl
rank-of-list g (x ∷ xs) =
    let first = from-first (λ i. option_map_or g (slice_get (x ∷ xs) i) 0) (length xs) in
    let rest = rank-of-list g xs in
    omega (arith, first, rest)

-- ---- boxes in their order

module _ (tree : BoxTree) (cost : ℕ → ℕ) where
  abbrev ordered : ℕ → ℕ → List ℕ
  ordered n k = order_to n tree.boxes k

  kids-span : (n at stop low k : ℕ) (ks : List ℕ) → ((j next : ℕ) → j < next → IsClosed tree.boxes j next → costs cost (ordered n j) + rank cost j ≤ rank cost next)
      → IsClosed tree.boxes at stop → at < stop → IsTrue (ascends low (k ∷ ks)) → AllByRecursion (IsKid tree.boxes at) (k ∷ ks)
      → costs cost (flat_map (ordered n) (k ∷ ks)) + rank cost k ≤ rank cost stop
  kids-span n at stop low k [] each c l r a =
      let kid = a.0 in
      let after = kid.after in
      let within = c k at kid.parent (omega arith) l in
      let own = each k stop within (λ x p e f m. c x p e (omega (arith, after, f)) m) in
      let size = costs-append cost (ordered n k) [] in
      omega (arith, own, size)
  kids-span n at stop low k (j ∷ ks) each c l r a =
      let rising = both (nat_lt low k) (ascends k (j ∷ ks)) r in
      let next = both (nat_lt k j) (ascends j ks) rising.1 in
      let up : k < j = grind (arith, nat_tests, next.0) in
      let own = each k j up (before-next tree at k j a.0 (a.1).0 up) in
      let rest = kids-span n at stop k j ks each c l rising.1 a.1 in
      let size = costs-append cost (ordered n k) (flat_map (ordered n) (j ∷ ks)) in
      omega (arith, own, rest, size)

  span : (n at stop : ℕ) → at < stop → IsClosed tree.boxes at stop → costs cost (ordered n at) + rank cost at ≤ rank cost stop
  unfolding order_to
  span zero at stop l c = let r = rank-more cost at stop (omega (arith, l)) in omega (arith, r)
  span (suc n) at stop l c = by (kids_of tree.boxes at) ((forest tree).rising at) ((forest tree).kids at) (λ j next m d. span n j next m d)
    where
      by : (ks : List ℕ) → IsTrue (ascends at ks) → AllByRecursion (IsKid tree.boxes at) ks → ((j next : ℕ) → j < next → IsClosed tree.boxes j next → costs cost (ordered n j) + rank cost j ≤ rank cost next)
          → cost at + costs cost (flat_map (ordered n) ks) + rank cost at ≤ rank cost stop
      by [] r a again = let m = rank-more cost (suc at) stop (omega (arith, l)) in omega (arith, m)
      by (k ∷ ks) r a again =
          let all = kids-span n at stop at k ks again c l r a in
          let kid = a.0 in
          let after = kid.after in
          let m = rank-more cost (suc at) k (omega (arith, after)) in
          omega (arith, all, m)

  pub order-cost : (at : ℕ) → at < length tree.boxes → costs cost (document_order tree.boxes at) ≤ rank cost (length tree.boxes)
  order-cost at l = let s = span (length tree.boxes) at (length tree.boxes) l (λ x p e f m. within x p e) in omega (arith, s)
    where
      within : (x p : ℕ) → parent_of tree.boxes x ≡ Some p → x < length tree.boxes
      within x p e = by (slice_get tree.boxes x) refl e
        where
          by : (o : Option BoxNode) → slice_get tree.boxes x ≡ o → option_and_then (λ (b : BoxNode). b.parent) o ≡ Some p → x < length tree.boxes
          by None f e = absurd (cc)
          by (Some b) f e = slice_get_within tree.boxes x b f
