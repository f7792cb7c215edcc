-- A box in a line is raised by no more than what bounds its own raise and those of the boxes around it.
use Rattle.std.proofs.Common.{◌≡◌, ◌≢◌, ℕ, zero, suc, ◌+◌, ◌≤◌, ℤ, pos, ◌+ℤ◌, ◌-ℤ◌, unsigned_abs, Bool, true, false, List, Option, Some, None, refl, sym, ◌∙◌, subst, arith}
use Rattle.std.specs.Prelude.{◌==◌, if◌then◌else◌}
use Rattle.std.specs.Option.{option_map_or}
use Rattle.std.proofs.lemmas.Bool.Decides.{nat_tests}
use Rattle.std.proofs.lemmas.Int.{ints}
use Rattle.viz_base.specs.Trees.{is_inline}
use Rattle.viz_base.specs.declared.layouts.Band.{Band}
use Rattle.viz_base.specs.declared.layouts.Inner.{Inner}
use Rattle.viz_base.specs.declared.trees.BoxTree.{BoxTree}
use Rattle.viz_base.specs.declared.worlds.World.{World}
use Rattle.layout_semantics.specs.Blocks.{kind_of, node_of, parent_of}
use Rattle.layout_semantics.specs.LineHeights.{InlineContext, LineExtent, inline_extent, shift_to, shift, inline_shift}
use Rattle.layout_semantics.specs.Order.{kids_of, IsOnPage}
use Rattle.layout_semantics.proofs.Forest.{IsKid}
use Rattle.layout_semantics.proofs.Pages.{forest, root-alone, root_place, Each-contains}
use Rattle.page_limits.specs.Boxes.{middle_of}
use Rattle.page_limits.specs.Raises.{own_raise, raise_around, AreRaisedBy}

-- the box around a box of the page is on it
pub around : (tree : BoxTree) (k p : ℕ) → IsOnPage tree.boxes k → parent_of tree.boxes k ≡ Some p → IsOnPage tree.boxes p
around tree k p (IsOnPage.root at c) e =
    let place = root_place tree.boxes at c in
    absurd (let none = root-alone tree in let other : parent_of tree.boxes 0 ≡ Some p = subst (λ (x : ℕ). parent_of tree.boxes x ≡ Some p) (sym place.0) e in cc)
around tree k p (IsOnPage.inside at kid q c) e =
    let own = Each-contains (IsKid tree.boxes at) (kids_of tree.boxes at) kid ((forest tree).kids at) c in
    let named = own.parent in
    let same : at ≡ p = cc in
    subst (IsOnPage tree.boxes) same q

-- a box in the lines of a container: one in it, or in an inline box that is
pub data IsInLines (tree : BoxTree) (container : ℕ) : ℕ → Type 0 where
  child : (k : ℕ) → parent_of tree.boxes k ≡ Some container → IsInLines tree container k
  inside : (k parent : ℕ) → IsInLines tree container parent → is_inline (kind_of tree parent) ≡ true → parent_of tree.boxes k ≡ Some parent → IsInLines tree container k

module _ (tree : BoxTree) (w : World) (raises : ℕ → ℕ) (raised : AreRaisedBy tree w raises) (container : ℕ) (inner : List (Option (Inner ℤ))) (cb : Band ℤ) where
  abbrev c : InlineContext
  c = record { tree = tree; world = w; container = container; inner = inner; cb = cb }

  abbrev extent_of : ℕ → LineExtent
  extent_of k = inline_extent tree w (node_of tree k)

  -- a container is not raised in its own lines
  container-level : (n : ℕ) (e : LineExtent) → shift_to n c container e ≡ pos 0
  unfolding shift_to
  container-level zero e = refl
  container-level (suc n) e = by (container == container) refl
    where
      by : (b : Bool) → (container == container) ≡ b
          → elim b as (λ _. ℤ) [ true ↦ pos 0 | false ↦ option_map_or (λ q. own_raise c container q e +ℤ shift_to n c q (extent_of q)) (parent_of tree.boxes container) (pos 0) ] ≡ pos 0
      by true f = refl
      by false f = absurd (grind (arith, nat_tests))

  same_some : (a b : ℕ) → Some a ≡ Some b → a ≡ b
  same_some a b e = cc

  -- the box around a box in the lines is raised by no more than it adds
  around-level : (n k q : ℕ) → IsOnPage tree.boxes k → IsInLines tree container k → parent_of tree.boxes k ≡ Some q
      → ((r : ℕ) → IsOnPage tree.boxes r → IsInLines tree container r → unsigned_abs (shift_to n c r (extent_of r)) ≤ raises r) → unsigned_abs (shift_to n c q (extent_of q)) ≤ raise_around tree raises q
  around-level n k q p (IsInLines.child _ f) e again =
      let same : container ≡ q = same_some container q (sym f ∙ e) in
      subst (λ (x : ℕ). unsigned_abs (shift_to n c x (extent_of x)) ≤ raise_around tree raises x) same
      (subst (λ (z : ℤ). unsigned_abs z ≤ raise_around tree raises container) (sym (container-level n (extent_of container))) (omega arith))
  around-level n k q p (IsInLines.inside _ r i t f) e again =
      let same : r ≡ q = same_some r q (sym f ∙ e) in
      let rest = again r (around tree k r p f) i in
      subst (λ (x : ℕ). unsigned_abs (shift_to n c x (extent_of x)) ≤ raise_around tree raises x) same
      (subst (λ (b : Bool). unsigned_abs (shift_to n c r (extent_of r)) ≤ (if b then raises r else 0)) (sym t) rest)

  inline-to : (n k : ℕ) → IsOnPage tree.boxes k → IsInLines tree container k → unsigned_abs (shift_to n c k (extent_of k)) ≤ raises k
  unfolding shift_to
  inline-to zero k p i = omega arith
  inline-to (suc n) k p i = by (k == container) (parent_of tree.boxes k) refl (λ q f. around-level n k q p i f (λ r a j. inline-to n r a j))
    where
      by : (b : Bool) (o : Option ℕ) → parent_of tree.boxes k ≡ o → ((q : ℕ) → parent_of tree.boxes k ≡ Some q → unsigned_abs (shift_to n c q (extent_of q)) ≤ raise_around tree raises q)
          → unsigned_abs (elim b as (λ _. ℤ) [ true ↦ pos 0 | false ↦ option_map_or (λ q. own_raise c k q (extent_of k) +ℤ shift_to n c q (extent_of q)) o (pos 0) ]) ≤ raises k
      by true o f again = omega arith
      by false None f again = omega arith
      by false (Some q) f again =
          let own = raised.inline container inner cb k q p f in
          let rest = again q f in
          sums (own_raise c k q (extent_of k)) (shift_to n c q (extent_of q)) (raises k) (raise_around tree raises q) own rest
        where
          sums : (x y : ℤ) (a b : ℕ) → unsigned_abs x + b ≤ a → unsigned_abs y ≤ b → unsigned_abs (x +ℤ y) ≤ a
          sums x y a b h j = omega (arith, ints, h, j)

  pub inline-raised : (k : ℕ) → IsOnPage tree.boxes k → IsInLines tree container k → unsigned_abs (inline_shift c k) ≤ raises k
  inline-raised k p i = inline-to (suc k) k p i

  pub around-raised : (k q : ℕ) → IsOnPage tree.boxes k → IsInLines tree container k → parent_of tree.boxes k ≡ Some q → unsigned_abs (inline_shift c q) ≤ raise_around tree raises q
  around-raised k q p i e = around-level (suc q) k q p i e (λ r a j. inline-to (suc q) r a j)

  pub other-raised : (k : ℕ) (e : LineExtent) → IsOnPage tree.boxes k → IsInLines tree container k → (k == container) ≡ false → unsigned_abs (shift c k e -ℤ middle_of c k e) ≤ raises k
  unfolding shift_to
  other-raised k e p i apart = by (k == container) (parent_of tree.boxes k) refl apart (parent-some i)
    where
      parent-some : IsInLines tree container k → parent_of tree.boxes k ≢ None
      parent-some (IsInLines.child _ f) none = cc
      parent-some (IsInLines.inside _ q j t f) none = cc

      by : (b : Bool) (o : Option ℕ) → parent_of tree.boxes k ≡ o → b ≡ false → o ≢ None
          → unsigned_abs (elim b as (λ _. ℤ) [ true ↦ pos 0 | false ↦ option_map_or (λ q. own_raise c k q e +ℤ shift_to k c q (extent_of q)) o (pos 0) ] -ℤ middle_of c k e) ≤ raises k
      by true o f g h = absurd (cc)
      by false None f g h = absurd (h refl)
      by false (Some q) f g h =
          let own = raised.other container inner cb k q e p f in
          let rest = around-level k k q p i f (λ r a j. inline-to k r a j) in
          sums (own_raise c k q e) (shift_to k c q (extent_of q)) (middle_of c k e) (raises k) (raise_around tree raises q) own rest
        where
          sums : (x y m : ℤ) (a b : ℕ) → unsigned_abs (x -ℤ m) + b ≤ a → unsigned_abs y ≤ b → unsigned_abs ((x +ℤ y) -ℤ m) ≤ a
          sums x y m a b h j = omega (arith, ints, h, j)
