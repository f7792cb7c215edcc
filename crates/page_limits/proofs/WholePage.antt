-- The coordinates of a page are small, where its boxes' terms are.
use Rattle.std.proofs.Common.{◌≡◌, ℕ, zero, suc, ◌+◌, ◌*◌, ◌≤◌, ◌^◌, ℤ, pos, List, [], ◌∷◌, length, slice_get, Contains, Option, Some, None, refl, sym, ap, subst, arith}
use Rattle.std.specs.Prelude.{chars, sum_by}
use Rattle.std.specs.List.{AllByRecursion}
use Rattle.std.specs.Option.{option_map_or}
use Rattle.std.proofs.lemmas.List.Sums.{sum_by-cons}
use Rattle.viz_base.specs.declared.renderings.Rendering.{Rendering}
use Rattle.viz_base.specs.declared.trees.BoxNode.{BoxNode}
use Rattle.viz_base.specs.declared.trees.BoxTree.{BoxTree}
use Rattle.viz_base.specs.declared.worlds.World.{World}
use Rattle.layout_semantics.specs.Flow.{whole_independent}
use Rattle.layout_semantics.specs.FlowBoxes.{room, room_to, room_inside}
use Rattle.layout_semantics.specs.InlineContent.{text_of}
use Rattle.layout_semantics.specs.Order.{roots, IsOnPage}
use Rattle.layout_semantics.specs.Page.{page_rendering}
use Rattle.layout_semantics.proofs.Pages.{root-alone}
use Rattle.lay_steps.proofs.InOrder.{root_no_inline}
use Rattle.page_limits.specs.Bounds.{all_around, IsPlacedIn}
use Rattle.page_limits.specs.Boxes.{IsWhole, ArePropertiesSmall, IsInlineBoxSmall}
use Rattle.page_limits.specs.Raises.{AreRaisesSmall}
use Rattle.page_limits.proofs.BoxesWithin.{boxes-wider}
use Rattle.page_limits.proofs.InlineWithin.{content-small}
use Rattle.page_limits.proofs.Loads.{rank}
use Rattle.page_limits.proofs.TermsWithin.{box-small}
use Rattle.page_limits.proofs.PageWithin.{known-in}

-- ---- all boxes together

-- the values of a function before a number together, from the last one back and from the first one on
abbrev sum_before : (ℕ → ℕ) → ℕ → ℕ
sum_before f zero = 0
sum_before f (suc n) = sum_before f n + f n

from-first : (f : ℕ → ℕ) (n : ℕ) → sum_before f (suc n) ≡ f 0 + sum_before (λ i. f (suc i)) n
from-first f zero = omega arith
from-first f (suc n) = let rest = from-first f n in omega (arith, rest)

of-list : {A : Type 0} (g : A → ℕ) (xs : List A) → sum_before (λ i. option_map_or g (slice_get xs i) 0) (length xs) ≡ sum_by g xs
of-list g [] = refl
of-list g (x ∷ xs) =
    let all = sum_by-cons g x xs in
    let first = from-first (λ i. option_map_or g (slice_get (x ∷ xs) i) 0) (length xs) in
    let rest = of-list g xs in
    omega (arith, all, first, rest)

module _ (tree : BoxTree) where
  pub letters_at : ℕ → ℕ
  letters_at i = option_map_or (λ (b : BoxNode). length (chars b.chars)) (slice_get tree.boxes i) 0

  same-letters : (i : ℕ) → length (text_of tree i) ≡ letters_at i
  unfolding letters_at
  same-letters i = by (slice_get tree.boxes i)
    where
      by : (o : Option BoxNode) → length (option_map_or (λ (b : BoxNode). chars b.chars) o []) ≡ option_map_or (λ (b : BoxNode). length (chars b.chars)) o 0
      by None = refl
      by (Some b) = refl

  pub rank-is : (n : ℕ) → rank tree n ≡ 4 * n + sum_before letters_at n
  rank-is zero = refl
  rank-is (suc n) = let rest = rank-is n in let one = same-letters n in omega (arith, rest, one)

  pub few : length tree.boxes ≤ 16384 → sum_by (λ (b : BoxNode). length (chars b.chars)) tree.boxes ≤ 524288 → rank tree (length tree.boxes) ≤ 589824
  unfolding letters_at
  few l m = let all = rank-is (length tree.boxes) in let sum = of-list (λ (b : BoxNode). length (chars b.chars)) tree.boxes in omega (arith, all, sum, l, m)

-- ---- the page

module _ (tree : BoxTree) (w : World) (root_whole : IsWhole tree 0) (boxes : (k : ℕ) → IsOnPage tree.boxes k → IsWhole tree k → ArePropertiesSmall tree w (2 ^ 42) k) (terms : (k : ℕ) → IsOnPage tree.boxes k → IsInlineBoxSmall tree w (2 ^ 42) k)
    (raises : AreRaisesSmall tree w (2 ^ 42)) where
  pub root-room : room tree w 0 ≡ pos (64 * w.w)
  unfolding room_to
  root-room = ap (λ (o : Option ℕ). option_map_or (λ parent. room_inside tree w parent (room_to 0 tree w parent)) o (pos (64 * w.w))) (root-alone tree)

  pub root-within : IsOnPage tree.boxes 0 → length tree.boxes ≤ 16384 → sum_by (λ (b : BoxNode). length (chars b.chars)) tree.boxes ≤ 524288
      → AllByRecursion (IsPlacedIn (all_around (2 ^ 70))) (whole_independent tree w 0 (room tree w 0)).boxes
  root-within p l m =
      let k = known-in tree w (2 ^ 42) (omega arith) (λ k p q. box-small tree w (2 ^ 42) k (boxes k p q))
      (λ own apart independent_in k left wide i e. content-small tree w (2 ^ 42) (omega arith) (λ k p q. box-small tree w (2 ^ 42) k (boxes k p q)) terms raises.raises raises.each raises.all own apart independent_in k left wide i) 0 (record { page = p; room = refl; block = root_no_inline tree }, root_whole) in
      let size = k.few in
      let all = few tree l m in
      boxes-wider k.own (all_around (2 ^ 70)) (whole_independent tree w 0 (room tree w 0)).boxes (record { up = omega (arith, size, all); down = omega (arith, size, all); aside = omega (arith, size, all) }) k.inside.boxes

  abbrev rendered : List BoxNode → Rendering ℤ
  rendered l = elim l as (λ _. Rendering ℤ) [ [] ↦ record { boxes = [] } | root ∷ rest ↦ record { boxes = (whole_independent tree w 0 (pos (64 * w.w))).boxes } ]

  pub page-within : length tree.boxes ≤ 16384 → sum_by (λ (b : BoxNode). length (chars b.chars)) tree.boxes ≤ 524288 → AllByRecursion (IsPlacedIn (all_around (2 ^ 70))) (page_rendering tree w).boxes
  page-within l m = by tree.boxes refl
    where
      by : (bs : List BoxNode) → tree.boxes ≡ bs → AllByRecursion (IsPlacedIn (all_around (2 ^ 70))) (page_rendering tree w).boxes
      by [] e = subst (λ (bs : List BoxNode). AllByRecursion (IsPlacedIn (all_around (2 ^ 70))) (rendered bs).boxes) (sym e) tt
      by (b ∷ bs) e =
          let page : IsOnPage tree.boxes 0 = IsOnPage.root 0 (subst (λ (l : List BoxNode). Contains (roots l) 0) (sym e) (0, omega arith, refl)) in
          subst (λ (bs : List BoxNode). AllByRecursion (IsPlacedIn (all_around (2 ^ 70))) (rendered bs).boxes) (sym e)
          (subst (λ (z : ℤ). AllByRecursion (IsPlacedIn (all_around (2 ^ 70))) (whole_independent tree w 0 z).boxes) root-room (root-within page l m))
