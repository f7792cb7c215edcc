-- The raises of a box and of the inline boxes around it together.
use Rattle.std.proofs.Common.{◌≡◌, ℕ, zero, suc, ◌+◌, ◌^◌, ◌<◌, ◌≤◌, ◌⊎◌, inl, inr, Bool, true, false, ℤ, ◌-ℤ◌, unsigned_abs, length, List, Option, Some, None, slice_get, refl, sym, ap, ◌∙◌, subst, arith, if◌then◌else◌}
use Rattle.std.specs.Option.{option_map_or}
use Rattle.viz_base.specs.Reaches.{is_of_element, own_extent, text_extent}
use Rattle.viz_base.specs.Trees.{is_inline}
use Rattle.viz_base.specs.declared.layouts.Band.{Band}
use Rattle.viz_base.specs.declared.layouts.Inner.{Inner}
use Rattle.viz_base.specs.declared.trees.BoxNode.{BoxNode}
use Rattle.viz_base.specs.declared.trees.BoxTree.{BoxTree}
use Rattle.viz_base.specs.declared.trees.Kind.{Kind}
use Rattle.viz_base.specs.declared.trees.Kind.TheVariants as of_kind
use Rattle.viz_base.specs.declared.worlds.World.{World}
use Rattle.viz_base.proofs.ListLemmas.{slice_some}
use Rattle.layout_semantics.specs.Blocks.{kind_of, node_of, parent_of}
use Rattle.layout_semantics.specs.LineHeights.{InlineContext, LineExtent, inline_extent, raise}
use Rattle.layout_semantics.specs.Order.{IsOnPage}
use Rattle.layout_semantics.proofs.Pages.{within-page}
use Rattle.layout_laws.proofs.Upward.{HasParent, parent-of}
use Rattle.lay_length.proofs.SmallExtents.{IsLowTree}
use Rattle.page_limits.proofs.HeightsFonts.{valign_of, own-cost, box-cost}
use Rattle.page_limits.proofs.RaisesBoxes.{size_cost, own_cost, middle_by, inline-raise, other-raise}
use Rattle.page_limits.proofs.RaisesSums.{first_sum, first_sum-next, first_sum-rises, first_sum-all}

-- a box of the page is in another
pub parent-at : (tree : BoxTree) (k q : ℕ) → IsOnPage tree.boxes k → parent_of tree.boxes k ≡ Some q → (q < k) × IsOnPage tree.boxes q
parent-at tree k q p e = by (parent-of tree k p)
  where
    same_some : (a b : ℕ) → Some a ≡ Some b → a ≡ b
    same_some a b e = cc

    by : ((parent_of tree.boxes k ≡ None) ⊎ HasParent tree.boxes k) → (q < k) × IsOnPage tree.boxes q
    by (inl none) = absurd (cc)
    by (inr h) = let same : h.parent ≡ q = same_some h.parent q (sym h.is ∙ e) in (subst (λ (x : ℕ). x < k) same h.before, subst (IsOnPage tree.boxes) same h.page)

module _ (tree : BoxTree) (low : IsLowTree tree) (w : World) (small : w.s ≤ 256) where
  abbrev size_of : ℕ → ℕ
  size_of k = size_cost tree low w small (node_of tree k)

  abbrev cost_of : ℕ → ℕ
  cost_of k = own_cost tree low w small k

  -- those of a box around, where it is an inline box, and the size of its font
  abbrev pub around_cost : (ℕ → ℕ) → ℕ → ℕ
  around_cost above q = if is_inline (kind_of tree q) then above q else 0

  abbrev parent_cost : (ℕ → ℕ) → Option ℕ → ℕ
  parent_cost above None = 0
  parent_cost above (Some q) = size_of q + around_cost above q

  unfoldable pub raises_to : ℕ → ℕ → ℕ
  raises_to zero k = 0
  raises_to (suc n) k = cost_of k + parent_cost (raises_to n) (parent_of tree.boxes k)

  abbrev pub raises : ℕ → ℕ
  raises k = raises_to (suc k) k

  around-same : (f g : ℕ → ℕ) (q : ℕ) → f q ≡ g q → around_cost f q ≡ around_cost g q
  around-same f g q e = ap (λ (n : ℕ). if is_inline (kind_of tree q) then n else 0) e

  raises-enough : (n m k : ℕ) → IsOnPage tree.boxes k → k < n → k < m → raises_to n k ≡ raises_to m k
  unfolding raises_to
  raises-enough zero m k p l h = absurd (omega arith)
  raises-enough (suc n) zero k p l h = absurd (omega arith)
  raises-enough (suc n) (suc m) k p l h =
      ap (λ (c : ℕ). cost_of k + c) (by (parent_of tree.boxes k) refl (λ q on before. raises-enough n m q on (omega (arith, before, l)) (omega (arith, before, h))))
    where
      by : (o : Option ℕ) → parent_of tree.boxes k ≡ o → ((q : ℕ) → IsOnPage tree.boxes q → q < k → raises_to n q ≡ raises_to m q) → parent_cost (raises_to n) o ≡ parent_cost (raises_to m) o
      by None e again = refl
      by (Some q) e again = let a = parent-at tree k q p e in ap (λ (c : ℕ). size_of q + c) (around-same (raises_to n) (raises_to m) q (again q a.1 a.0))

  raises-by-parent : (k q : ℕ) → IsOnPage tree.boxes k → parent_of tree.boxes k ≡ Some q → raises k ≡ cost_of k + (size_of q + around_cost raises q)
  unfolding raises_to
  raises-by-parent k q p e =
      let a = parent-at tree k q p e in
      ap (λ (o : Option ℕ). cost_of k + parent_cost (raises_to k) o) e
      ∙ ap (λ (c : ℕ). cost_of k + (size_of q + c)) (around-same (raises_to k) raises q (raises-enough k (suc q) q a.1 a.0 (omega arith)))

  -- ---- each raise

  pub inline-raised : (container : ℕ) (inner : List (Option (Inner ℤ))) (cb : Band ℤ) (k parent : ℕ) → IsOnPage tree.boxes k → parent_of tree.boxes k ≡ Some parent
      → let c : InlineContext = record { tree = tree; world = w; container = container; inner = inner; cb = cb } in
      unsigned_abs (raise c (node_of tree k) (node_of tree parent) (inline_extent tree w (node_of tree k)) (valign_of tree low w small k)) + around_cost raises parent ≤ raises k
  inline-raised container inner cb k parent p e =
      let own = inline-raise tree low w small container inner cb (node_of tree k) (node_of tree parent) (valign_of tree low w small k) in
      let all = raises-by-parent k parent p e in
      omega (arith, own, all)

  pub other-raised : (container : ℕ) (inner : List (Option (Inner ℤ))) (cb : Band ℤ) (k parent : ℕ) (e : LineExtent) → IsOnPage tree.boxes k → parent_of tree.boxes k ≡ Some parent
      → let c : InlineContext = record { tree = tree; world = w; container = container; inner = inner; cb = cb } in
      unsigned_abs (raise c (node_of tree k) (node_of tree parent) e (valign_of tree low w small k) -ℤ middle_by tree low w small e (valign_of tree low w small k)) + around_cost raises parent ≤ raises k
  other-raised container inner cb k parent e p f =
      let own = other-raise tree low w small container inner cb (node_of tree k) (node_of tree parent) e (valign_of tree low w small k) in
      let all = raises-by-parent k parent p f in
      omega (arith, own, all)

  -- ---- all of them together

  abbrev extent_of : BoxNode → ℕ
  extent_of b = own_extent tree.styles tree.parents tree.fonts b + text_extent tree.styles tree.parents tree.fonts b

  abbrev extents_to : ℕ → ℕ
  extents_to k = first_sum extent_of k tree.boxes

  costs-low : (k : ℕ) → k < length tree.boxes → cost_of k + size_of k ≤ 2 ^ 40
  costs-low k l =
      let x = slice_some tree.boxes k l in
      let node : node_of tree k ≡ (x.0).node = ap (λ (o : Option BoxNode). option_map_or (λ (b : BoxNode). b.node) o 0) x.1 in
      let cost = box-cost tree low w small k x.0 x.1 in
      rw node (omega (arith, cost))

  inline-element : (k : ℕ) (x : BoxNode) → slice_get tree.boxes k ≡ Some x → is_inline (kind_of tree k) ≡ true → is_of_element x.kind ≡ true
  inline-element k x place e = by x.kind (sym (ap is_inline (ap (λ (o : Option BoxNode). option_map_or (λ (b : BoxNode). b.kind) o of_kind.Block) place)) ∙ e)
    where
      by : (kind : Kind) → is_inline kind ≡ true → is_of_element kind ≡ true
      by of_kind.Inline e = refl
      by of_kind.Chars e = absurd (cc)
      by of_kind.Anon e = absurd (cc)
      by of_kind.Line e = absurd (cc)
      by _ e = refl

  inline-costs : (k : ℕ) → k < length tree.boxes → is_inline (kind_of tree k) ≡ true → extents_to k + (cost_of k + size_of k) ≤ extents_to (suc k)
  inline-costs k l e =
      let x = slice_some tree.boxes k l in
      let node : node_of tree k ≡ (x.0).node = ap (λ (o : Option BoxNode). option_map_or (λ (b : BoxNode). b.node) o 0) x.1 in
      let cost = own-cost tree low w small k x.0 x.1 (inline-element k x.0 x.1 e) in
      let next = first_sum-next extent_of k tree.boxes x.0 x.1 in
      rw node (omega (arith, cost, next))

  inline-together : (n q : ℕ) → IsOnPage tree.boxes q → is_inline (kind_of tree q) ≡ true → raises_to n q + size_of q ≤ 2 ^ 40 + extents_to (suc q)
  unfolding raises_to
  inline-together zero q p t = let l = within-page tree q p in let own = inline-costs q l t in omega (arith, own)
  inline-together (suc n) q p t =
      let l = within-page tree q p in
      let own = inline-costs q l t in
      let rest = by (parent_of tree.boxes q) refl (λ r on inline. inline-together n r on inline) in
      omega (arith, own, rest)
    where
      by_kind : (r : ℕ) (b : Bool) → is_inline (kind_of tree r) ≡ b → r < q → IsOnPage tree.boxes r → (b ≡ true → raises_to n r + size_of r ≤ 2 ^ 40 + extents_to (suc r)) → size_of r + (if b then raises_to n r else 0) ≤ 2 ^ 40 + extents_to q
      by_kind r true e l on again = let all = again refl in let up = first_sum-rises extent_of (suc r) q tree.boxes (omega (arith, l)) in omega (arith, all, up)
      by_kind r false e l on again = let cost = costs-low r (within-page tree r on) in omega (arith, cost)

      by : (o : Option ℕ) → parent_of tree.boxes q ≡ o → ((r : ℕ) → IsOnPage tree.boxes r → is_inline (kind_of tree r) ≡ true → raises_to n r + size_of r ≤ 2 ^ 40 + extents_to (suc r)) → parent_cost (raises_to n) o ≤ 2 ^ 40 + extents_to q
      by None e again = omega arith
      by (Some r) e again = let a = parent-at tree q r p e in by_kind r (is_inline (kind_of tree r)) refl a.0 a.1 (again r a.1)

  pub raises-low : (k : ℕ) → IsOnPage tree.boxes k → raises k ≤ 2 ^ 42
  unfolding raises_to
  raises-low k p = let own = costs-low k (within-page tree k p) in let rest = by (parent_of tree.boxes k) refl in omega (arith, own, rest)
    where
      by_kind : (r : ℕ) (b : Bool) → is_inline (kind_of tree r) ≡ b → IsOnPage tree.boxes r → size_of r + (if b then raises_to k r else 0) ≤ 2 ^ 41
      by_kind r true e on =
          let all = inline-together k r on e in
          let sum_is = first_sum-all extent_of (suc r) tree.boxes in
          let total = low.total in
          omega (arith, all, sum_is, total)
      by_kind r false e on = let cost = costs-low r (within-page tree r on) in omega (arith, cost)

      by : (o : Option ℕ) → parent_of tree.boxes k ≡ o → parent_cost (raises_to k) o ≤ 2 ^ 41
      by None e = omega arith
      by (Some r) e = let a = parent-at tree k r p e in by_kind r (is_inline (kind_of tree r)) refl a.1
