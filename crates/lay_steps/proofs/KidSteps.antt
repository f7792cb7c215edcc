-- One more of several boxes, in the walk and in the table.
use Rattle.std.proofs.Common.{◌≡◌, ℕ, suc, ◌+◌, ◌<◌, ℤ, List, length, drop, slice_index_or, Option, ap, subst, ◌∙◌, arith, drop-cons}
use Rattle.std.specs.List.{AllByRecursion}
use Rattle.viz_base.specs.declared.layouts.Band.{Band}
use Rattle.viz_base.specs.declared.trees.BoxTree.{BoxTree}
use Rattle.viz_base.specs.declared.worlds.World.{World}
use Rattle.layout_semantics.specs.Flow.{Independent}
use Rattle.lay_steps.specs.Flow.{Context, followed, child_of, children_of}
use Rattle.lay_steps.specs.Tables.{with_box, with_boxes}

pub others-hold : (P : ℕ → Type 0) (ks : List ℕ) (i : ℕ) → i < length ks → AllByRecursion P (drop i ks) → AllByRecursion P (drop (i + 1) ks)
others-hold P ks i l a =
    let next : suc i ≡ i + 1 = omega arith in
    subst (λ (n : ℕ). AllByRecursion P (drop n ks)) next (subst (λ (x : List ℕ). AllByRecursion P x) (drop-cons ks i 0 l) a).1

module _ (tree : BoxTree) (w : World) where
  pub kids-next : (apart : ℕ → Independent) (cb : Band ℤ) (top : ℤ) (s : Context) (ks : List ℕ) (i : ℕ) → i < length ks → let k = slice_index_or ks i 0 in
      children_of tree w apart cb top s (drop i ks) ≡ followed (child_of tree w apart cb top s k) (children_of tree w apart cb top (child_of tree w apart cb top s k).context (drop (i + 1) ks))
  kids-next apart cb top s ks i l =
      let next : suc i ≡ i + 1 = omega arith in
      let one = child_of tree w apart cb top s (slice_index_or ks i 0) in
      ap (λ (x : List ℕ). children_of tree w apart cb top s x) (drop-cons ks i 0 l)
      ∙ ap (λ (n : ℕ). followed one (children_of tree w apart cb top one.context (drop n ks))) next

  pub boxes-next : (table : List (Option Independent)) (ks : List ℕ) (i : ℕ) → i < length ks
      → with_boxes tree w table (drop i ks) ≡ with_boxes tree w (with_box tree w table (slice_index_or ks i 0)) (drop (i + 1) ks)
  boxes-next table ks i l =
      let next : suc i ≡ i + 1 = omega arith in
      ap (λ (x : List ℕ). with_boxes tree w table x) (drop-cons ks i 0 l)
      ∙ ap (λ (n : ℕ). with_boxes tree w (with_box tree w table (slice_index_or ks i 0)) (drop n ks)) next
