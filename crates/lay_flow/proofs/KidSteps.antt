-- What is asked of the boxes that are left, after one of several.
use Rattle.std.proofs.Common.{ℕ, suc, ◌+◌, ◌<◌, List, length, drop, slice_index_or, Option, subst, arith, drop-cons, ◌≡◌}
use Rattle.viz_base.specs.declared.trees.BoxTree.{BoxTree}
use Rattle.viz_base.specs.declared.worlds.World.{World}
use Rattle.layout_semantics.specs.Flow.{Independent}
use Rattle.lay_steps.specs.Tables.{with_box}
use Rattle.lay_flow.specs.IndependentFits.{BoxAddedFits, BoxesAddedFit}

pub added-next : (tree : BoxTree) (w : World) (table : List (Option Independent)) (ks : List ℕ) (i : ℕ) → i < length ks → BoxesAddedFit tree w table (drop i ks)
    → BoxAddedFits tree w table (slice_index_or ks i 0) × BoxesAddedFit tree w (with_box tree w table (slice_index_or ks i 0)) (drop (i + 1) ks)
added-next tree w table ks i l f =
    let next : suc i ≡ i + 1 = omega arith in
    let both = subst (λ (x : List ℕ). BoxesAddedFit tree w table x) (drop-cons ks i 0 l) f in
    (both.0, subst (λ (n : ℕ). BoxesAddedFit tree w (with_box tree w table (slice_index_or ks i 0)) (drop n ks)) next both.1)
