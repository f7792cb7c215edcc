-- Boxes behind a box.
use Rattle.std.proofs.Common.{◌≡◌, ℕ, zero, suc, ◌<◌, List, [], ◌∷◌, length, slice_index_or, refl, sym, subst, arith, true, false}
use Rattle.std.specs.List.{AllByRecursion}
use Rattle.viz_base.specs.declared.trees.BoxTree.{BoxTree}
use Rattle.layout_semantics.specs.Order.{kids_of}
use Rattle.layout_semantics.specs.FlowBoxes.{flow_children}
use Rattle.layout_semantics.specs.InlineContent.{content, float_boxes, holds_inline}
use Rattle.layout_laws.proofs.Levels.{IsFrom}
use Rattle.layout_laws.proofs.LeadLevels.{children-from}

child-in : (tree : BoxTree) (b : ℕ) (ks : List ℕ) (i : ℕ) → AllByRecursion (IsFrom tree.boxes (suc b)) ks → i < length ks → (b < slice_index_or ks i 0) × (slice_index_or ks i 0 < length tree.boxes)
child-in tree b [] i a l = absurd (omega arith)
child-in tree b (k ∷ ks) zero a l = let from = a.0.from in (omega arith, a.0.within)
child-in tree b (k ∷ ks) (suc i) a l = child-in tree b ks i a.1 (omega arith)

pub child-at : (tree : BoxTree) (b i : ℕ) (ks : List ℕ) → ks ≡ flow_children tree b → i < length ks → (b < slice_index_or ks i 0) × (slice_index_or ks i 0 < length tree.boxes)
child-at tree b i ks e l = child-in tree b ks i (subst (AllByRecursion (IsFrom tree.boxes (suc b))) (sym e) (children-from tree b)) l

-- what is in the flow of a box, by whether it holds inline content
pub flow-kids : (tree : BoxTree) (b : ℕ) → holds_inline tree b ≡ false → flow_children tree b ≡ kids_of tree.boxes b
flow-kids tree b e = rw e refl

pub flow-floats : (tree : BoxTree) (b : ℕ) → holds_inline tree b ≡ true → flow_children tree b ≡ float_boxes (content tree b)
flow-floats tree b e = rw e refl
