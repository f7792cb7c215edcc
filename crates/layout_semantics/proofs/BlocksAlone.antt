-- Pages without inline-level boxes: no box has lines, and all boxes in a box are in its flow.
use Rattle.std.proofs.Common.{◌≡◌, ℕ, zero, suc, Bool, false, ◌&&◌, ◌||◌, IsTrue, List, [], ◌∷◌, refl, ap, ◌∙◌, subst, slice_get, Some}
use Rattle.std.specs.List.{list_all, list_any}
use Rattle.viz_base.specs.declared.trees.BoxTree.{BoxTree}
use Rattle.layout_semantics.specs.Order.{kids_of}
use Rattle.layout_semantics.specs.InlineContent.{is_inline_level_at, holds_inline, has_line, makes_line, content}
use Rattle.layout_semantics.specs.FlowBoxes.{flow_children}
use Rattle.layout_semantics.proofs.Forest.{both}

-- one of a list all of which pass
pub passes : {A : Type 0} (test : A → Bool) (xs : List A) (i : ℕ) (x : A) → IsTrue (list_all test xs) → slice_get xs i ≡ Some x → IsTrue (test x)
passes test [] i x t e = absurd (cc)
passes test (y ∷ ys) zero x t e = subst (λ z. IsTrue (test z)) (some_same y x e) (both (test y) (list_all test ys) t).0
  where
    some_same : {A : Type 0} (y x : A) → Some y ≡ Some x → y ≡ x
    some_same y x e = cc
passes test (y ∷ ys) (suc i) x t e = passes test ys i x (both (test y) (list_all test ys) t).1 e

module _ (tree : BoxTree) (no_inline : (k : ℕ) → is_inline_level_at tree k ≡ false) where
  none_inline : (ks : List ℕ) → list_any (is_inline_level_at tree) ks ≡ false
  none_inline [] = refl
  none_inline (k ∷ ks) = ap (λ c. c || list_any (is_inline_level_at tree) ks) (no_inline k) ∙ none_inline ks

  pub holds_none : (b : ℕ) → holds_inline tree b ≡ false
  unfolding holds_inline
  holds_none b = none_inline (kids_of tree.boxes b)

  pub no_lines : (b : ℕ) → has_line tree b ≡ false
  unfolding has_line
  no_lines b = ap (λ c. c && list_any (makes_line tree) (content tree b)) (holds_none b)

  pub all_flow : (b : ℕ) → flow_children tree b ≡ kids_of tree.boxes b
  all_flow b = rw (holds_none b)
