-- The box that percentages of heights are of, one level further up.
use Rattle.std.proofs.Common.{◌≡◌, ℕ, suc, Bool, true, false, Option, Some, None, ◌∙◌, ap}
use Rattle.std.specs.Prelude.{option_and_then}
use Rattle.viz_base.specs.declared.trees.BoxTree.{BoxTree}
use Rattle.layout_semantics.specs.Blocks.{kind_of, parent_of}
use Rattle.layout_semantics.specs.DefiniteHeights.{is_passed_over, container_to}

pub container-none : (levels : ℕ) (tree : BoxTree) (at : ℕ) → levels ≡ 0 → container_to levels tree at ≡ None
unfolding container_to
container-none levels tree at e = ap (λ k. container_to k tree at) e

abbrev from_parent : ℕ → BoxTree → ℕ → Option ℕ
from_parent n tree parent = elim (is_passed_over (kind_of tree parent)) [ true ↦ container_to n tree parent | false ↦ Some parent ]

pub container-step : (levels n : ℕ) (tree : BoxTree) (at : ℕ) → levels ≡ suc n
    → container_to levels tree at ≡ option_and_then (from_parent n tree) (parent_of tree.boxes at)
unfolding container_to
container-step levels n tree at e = ap (λ k. container_to k tree at) e

-- by the parent, where there is none, or one that is passed over or not
pub container-root : (levels n : ℕ) (tree : BoxTree) (at : ℕ) → levels ≡ suc n → parent_of tree.boxes at ≡ None → container_to levels tree at ≡ None
container-root levels n tree at e p = container-step levels n tree at e ∙ ap (option_and_then (from_parent n tree)) p

pub container-past : (levels n : ℕ) (tree : BoxTree) (at parent : ℕ) → levels ≡ suc n → parent_of tree.boxes at ≡ Some parent → is_passed_over (kind_of tree parent) ≡ true
    → container_to levels tree at ≡ container_to n tree parent
container-past levels n tree at parent e p k =
    container-step levels n tree at e ∙ ap (option_and_then (from_parent n tree)) p ∙ ap (λ (b : Bool). elim b [ true ↦ container_to n tree parent | false ↦ Some parent ]) k

pub container-here : (levels n : ℕ) (tree : BoxTree) (at parent : ℕ) → levels ≡ suc n → parent_of tree.boxes at ≡ Some parent → is_passed_over (kind_of tree parent) ≡ false
    → container_to levels tree at ≡ Some parent
container-here levels n tree at parent e p k =
    container-step levels n tree at e ∙ ap (option_and_then (from_parent n tree)) p ∙ ap (λ (b : Bool). elim b [ true ↦ container_to n tree parent | false ↦ Some parent ]) k
