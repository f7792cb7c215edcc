-- Which heights are definite, one container further up.
use Rattle.std.proofs.Common.{◌≡◌, ℕ, suc, true, false, not, Option, ◌∙◌, ap}
use Rattle.std.specs.Option.{option_map_or}
use Rattle.viz_base.specs.declared.trees.BoxTree.{BoxTree}
use Rattle.layout_semantics.specs.DefiniteHeights.{percentage_container, is_definite_to, counts_as_auto, own_height}

pub definite-none : (levels : ℕ) (tree : BoxTree) (at : ℕ) → levels ≡ 0 → is_definite_to levels tree at ≡ false
unfolding is_definite_to
definite-none levels tree at e = ap (λ k. is_definite_to k tree at) e

pub definite-step : (levels n : ℕ) (tree : BoxTree) (at : ℕ) (o : Option ℕ) → levels ≡ suc n → percentage_container tree at ≡ o
    → is_definite_to levels tree at ≡ option_map_or (λ container. not (counts_as_auto (is_definite_to n tree container) (own_height tree container))) o true
unfolding is_definite_to
definite-step levels n tree at o e f =
    ap (λ k. is_definite_to k tree at) e
    ∙ ap (λ p. option_map_or (λ container. not (counts_as_auto (is_definite_to n tree container) (own_height tree container))) p true) f
