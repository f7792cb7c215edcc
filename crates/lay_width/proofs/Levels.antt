-- What goes up or down a number of levels, one level further.
use Rattle.std.proofs.Common.{◌≡◌, ℕ, suc, ◌*◌, pos, Option, Some, None, ◌∙◌, ap, subst}
use Rattle.std.specs.Prelude.{[], ◌∷◌}
use Rattle.std.specs.Option.{option_map_or}
use Rattle.viz_base.specs.declared.trees.BoxTree.{BoxTree}
use Rattle.viz_base.specs.declared.worlds.World.{World}
use Rattle.viz_calc.specs.State.{AllSmall}
use Rattle.layout_semantics.specs.DefiniteHeights.{percentage_container, own_height_around, definite_height_to}
use Rattle.lay_width.specs.Fitting.{DefiniteFits_to, OwnHeightFits}

pub definite-none : (levels : ℕ) (tree : BoxTree) (w : World) (at : ℕ) → levels ≡ 0 → definite_height_to levels tree w at ≡ None
unfolding definite_height_to
definite-none levels tree w at e = ap (λ k. definite_height_to k tree w at) e

pub definite-step : (levels n : ℕ) (tree : BoxTree) (w : World) (at : ℕ) (o : Option ℕ) → levels ≡ suc n → percentage_container tree at ≡ o
    → definite_height_to levels tree w at
    ≡ option_map_or (λ container. own_height_around tree w (definite_height_to n tree w container) container) o (Some (pos (64 * w.h)))
unfolding definite_height_to
definite-step levels n tree w at o e f =
    ap (λ k. definite_height_to k tree w at) e
    ∙ ap (λ p. option_map_or (λ container. own_height_around tree w (definite_height_to n tree w container) container) p (Some (pos (64 * w.h)))) f

abbrev FitsBy : ℕ → BoxTree → World → Option ℕ → Type 0
FitsBy n tree w o = elim o as (λ (o : Option ℕ). Type 0) [
  | None ↦ AllSmall (pos (64 * w.h) ∷ [])
  | Some container ↦ DefiniteFits_to n tree w container × OwnHeightFits tree w (definite_height_to n tree w container) container
]

fits-by : (levels n : ℕ) (tree : BoxTree) (w : World) (at : ℕ) → levels ≡ suc n → DefiniteFits_to levels tree w at → FitsBy n tree w (percentage_container tree at)
unfolding DefiniteFits_to
fits-by levels n tree w at e f = subst (λ k. DefiniteFits_to k tree w at) e f

pub fits-step : (levels n : ℕ) (tree : BoxTree) (w : World) (at container : ℕ) → levels ≡ suc n → percentage_container tree at ≡ Some container
    → DefiniteFits_to levels tree w at
    → DefiniteFits_to n tree w container × OwnHeightFits tree w (definite_height_to n tree w container) container
fits-step levels n tree w at container e p f = subst (FitsBy n tree w) p (fits-by levels n tree w at e f)

pub fits-root : (levels n : ℕ) (tree : BoxTree) (w : World) (at : ℕ) → levels ≡ suc n → percentage_container tree at ≡ None
    → DefiniteFits_to levels tree w at
    → AllSmall (pos (64 * w.h) ∷ [])
fits-root levels n tree w at e p f = subst (FitsBy n tree w) p (fits-by levels n tree w at e f)
