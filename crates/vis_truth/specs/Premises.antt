-- What of a formula is asked of boxes.
use Rattle.std.specs.Prelude.{◌≡◌, ℤ, Bool, true, false, ◌&&◌, IsTrue, Option}
use Rattle.std.specs.Option.{option_map_or}
use Rattle.viz_base.specs.declared.worlds.World.{World}
use Rattle.viz_base.specs.declared.formulas.Formula.{Formula}
use Rattle.viz_base.specs.declared.formulas.Formula.TheOpen.{Formula-F}
use Rattle.viz_base.specs.declared.formulas.Formula.TheFolds.{fold-Formula}
use Rattle.viz_base.specs.declared.formulas.Formula.TheVariants.{Implies}
use Rattle.viz_base.specs.declared.renderings.Rendering.{Rendering}
use Rattle.viz_base.specs.Formulas.{has_small_terms}
use Rattle.viz_calc.specs.World.{Reading}
use Rattle.logic_semantics.specs.Scenes.{scene_of}
use Rattle.logic_semantics.specs.Truth.{truth}
use Rattle.vis_truth.specs.Scenes.{IsNarrow}

-- one level of a formula, by whether its parts have a quantifier
abbrev pub bare_step : Formula-F Bool → Bool
bare_step (Formula-F.Const value) = true
bare_step (Formula-F.Forall set body) = false
bare_step (Formula-F.Exists set body) = false
bare_step (Formula-F.Implies a b) = a && b
bare_step (Formula-F.Or a b) = a && b
bare_step (Formula-F.And a b) = a && b
bare_step (Formula-F.Not a) = a
bare_step (Formula-F.Cmp left sign right) = true
bare_step (Formula-F.Overlap a b) = true
bare_step (Formula-F.Same a b) = true

-- the formula has no quantifier
abbrev pub is_bare : Formula → Bool
is_bare = fold-Formula Bool bare_step

-- whatever boxes a page has at a world, the formula is as true of them as what is left of it, and true where nothing is
abbrev pub IsLeftAt : World → Formula → Option Formula → Type 0
IsLeftAt world f left = (r : Rendering ℤ)
    → truth (scene_of r world) f ≡ option_map_or (truth (scene_of r world)) left true

-- a formula behind a premise without quantifiers
pub record IsPremised (f : Formula) : Type 0 where
  pub premise : Formula
  pub rest : Formula
  pub is : f ≡ Implies premise rest
  pub bare : is_bare premise ≡ true

-- at each open reading the world's numbers are bounded, and so are the formula's terms
pub record IsTameBare (is_open : Reading → Bool) (f : Formula) : Type 0 where
  pub narrow : (e : Reading) → IsTrue (is_open e) → IsNarrow e.world
  pub small : IsTrue (has_small_terms f)
