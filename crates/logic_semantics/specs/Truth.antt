use Rattle.std.specs.Prelude.{ℕ, ◌==◌, Bool, false, not, ◌&&◌, ◌||◌, List, [], ◌∷◌, slice_get, Option, Some}
use Rattle.std.specs.List.{list_all, list_any}
use Rattle.viz_base.specs.declared.formulas.Formula.{Formula}
use Rattle.viz_base.specs.declared.formulas.Formula.TheOpen.{Formula-F}
use Rattle.viz_base.specs.declared.formulas.Formula.TheFolds.{fold-Formula}
use Rattle.logic_semantics.specs.Scenes.{Scene, members, named}
use Rattle.logic_semantics.specs.Terms.{term_value, compares, boxes_overlap}

-- what a formula says where the names stand for these places, listed from the innermost on
abbrev pub Meaning : Type 0
Meaning = List ℕ → Bool

-- two names stand for one place; a name that stands for none is the same as no other
abbrev pub are_same : Option ℕ → Option ℕ → Bool
are_same (Some a) (Some b) = a == b
are_same _ _ = false

-- one level of a formula, with the meanings of its parts in their places
abbrev pub truth_step : Scene → Formula-F Meaning → Meaning
truth_step scene (Formula-F.Const value) names = value
truth_step scene (Formula-F.Forall set body) names = list_all (λ m. body (m ∷ names)) (members set scene.boxes)
truth_step scene (Formula-F.Exists set body) names = list_any (λ m. body (m ∷ names)) (members set scene.boxes)
truth_step scene (Formula-F.Implies a b) names = not (a names) || b names
truth_step scene (Formula-F.Or a b) names = a names || b names
truth_step scene (Formula-F.And a b) names = a names && b names
truth_step scene (Formula-F.Not a) names = not (a names)
truth_step scene (Formula-F.Cmp left sign right) names =
    compares sign (term_value scene names left) (term_value scene names right)
truth_step scene (Formula-F.Overlap a b) names = boxes_overlap (named scene.boxes names a) (named scene.boxes names b)
truth_step scene (Formula-F.Same a b) names = are_same (slice_get names a) (slice_get names b)

-- the truth of a formula where the names around it stand for these places
abbrev pub truth_in : Scene → Formula → Meaning
truth_in scene = fold-Formula Meaning (truth_step scene)

-- the truth of a whole formula
abbrev pub truth : Scene → Formula → Bool
truth scene f = truth_in scene f []
