use Rattle.std.proofs.Common.{◌≡◌, ℕ, Bool, not, ◌&&◌, ◌||◌, List, ◌∷◌, slice_get, rules}
use Rattle.std.specs.List.{list_all, list_any}
use Rattle.viz_base.specs.declared.formulas.Set.{Set}
use Rattle.viz_base.specs.declared.formulas.Sign.{Sign}
use Rattle.viz_base.specs.declared.formulas.Term.{Term}
use Rattle.viz_base.specs.declared.formulas.Formula.{Formula}
use Rattle.viz_base.specs.declared.formulas.Formula.TheVariants.{Const, Forall, Exists, Implies, Or, And, Not, Cmp, Overlap, Same}
use Rattle.viz_base.specs.declared.formulas.Formula.TheViews.{the_lemmas}
use Rattle.viz_base.specs.declared.formulas.Formula.TheFolds.{fold-roll-Formula, fold_out-Formula}
use Rattle.logic_semantics.specs.Scenes.{Scene, members, named}
use Rattle.logic_semantics.specs.Terms.{term_value, compares, boxes_overlap}
use Rattle.logic_semantics.specs.Truth.{truth_in, are_same}

-- ---- what each form of formula means

pub truth-Const : (scene : Scene) (value : Bool) (names : List ℕ) → truth_in scene (Const value) names ≡ value
truth-Const scene value names = search (rules, the_lemmas, fold-roll-Formula, fold_out-Formula)

pub truth-Forall : (scene : Scene) (set : Set) (body : Formula) (names : List ℕ) → truth_in scene (Forall set body) names ≡ list_all (λ m. truth_in scene body (m ∷ names)) (members set scene.boxes)
truth-Forall scene set body names = search (rules, the_lemmas, fold-roll-Formula, fold_out-Formula)

pub truth-Exists : (scene : Scene) (set : Set) (body : Formula) (names : List ℕ) → truth_in scene (Exists set body) names ≡ list_any (λ m. truth_in scene body (m ∷ names)) (members set scene.boxes)
truth-Exists scene set body names = search (rules, the_lemmas, fold-roll-Formula, fold_out-Formula)

pub truth-Implies : (scene : Scene) (a b : Formula) (names : List ℕ) → truth_in scene (Implies a b) names ≡ (not (truth_in scene a names) || truth_in scene b names)
truth-Implies scene a b names = search (rules, the_lemmas, fold-roll-Formula, fold_out-Formula)

pub truth-Or : (scene : Scene) (a b : Formula) (names : List ℕ) → truth_in scene (Or a b) names ≡ (truth_in scene a names || truth_in scene b names)
truth-Or scene a b names = search (rules, the_lemmas, fold-roll-Formula, fold_out-Formula)

pub truth-And : (scene : Scene) (a b : Formula) (names : List ℕ) → truth_in scene (And a b) names ≡ (truth_in scene a names && truth_in scene b names)
truth-And scene a b names = search (rules, the_lemmas, fold-roll-Formula, fold_out-Formula)

pub truth-Not : (scene : Scene) (a : Formula) (names : List ℕ) → truth_in scene (Not a) names ≡ not (truth_in scene a names)
truth-Not scene a names = search (rules, the_lemmas, fold-roll-Formula, fold_out-Formula)

pub truth-Cmp : (scene : Scene) (left right : Term) (sign : Sign) (names : List ℕ) → truth_in scene (Cmp left sign right) names ≡ compares sign (term_value scene names left) (term_value scene names right)
truth-Cmp scene left right sign names = search (rules, the_lemmas, fold-roll-Formula, fold_out-Formula)

pub truth-Overlap : (scene : Scene) (a b : ℕ) (names : List ℕ) → truth_in scene (Overlap a b) names ≡ boxes_overlap (named scene.boxes names a) (named scene.boxes names b)
truth-Overlap scene a b names = search (rules, the_lemmas, fold-roll-Formula, fold_out-Formula)

pub truth-Same : (scene : Scene) (a b : ℕ) (names : List ℕ) → truth_in scene (Same a b) names ≡ are_same (slice_get names a) (slice_get names b)
truth-Same scene a b names = search (rules, the_lemmas, fold-roll-Formula, fold_out-Formula)
