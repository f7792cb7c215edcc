-- The parts of a formula that two others make up: what is tame of them, and its truth by theirs.
use Rattle.std.proofs.Common.{◌≡◌, ℕ, ℤ, Bool, true, not, ◌&&◌, ◌||◌, List, ap, sym, ◌∙◌, subst, rules}
use Rattle.std.proofs.lemmas.Bool.{and_parts}
use Rattle.viz_base.specs.declared.formulas.Formula.{Formula}
use Rattle.viz_base.specs.declared.formulas.Formula.TheVariants.{Implies, Or, And}
use Rattle.viz_base.specs.declared.formulas.Formula.TheViews.{the_lemmas}
use Rattle.viz_base.specs.declared.formulas.Formula.TheFolds.{fold-roll-Formula, fold_out-Formula}
use Rattle.viz_base.specs.declared.renderings.Rendering.{Rendering}
use Rattle.viz_base.specs.Formulas.{has_small_terms}
use Rattle.viz_calc.specs.World.{Reading}
use Rattle.logic_semantics.specs.Scenes.{Scene}
use Rattle.logic_semantics.specs.Truth.{truth_in}
use Rattle.logic_semantics.proofs.Meanings.{truth-Implies, truth-Or, truth-And}
use Rattle.vis_truth.specs.Scenes.{IsTame}

abbrev BothSmall : Formula → Formula → Type 0
BothSmall a b = (has_small_terms a ≡ true) × (has_small_terms b ≡ true)

pub small-Implies : (a b : Formula) → has_small_terms (Implies a b) ≡ true → BothSmall a b
small-Implies a b h =
    let is : has_small_terms (Implies a b) ≡ (has_small_terms a && has_small_terms b) = search (rules, the_lemmas, fold-roll-Formula, fold_out-Formula) in
    and_parts (has_small_terms a) (has_small_terms b) (sym is ∙ h)

pub small-Or : (a b : Formula) → has_small_terms (Or a b) ≡ true → BothSmall a b
small-Or a b h =
    let is : has_small_terms (Or a b) ≡ (has_small_terms a && has_small_terms b) = search (rules, the_lemmas, fold-roll-Formula, fold_out-Formula) in
    and_parts (has_small_terms a) (has_small_terms b) (sym is ∙ h)

pub small-And : (a b : Formula) → has_small_terms (And a b) ≡ true → BothSmall a b
small-And a b h =
    let is : has_small_terms (And a b) ≡ (has_small_terms a && has_small_terms b) = search (rules, the_lemmas, fold-roll-Formula, fold_out-Formula) in
    and_parts (has_small_terms a) (has_small_terms b) (sym is ∙ h)

-- a part of what is tame, as the code has it, is tame
pub tame-part : {N : Type 0} (is_open : Reading → Bool) (at : N → Reading → ℤ) (r : Rendering N) (f whole part lent : Formula)
    → f ≡ whole → (has_small_terms whole ≡ true → has_small_terms part ≡ true) → lent ≡ part → IsTame is_open at r f → IsTame is_open at r lent
tame-part is_open at r f whole part lent is small by t = record {
  bounded = t.bounded;
  small = subst (λ p. has_small_terms p ≡ true) (sym by) (small (subst (λ p. has_small_terms p ≡ true) is t.small));
}

pub whole-Implies : (scene : Scene) (names : List ℕ) (f a b : Formula) → f ≡ Implies a b → (not (truth_in scene a names) || truth_in scene b names) ≡ truth_in scene f names
whole-Implies scene names f a b is = sym (truth-Implies scene a b names) ∙ ap (λ g. truth_in scene g names) (sym is)

pub whole-Or : (scene : Scene) (names : List ℕ) (f a b : Formula) → f ≡ Or a b → (truth_in scene a names || truth_in scene b names) ≡ truth_in scene f names
whole-Or scene names f a b is = sym (truth-Or scene a b names) ∙ ap (λ g. truth_in scene g names) (sym is)

pub whole-And : (scene : Scene) (names : List ℕ) (f a b : Formula) → f ≡ And a b → (truth_in scene a names && truth_in scene b names) ≡ truth_in scene f names
whole-And scene names f a b is = sym (truth-And scene a b names) ∙ ap (λ g. truth_in scene g names) (sym is)
