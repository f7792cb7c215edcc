use Rattle.std.proofs.Common.{Bool, true, false, not, ◌&&◌, ◌||◌, ◌↔◌, IsTrue, refl, inl, inr}
use Rattle.std.specs.Prelude.{◌⊎◌}
use Rattle.logic_semantics.specs.Truth.{truth_in}
use Rattle.logic_semantics.proofs.Meanings.{truth-Not, truth-And, truth-Or, truth-Implies}
use Rattle.logic_semantics.proofs.truth_of_connectives.Goals as goal

not_is : (a : Bool) → IsTrue (not a) ↔ (IsTrue a → ⊥)
not_is true = (λ h. absurd (cc), λ h. absurd (h refl))
not_is false = (λ h yes. absurd (cc), λ h. refl)

and_is : (a b : Bool) → IsTrue (a && b) ↔ (IsTrue a × IsTrue b)
and_is true b = (λ h. (refl, h), λ h. h.1)
and_is false b = (λ h. absurd (cc), λ h. h.0)

or_is : (a b : Bool) → IsTrue (a || b) ↔ (IsTrue a ⊎ IsTrue b)
or_is true b = (λ h. inl refl, λ h. refl)
or_is false b = (λ h. inr h, λ h. by_cases h)
  where
    by_cases : IsTrue false ⊎ IsTrue b → IsTrue b
    by_cases (inl h) = absurd (cc)
    by_cases (inr h) = h

implies_is : (a b : Bool) → IsTrue (not a || b) ↔ (IsTrue a → IsTrue b)
implies_is true b = (λ h yes. h, λ h. h refl)
implies_is false b = (λ h yes. absurd (cc), λ h. refl)

pub returns-clause-not_is_not : goal.returns-clause-not_is_not
returns-clause-not_is_not c = λ scene a names. rw (truth-Not scene a names) (not_is (truth_in scene a names))

pub returns-clause-and_is_both : goal.returns-clause-and_is_both
returns-clause-and_is_both c = λ scene a b names. rw (truth-And scene a b names) (and_is (truth_in scene a names) (truth_in scene b names))

pub returns-clause-or_is_either : goal.returns-clause-or_is_either
returns-clause-or_is_either c = λ scene a b names. rw (truth-Or scene a b names) (or_is (truth_in scene a names) (truth_in scene b names))

pub returns-clause-implies_is_if : goal.returns-clause-implies_is_if
returns-clause-implies_is_if c = λ scene a b names. rw (truth-Implies scene a b names) (implies_is (truth_in scene a names) (truth_in scene b names))
