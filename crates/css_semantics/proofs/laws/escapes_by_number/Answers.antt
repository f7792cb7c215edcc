use Rattle.std.proofs.Common.{◌≡◌, ℕ, ◌<◌, ◌≤◌, ◌⊎◌, inl, inr, refl, arith}
use Rattle.std.proofs.lemmas.Bool.Decides.{nat_tests}
use Rattle.css_semantics.specs.TokensUnescaped.{scalar}
use Rattle.css_semantics.proofs.laws.escapes_by_number.Goals as goal

kept : (n : ℕ) → 0 < n → (n < 0xD800) ⊎ ((0xDFFF < n) × (n ≤ 0x10FFFF)) → scalar n ≡ n
kept n l (inl below) = grind (arith, nat_tests)
kept n l (inr above) = let low = above.0 in let high = above.1 in grind (arith, nat_tests)

no_scalar : (n : ℕ) → (n ≡ 0) ⊎ (((0xD800 ≤ n) × (n ≤ 0xDFFF)) ⊎ (0x10FFFF < n)) → scalar n ≡ 0xFFFD
no_scalar n (inl none) = rw none refl
no_scalar n (inr (inl within)) = let low = within.0 in let high = within.1 in grind (arith, nat_tests)
no_scalar n (inr (inr past)) = grind (arith, nat_tests)

pub returns-clause-small : goal.returns-clause-small
returns-clause-small c = refl

pub returns-clause-large : goal.returns-clause-large
returns-clause-large c = refl

pub returns-clause-itself : goal.returns-clause-itself
returns-clause-itself c = kept

pub returns-clause-replaced : goal.returns-clause-replaced
returns-clause-replaced c = no_scalar
