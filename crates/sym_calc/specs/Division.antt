-- Forms divided by a whole number d above 0, rest and all: a form is d times its quotient plus its remainder.
use Rattle.std.specs.Prelude.{ℤ, [], ◌∷◌}
use Rattle.std.specs.Int.{int_div_euclid, int_rem_euclid}
use Rattle.lin_proof.specs.Form.{Form, Terms, put}

-- the terms with each coefficient changed; those whose coefficient becomes 0 are left out
abbrev pub changed : (ℤ → ℤ) → Terms → Terms
changed g [] = []
changed g (t ∷ ts) = put t.0 (g t.1) (changed g ts)

abbrev pub quotient_terms : ℤ → Terms → Terms
quotient_terms d = changed (λ c. int_div_euclid c d)

abbrev pub remainder_terms : ℤ → Terms → Terms
remainder_terms d = changed (λ c. int_rem_euclid c d)

-- each number of the form divided by d and rounded down
abbrev pub quotient : ℤ → Form → Form
quotient d f = record { k = int_div_euclid f.k d; terms = quotient_terms d f.terms }

-- what is left of each number of the form, from 0 to d less 1
abbrev pub remainder : ℤ → Form → Form
remainder d f = record { k = int_rem_euclid f.k d; terms = remainder_terms d f.terms }
