-- Forms divided by whole numbers.
use Rattle.std.specs.Prelude.{ℤ, pos, Bool, ◌&&◌, map}
use Rattle.std.specs.Ordering.{int_eq}
use Rattle.std.specs.Int.{int_div_euclid, int_rem_euclid}
use Rattle.std.specs.Int.Signed.{lt_z}
use Rattle.std.specs.List.{list_all}
use Rattle.lin_proof.specs.Form.{Form, Terms}

abbrev pub are_multiples : ℤ → Terms → Bool
are_multiples d = list_all (λ t. int_eq (int_rem_euclid t.1 d) (pos 0))

-- whether d is at least 1 and divides each coefficient
abbrev pub divides : ℤ → Form → Bool
divides d f = lt_z (pos 0) d && are_multiples d f.terms

abbrev pub quotients : ℤ → Terms → Terms
quotients d = map (λ t. (t.0, int_div_euclid t.1 d))

-- the form divided by d, which divides its coefficients: the constant is rounded towards minus infinity
abbrev pub cut : ℤ → Form → Form
cut d f = record { k = int_div_euclid f.k d; terms = quotients d f.terms }
