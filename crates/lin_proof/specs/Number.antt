-- Whole numbers that `i128` holds.
use Rattle.std.specs.Prelude.{ℤ, pos, negsuc, ◌^◌, Bool, nat_lt}

-- whether a whole number is one of `i128`: from -2^127 to 2^127 - 1
abbrev pub in_i128 : ℤ → Bool
in_i128 (pos n) = nat_lt n (2 ^ 127)
in_i128 (negsuc n) = nat_lt n (2 ^ 127)
