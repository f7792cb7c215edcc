-- Reading whole numbers and one of two bytes behind them.
use Rattle.std.specs.Prelude.{ℕ, zero, suc, ◌+◌, ◌-◌, ◌*◌, ◌^◌, ◌==◌, nat_le, ℤ, pos, negsuc, Bool, false, cond, ◌&&◌, ◌||◌, List, [], ◌∷◌, codes, Option, Some, None, Ok, Err, if◌then◌else◌}
use Rattle.cert_text.specs.steps.Read.{Answer, after_word, begins}
use Rattle.cert_text.specs.steps.Readers.{Reader, give, seq, either}

-- the number n with one digit more, if that is at most `most`
abbrev pub with_digit : ℕ → ℕ → ℕ → Option ℕ
with_digit most n c = if nat_le 48 c && nat_le c 57 && nat_le (10 * n + (c - 48)) most then Some (10 * n + (c - 48))
    else None

-- whether a number from `low` to `high`, or one with digits behind it, fewer than k, is from `least` to `most`
unfoldable pub reaches : ℕ → ℕ → ℕ → ℕ → ℕ → Bool
reaches zero least most low high = false
reaches (suc k) least most low high = nat_le low most
    && (nat_le least high || reaches k least most (10 * low) (10 * high + 9))

-- whether c is a digit, and the number n with it, or one with more digits behind it, is from `least` to `most`
abbrev pub goes_on : ℕ → ℕ → ℕ → ℕ → Bool
goes_on least most n c = nat_le 48 c && nat_le c 57 && nat_le (10 * n + (c - 48)) most
    && reaches 11 least most (10 * n + (c - 48)) (10 * n + (c - 48))

abbrev pub digit_after : ℕ → ℕ → ℕ → ℕ → Option ℕ
digit_after least most n c = if goes_on least most n c then Some (10 * n + (c - 48)) else None

abbrev pub is_one_of : ℕ × ℕ → ℕ → Bool
is_one_of ends c = c == ends.0 || c == ends.1

-- the digits that go on with n, and an end
abbrev pub number_on : ℕ × ℕ → ℕ → ℕ → ℕ → List ℕ → Answer (ℕ × ℕ)
number_on ends least most n [] = Err []
number_on ends least most n (c ∷ cs) =
    if is_one_of ends c && nat_le least n then Ok ((n, c), cs)
    else if goes_on least most n c then number_on ends least most (10 * n + (c - 48)) cs
    else Err (c ∷ cs)

abbrev pub zero_end : ℕ × ℕ → List ℕ → Answer (ℕ × ℕ)
zero_end ends [] = Err []
zero_end ends (c ∷ cs) = if is_one_of ends c then Ok ((0, c), cs) else Err (c ∷ cs)

-- a number above 0 from `least` to `most`, and an end
abbrev pub first_digits : ℕ × ℕ → ℕ → ℕ → Reader (ℕ × ℕ)
first_digits ends least most [] = Err []
first_digits ends least most (c ∷ cs) =
    cond (nat_le 49 c && goes_on least most 0 c) (number_on ends least most (10 * 0 + (c - 48)) cs) (Err (c ∷ cs))

-- a number from `least` to `most`, and an end
abbrev pub natural : ℕ × ℕ → ℕ → ℕ → Reader (ℕ × ℕ)
natural ends least most text =
    cond (least == 0 && begins 48 text) (seq (after_word (codes "0")) (λ _. zero_end ends) text)
    (first_digits ends least most text)

abbrev pub negative : ℕ → ℤ
negative size = negsuc (size - 1)

-- a whole number of `i128`, which isn't 0 where `least` is 1, and an end
abbrev pub signed : ℕ × ℕ → ℕ → Reader (ℤ × ℕ)
signed ends least =
    either 45 (seq (after_word (codes "-")) (λ _. seq (natural ends 1 (2 ^ 127)) (λ n. give (negative n.0, n.1))))
    (seq (natural ends least (2 ^ 127 - 1)) (λ n. give (pos n.0, n.1)))
