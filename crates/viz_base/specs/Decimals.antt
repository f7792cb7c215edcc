use Rattle.std.specs.Prelude.{ℕ, ◌+◌, ◌-◌, ◌*◌, ◌^◌, min, Bool, nat_lt, nat_le, ◌==◌, ◌&&◌, cond, List, [], ◌∷◌, ◌++◌, length, take, drop, replicate, Option, Some, None}
use Rattle.std.specs.Char.{is_ascii_digit}
use Rattle.std.specs.List.{list_all, position, before_first, after_first}
use Rattle.std.specs.Option.{option_and_then, option_map_or}
use Rattle.std.specs.Str.Parse.{digits_value}

abbrev pub is_point : ℕ → Bool
is_point c = c == 46

-- a NUMBER is digits, or any digits, a point and at least one digit (CSS 2.1, 4.1.1)
abbrev pub is_number : List ℕ → Bool
is_number text =
    list_all is_ascii_digit (before_first is_point text)
    && list_all is_ascii_digit (after_first is_point text)
    && option_map_or (λ at. nat_lt 0 (length (after_first is_point text))) (position is_point text)
    (nat_lt 0 (length text))

-- the first six digits, with zeros in place of those that are missing
abbrev pub six_digits : List ℕ → List ℕ
six_digits digits = take 6 digits ++ drop (length digits) (replicate 6 48)

-- how many millionths a NUMBER is, digits after the sixth of its fraction being cut (our own reading)
abbrev pub millionths_of : List ℕ → ℕ
millionths_of text = digits_value 10 (before_first is_point text ++ six_digits (after_first is_point text))

-- the millionths of a NUMBER of at most 2^40 of them
abbrev pub decimal_of : List ℕ → Option ℕ
decimal_of text = cond (is_number text && nat_le (millionths_of text) (2 ^ 40)) (Some (millionths_of text)) None

-- ---- the same, digit by digit

-- the number that the digits write when they follow those of n, held at the first one past the bound
abbrev pub read_digits : ℕ → List ℕ → Option ℕ
read_digits n [] = Some n
read_digits n (c ∷ cs) = cond (is_ascii_digit c) (read_digits (min (n * 10 + (c - 48)) (2 ^ 40 + 1)) cs) None

-- what stands before and after the point, where a digit stands where one must
abbrev pub number_parts : List ℕ → Option (List ℕ × List ℕ)
number_parts text =
    cond (option_map_or (λ at. nat_lt 0 (length (after_first is_point text))) (position is_point text)
    (nat_lt 0 (length text)))
    (Some (before_first is_point text, after_first is_point text)) None

-- the number of millionths, held at the first one past the bound
abbrev pub number_of : List ℕ → List ℕ → Option ℕ
number_of whole fraction =
    cond (list_all is_ascii_digit fraction)
    (option_and_then (λ n. option_and_then (λ m. read_digits m (drop (min (length fraction) 6) (replicate 6 48)))
    (read_digits n (take (min (length fraction) 6) fraction))) (read_digits 0 whole)) None

abbrev pub number_read : List ℕ → Option ℕ
number_read text = option_and_then (λ (p : List ℕ × List ℕ). number_of p.0 p.1) (number_parts text)
