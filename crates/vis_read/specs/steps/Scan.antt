-- Finding the longest piece at the head of a text: its kind, and how many bytes it has.
use Rattle.std.specs.Prelude.{ℕ, ◌+◌, ◌-◌, ◌*◌, ◌==◌, nat_le, Bool, true, false, ◌&&◌, List, [], ◌∷◌, drop, Option, Some, None, option_map, if◌then◌else◌, codes}
use Rattle.std.specs.Char.{is_ascii_digit, is_ascii_lowercase}
use Rattle.std.specs.List.{position, prefix_len, starts_with}
use Rattle.viz_base.specs.declared.formulas.Sign.{Sign as Comparison}
use Rattle.viz_base.specs.declared.formulas.Sign.TheVariants.{Lt, Le, Eq, Ne, Ge, Gt}
use Rattle.vis_read.specs.declared.pieces.Piece.{Piece}
use Rattle.vis_read.specs.declared.pieces.Piece.TheVariants.{Word, Number, Pixels, Quoted, Sign, Mark}
use Rattle.vis_read.specs.Pieces.{is_mark, is_quote, is_word_byte}

-- the number with one digit more
abbrev pub one_more : ℕ → ℕ → Option ℕ
one_more n c = if is_ascii_digit c && nat_le (n * 10 + (c - 48)) 2147483647 then Some (n * 10 + (c - 48)) else None

abbrev pub with_more : ℕ → Option ℕ → (ℕ → ℕ × ℕ) → ℕ × ℕ
with_more n None f = (n, 0)
with_more n (Some m) f = ((f m).0, (f m).1 + 1)

-- the number that more digits make of one, and how many there are
abbrev pub digits_on : ℕ → List ℕ → ℕ × ℕ
digits_on n [] = (n, 0)
digits_on n (c ∷ cs) = with_more n (one_more n c) (λ m. digits_on m cs)

-- a number of so many bytes, or, with its unit, of two more
abbrev pub with_unit : ℕ → ℕ → List ℕ → Piece × ℕ
with_unit n len rest = if starts_with ◌==◌ rest (codes "px") then (Pixels n, len + 2) else (Number n, len)

abbrev pub number_behind : ℕ × ℕ → List ℕ → Piece × ℕ
number_behind found cs = with_unit found.0 (found.1 + 1) (drop found.1 cs)

-- a number that begins with the digit
abbrev pub number_at : ℕ → List ℕ → Piece × ℕ
number_at c cs = if c == 48 then with_unit 0 1 cs else number_behind (digits_on (c - 48) cs) cs

abbrev pub begins_with_equal : List ℕ → Bool
begins_with_equal [] = false
begins_with_equal (c ∷ cs) = c == 61

abbrev pub sign_or : Bool → Comparison → Comparison → Option (Piece × ℕ)
sign_or true both one = Some (Sign both, 2)
sign_or false both one = Some (Sign one, 1)

abbrev pub unequal_or_none : Bool → Option (Piece × ℕ)
unequal_or_none true = Some (Sign Ne, 2)
unequal_or_none false = None

abbrev pub mark_at : ℕ → List ℕ → Option (Piece × ℕ)
mark_at c cs =
    if c == 60 then sign_or (begins_with_equal cs) Le Lt else
    (if c == 62 then sign_or (begins_with_equal cs) Ge Gt else
    (if c == 61 then Some (Sign Eq, 1) else
    (if c == 33 then unequal_or_none (begins_with_equal cs) else
    (if is_mark c then Some (Mark c, 1) else None))))

abbrev pub quoted_at : List ℕ → Option (Piece × ℕ)
quoted_at cs = option_map (λ n. (Quoted, n + 2)) (position is_quote cs)

abbrev pub piece_at : ℕ → List ℕ → Option (Piece × ℕ)
piece_at c cs =
    if is_ascii_lowercase c then Some (Word, prefix_len is_word_byte cs + 1) else
    (if is_ascii_digit c then Some (number_at c cs) else
    (if is_quote c then quoted_at cs else mark_at c cs))
