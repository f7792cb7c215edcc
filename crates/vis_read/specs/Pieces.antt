-- The pieces that a formula's text is cut into:
--
--     word    := "a" to "z", then any of "a" to "z" and "0" to "9"
--     number  := "0", or digits of which the first is not "0"; at most 2,147,483,647
--     pixels  := number "px"
--     string  := a double quote, bytes other than double quotes, a double quote
--     sign    := "<" | "<=" | "=" | "!=" | ">=" | ">"
--     mark    := "(" | ")" | "," | ":" | "." | "+" | "-" | "*"
--
-- At each place the longest piece is taken.
use Rattle.std.specs.Prelude.{◌≡◌, ℕ, ◌≤◌, ◌==◌, Bool, true, not, ◌||◌, List, [], ◌∷◌, ◌++◌, length, codes}
use Rattle.std.specs.Char.{is_ascii_digit, is_ascii_lowercase}
use Rattle.std.specs.List.{list_all}
use Rattle.std.specs.Str.Parse.{digits_value}
use Rattle.viz_base.specs.declared.formulas.Sign.{Sign as Comparison}
use Rattle.viz_base.specs.declared.formulas.Sign.TheVariants.{Lt, Le, Eq, Ne, Ge, Gt}
use Rattle.vis_read.specs.declared.pieces.Piece.{Piece}
use Rattle.vis_read.specs.declared.pieces.Piece.TheVariants.{Word, Number, Pixels, Quoted, Sign, Mark}

abbrev pub is_word_byte : ℕ → Bool
is_word_byte c = is_ascii_lowercase c || is_ascii_digit c

abbrev pub is_quote : ℕ → Bool
is_quote c = c == 34

abbrev pub is_mark : ℕ → Bool
is_mark c = c == 40 || (c == 41 || (c == 44 || (c == 58 || (c == 46 || (c == 43 || (c == 45 || c == 42))))))

-- the digits of a number
pub data IsNumber : ℕ → List ℕ → Type 0 where
  zero : IsNumber 0 (48 ∷ [])
  digits : (c : ℕ) (cs : List ℕ) → is_ascii_digit c ≡ true → 49 ≤ c → list_all is_ascii_digit cs ≡ true
      → digits_value 10 (c ∷ cs) ≤ 2147483647
      → IsNumber (digits_value 10 (c ∷ cs)) (c ∷ cs)

abbrev pub sign_text : Comparison → List ℕ
sign_text Lt = codes "<"
sign_text Le = codes "<="
sign_text Eq = codes "="
sign_text Ne = codes "!="
sign_text Ge = codes ">="
sign_text Gt = codes ">"

-- bytes are a piece of a kind
pub data IsPiece : Piece → List ℕ → Type 0 where
  word : (c : ℕ) (cs : List ℕ) → is_ascii_lowercase c ≡ true → list_all is_word_byte cs ≡ true → IsPiece Word (c ∷ cs)
  number : (n : ℕ) (digits : List ℕ) → IsNumber n digits → IsPiece (Number n) digits
  pixels : (n : ℕ) (digits : List ℕ) → IsNumber n digits → IsPiece (Pixels n) (digits ++ codes "px")
  quoted : (inside : List ℕ) → list_all (λ c. not (is_quote c)) inside ≡ true
      → IsPiece Quoted (34 ∷ (inside ++ 34 ∷ []))
  sign : (s : Comparison) → IsPiece (Sign s) (sign_text s)
  mark : (c : ℕ) → is_mark c ≡ true → IsPiece (Mark c) (c ∷ [])

-- the longest piece with which a text begins, and what follows it
pub record IsLongest (text : List ℕ) (kind : Piece) (piece rest : List ℕ) : Type 0 where
  pub whole : text ≡ piece ++ rest
  pub is : IsPiece kind piece
  pub longest : (other : Piece) (p r : List ℕ) → IsPiece other p → text ≡ p ++ r → length p ≤ length piece

-- a text begins with no piece
abbrev pub BeginsWithNone : List ℕ → Type 0
BeginsWithNone text = (other : Piece) (p r : List ℕ) → IsPiece other p → text ≡ p ++ r → ⊥
