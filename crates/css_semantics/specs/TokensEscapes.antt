-- Laws of escapes (CSS 2.1, 4.1.3), in terms of the macros of the table of tokens.
use Rattle.std.specs.Prelude.{◌≡◌, ℕ, ◌+◌, ◌*◌, ◌==◌, Bool, true, false, ◌⊎◌, List, [], ◌∷◌, ◌++◌, length}
use Rattle.css_semantics.specs.TokensLetters.{is_hex, is_space}
use Rattle.css_semantics.specs.TokensMacros.{UpToSix, IsNewline, IsOneWhite, is_escaped}
use Rattle.css_semantics.specs.TokensUnescaped.{Extent, resolved, hex_value, scalar}

-- the number that hexadecimal digits go on to spell
abbrev pub number_from : ℕ → List ℕ → ℕ
number_from n [] = n
number_from n (d ∷ digits) = number_from (16 * n + hex_value d) digits

-- whether the first character passes the test
abbrev pub begins : (ℕ → Bool) → List ℕ → Bool
begins test [] = false
begins test (c ∷ cs) = test c

-- one to six digits and at most one white space, as many of both as the text has there
pub record IsWholeNumber (digits white rest : List ℕ) : Type 0 where
  pub spelled : UpToSix is_hex digits
  pub one : IsOneWhite white
  pub all_digits : white ≡ [] → (length digits ≡ 6) ⊎ (begins is_hex rest ≡ false)
  pub all_white : white ≡ [] → begins is_space rest ≡ false
  pub whole_line : white ≡ 13 ∷ [] → begins (λ c. c == 10) rest ≡ false

pub record ResolvesEscapes (extent : Extent) : Type 0 where
  -- a character that stands for itself
  pub plain : (c : ℕ) (rest : List ℕ) → (c == 92) ≡ false → extent.ends c ≡ false
      → resolved extent (c ∷ rest) ≡ c ∷ resolved extent rest
  -- a hexadecimal escape is the character of its number, or U+FFFD
  pub number : (digits white rest : List ℕ) → IsWholeNumber digits white rest
      → resolved extent (92 ∷ (digits ++ (white ++ rest))) ≡ scalar (number_from 0 digits) ∷ resolved extent rest
  -- any other escaped character is itself, also one that would end the text
  pub escaped : (c : ℕ) (rest : List ℕ) → is_escaped c ≡ true
      → resolved extent (92 ∷ c ∷ rest) ≡ c ∷ resolved extent rest
  -- the end of a line behind a backslash is nothing
  pub line : (line rest : List ℕ) → IsNewline line → (line ≡ 13 ∷ [] → begins (λ c. c == 10) rest ≡ false)
      → resolved extent (92 ∷ (line ++ rest)) ≡ resolved extent rest
  -- where the text ends
  pub ended : (c : ℕ) (rest : List ℕ) → (c == 92) ≡ false → extent.ends c ≡ true → resolved extent (c ∷ rest) ≡ []
  pub nothing : resolved extent [] ≡ []
  pub last : resolved extent (92 ∷ []) ≡ extent.last
