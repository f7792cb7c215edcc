-- The macros of the table of tokens (CSS 2.1, 4.1.1). A macro is read as the
-- fact that a piece of text is one of those that it stands for.
use Rattle.std.specs.Prelude.{◌≡◌, ℕ, ◌<◌, ◌≤◌, Bool, not, ◌&&◌, ◌⊎◌, List, [], ◌∷◌, ◌++◌, length, IsTrue}
use Rattle.std.specs.List.{AllByRecursion, concat}
use Rattle.css_semantics.specs.TokensLetters.{is_digit, is_hex, is_newline, is_space, is_start, is_name, is_quoted, is_url}

-- ---- how macros are joined

-- one character that passes the test
abbrev pub One : (ℕ → Bool) → List ℕ → Type 0
One test piece = (c : ℕ) × (piece ≡ c ∷ []) × IsTrue (test c)

-- this character
abbrev pub Mark : ℕ → List ℕ → Type 0
Mark c piece = piece ≡ c ∷ []

-- these characters
abbrev pub Text : List ℕ → List ℕ → Type 0
Text cs piece = piece ≡ cs

-- a piece of the first macro and then one of the second
pub record Then (First Second : List ℕ → Type 0) (piece : List ℕ) : Type 0 where
  pub front : List ℕ
  pub back : List ℕ
  pub whole : piece ≡ front ++ back
  pub first : First front
  pub second : Second back

-- nothing, or a piece of the macro
abbrev pub Maybe : (List ℕ → Type 0) → List ℕ → Type 0
Maybe Macro piece = (piece ≡ []) ⊎ Macro piece

-- any number of pieces of the macro
pub record Many (Macro : List ℕ → Type 0) (piece : List ℕ) : Type 0 where
  pub pieces : List (List ℕ)
  pub whole : piece ≡ concat pieces
  pub each : AllByRecursion Macro pieces

-- any number of characters that pass the test
abbrev pub Each : (ℕ → Bool) → List ℕ → Type 0
Each test = AllByRecursion (λ c. IsTrue (test c))

-- one or more of them
abbrev pub OneOrMore : (ℕ → Bool) → List ℕ → Type 0
OneOrMore test piece = (0 < length piece) × Each test piece

-- one to six of them
abbrev pub UpToSix : (ℕ → Bool) → List ℕ → Type 0
UpToSix test piece = (0 < length piece) × (length piece ≤ 6) × Each test piece

-- ---- the macros

-- nl: the end of a line, carriage return and line feed together being one
abbrev pub IsNewline : List ℕ → Type 0
IsNewline piece = One is_newline piece ⊎ (piece ≡ 13 ∷ 10 ∷ [])

-- w: white space or nothing
abbrev pub IsWhite : List ℕ → Type 0
IsWhite = Each is_space

-- at most one white space, carriage return and line feed together being one
abbrev pub IsOneWhite : List ℕ → Type 0
IsOneWhite = Maybe (λ piece. One is_space piece ⊎ (piece ≡ 13 ∷ 10 ∷ []))

-- unicode: a backslash, one to six hexadecimal digits, at most one white space
abbrev pub IsUnicode : List ℕ → Type 0
IsUnicode = Then (Mark 92) (Then (UpToSix is_hex) IsOneWhite)

-- what a backslash escapes by itself: neither a hexadecimal digit nor the end of a line
abbrev pub is_escaped : ℕ → Bool
is_escaped c = not (is_hex c) && not (is_newline c)

-- escape
abbrev pub IsEscape : List ℕ → Type 0
IsEscape piece = IsUnicode piece ⊎ Then (Mark 92) (One is_escaped) piece

-- a character that passes the test, or an escape
abbrev pub OneOrEscape : (ℕ → Bool) → List ℕ → Type 0
OneOrEscape test piece = One test piece ⊎ IsEscape piece

-- nmstart
abbrev pub IsStart : List ℕ → Type 0
IsStart = OneOrEscape is_start

-- nmchar
abbrev pub IsNameChar : List ℕ → Type 0
IsNameChar = OneOrEscape is_name

-- ident
abbrev pub IsIdent : List ℕ → Type 0
IsIdent = Then (Maybe (Mark 45)) (Then IsStart (Many IsNameChar))

-- name
abbrev pub IsName : List ℕ → Type 0
IsName = Then IsNameChar (Many IsNameChar)

-- num: digits, or any digits, a point and one or more digits
abbrev pub IsNum : List ℕ → Type 0
IsNum piece = OneOrMore is_digit piece ⊎ Then (Each is_digit) (Then (Mark 46) (OneOrMore is_digit)) piece

-- what may stand in a string within this quote: a character, a backslash with the end of a line, an escape
abbrev pub IsQuoted : ℕ → List ℕ → Type 0
IsQuoted quote piece = One (is_quoted quote) piece ⊎ (Then (Mark 92) IsNewline piece ⊎ IsEscape piece)

-- string1, string2
abbrev pub IsStringIn : ℕ → List ℕ → Type 0
IsStringIn quote = Then (Mark quote) (Then (Many (IsQuoted quote)) (Mark quote))

-- string
abbrev pub IsString : List ℕ → Type 0
IsString piece = IsStringIn 34 piece ⊎ IsStringIn 39 piece

-- badstring1, badstring2
abbrev pub IsBadStringIn : ℕ → List ℕ → Type 0
IsBadStringIn quote = Then (Mark quote) (Then (Many (IsQuoted quote)) (Maybe (Mark 92)))

-- badstring
abbrev pub IsBadString : List ℕ → Type 0
IsBadString piece = IsBadStringIn 34 piece ⊎ IsBadStringIn 39 piece

-- urlchar, any number. A backslash is one only in an escape, also in an
-- address that is never closed: this project's own reading.
abbrev pub IsUrl : List ℕ → Type 0
IsUrl = Many (OneOrEscape is_url)

-- nowhere the end of a comment
abbrev pub IsOpen : List ℕ → Type 0
IsOpen piece = (before after : List ℕ) → piece ≡ before ++ (42 ∷ 47 ∷ after) → ⊥
