-- What a token says without escapes, quotes and marks (CSS 2.1, 4.1.3), on characters.
use Rattle.std.specs.Prelude.{ℕ, ◌+◌, ◌*◌, ◌-◌, ◌==◌, nat_lt, Bool, false, ◌&&◌, ◌||◌, List, [], ◌∷◌, drop, if◌then◌else◌}
use Rattle.viz_base.specs.declared.tokens.TokenKind.{TokenKind}
use Rattle.viz_base.specs.declared.tokens.TokenKind.TheVariants.{Ident, AtKeyword, Str, BadString, BadUri, BadComment, Hash, Number, Percentage, Dimension, Uri, UnicodeRange, Cdo, Cdc, Colon, Semicolon, LeftBrace, RightBrace, LeftParen, RightParen, LeftBracket, RightBracket, Space, Comment, Function, Includes, DashMatch, Delim}
use Rattle.css_semantics.specs.TokensLetters.{within, is_digit, is_hex, is_newline, is_space, is_quote}

-- the value of a hexadecimal digit
abbrev pub hex_value : ℕ → ℕ
hex_value c = if is_digit c then c - 48 else (if within 97 102 c then c - 87 else c - 55)

-- the character that an escape by number gives: U+FFFD for 0, a surrogate
-- and what is past U+10FFFF, in this project's own reading
abbrev pub scalar : ℕ → ℕ
scalar n = if n == 0 || within 0xD800 0xDFFF n || nat_lt 0x10FFFF n then 0xFFFD else n

-- where the text of a token ends, and what a backslash gives behind which nothing stands
pub record Extent : Type 0 where
  pub ends : ℕ → Bool
  pub last : List ℕ

abbrev mutual
  -- The characters with each escape resolved, up to the first that ends the text and isn't escaped.
  pub resolved : Extent → List ℕ → List ℕ
  resolved extent [] = []
  resolved extent (c ∷ cs) =
      if c == 92 then escaped extent cs else (if extent.ends c then [] else c ∷ resolved extent cs)

  -- Behind a backslash: a character by its number, nothing at the end of a line, or the character itself.
  pub escaped : Extent → List ℕ → List ℕ
  escaped extent [] = extent.last
  escaped extent (c ∷ cs) =
      if is_hex c then numbered extent 5 (hex_value c) cs
      else (if c == 13 then returned extent cs
      else (if is_newline c then resolved extent cs else c ∷ resolved extent cs))

  -- Where so many digits may still come behind the number: they go on with it, and one white space ends it.
  pub numbered : Extent → ℕ → ℕ → List ℕ → List ℕ
  numbered extent left n [] = scalar n ∷ []
  numbered extent left n (c ∷ cs) =
      if is_hex c && nat_lt 0 left then numbered extent (left - 1) (16 * n + hex_value c) cs
      else (scalar n ∷ (if c == 13 then returned extent cs
      else (if is_space c then resolved extent cs
      else (if c == 92 then escaped extent cs else (if extent.ends c then [] else c ∷ resolved extent cs)))))

  -- Behind a carriage return of an escape, to which a line feed belongs.
  pub returned : Extent → List ℕ → List ℕ
  returned extent [] = []
  returned extent (c ∷ cs) =
      if c == 10 then resolved extent cs
      else (if c == 92 then escaped extent cs else (if extent.ends c then [] else c ∷ resolved extent cs))

-- a text that ends nowhere before its end
abbrev pub open_extent : Extent
open_extent = record { ends = λ c. false; last = 92 ∷ [] }

-- one that a mark ends
abbrev pub marked_extent : ℕ → Extent
marked_extent mark = record { ends = λ c. c == mark; last = [] }

-- an address without quotes
abbrev pub address_extent : Extent
address_extent = record { ends = λ c. is_space c || c == 41; last = [] }

abbrev pub without_white : List ℕ → List ℕ
without_white [] = []
without_white (c ∷ cs) = if is_space c then without_white cs else c ∷ cs

-- what stands between quotes, the first of which begins the text
abbrev pub quoted : List ℕ → List ℕ
quoted [] = []
quoted (quote ∷ cs) = resolved (marked_extent quote) cs

-- an address, with quotes or without
abbrev pub address : List ℕ → List ℕ
address [] = []
address (c ∷ cs) = if is_quote c then quoted (c ∷ cs) else resolved address_extent (c ∷ cs)

-- Of a string what is between its quotes; of an address the address alone; of other
-- tokens the text without the `#` or the `@` before it or the `(` behind it.
abbrev pub unescaped : TokenKind → List ℕ → List ℕ
unescaped Str text = quoted text
unescaped BadString text = quoted text
unescaped BadUri text = address (without_white (drop 4 text))
unescaped Uri text = address (without_white (drop 4 text))
unescaped AtKeyword text = resolved open_extent (drop 1 text)
unescaped Hash text = resolved open_extent (drop 1 text)
unescaped Function text = resolved (marked_extent 40) text
unescaped Ident text = resolved open_extent text
unescaped BadComment text = resolved open_extent text
unescaped Number text = resolved open_extent text
unescaped Percentage text = resolved open_extent text
unescaped Dimension text = resolved open_extent text
unescaped UnicodeRange text = resolved open_extent text
unescaped Cdo text = resolved open_extent text
unescaped Cdc text = resolved open_extent text
unescaped Colon text = resolved open_extent text
unescaped Semicolon text = resolved open_extent text
unescaped LeftBrace text = resolved open_extent text
unescaped RightBrace text = resolved open_extent text
unescaped LeftParen text = resolved open_extent text
unescaped RightParen text = resolved open_extent text
unescaped LeftBracket text = resolved open_extent text
unescaped RightBracket text = resolved open_extent text
unescaped Space text = resolved open_extent text
unescaped Comment text = resolved open_extent text
unescaped Includes text = resolved open_extent text
unescaped DashMatch text = resolved open_extent text
unescaped Delim text = resolved open_extent text
