-- The tokens of a text (CSS 2.1, 4.1.1): pieces that join to the text, each the longest
-- at its place that some kind has, and of the first such kind in the table.
use Rattle.std.specs.Prelude.{◌≡◌, ℕ, ◌+◌, ◌≤◌, List, [], ◌∷◌, ◌++◌, length, drop, encode_utf8_all}
use Rattle.std.specs.Str.{IsCharBoundary, IsUtf8, chars}
use Rattle.viz_base.specs.declared.tokens.TokenKind.{TokenKind}
use Rattle.css_semantics.specs.Pieces.{Token}
use Rattle.css_semantics.specs.TokensTable.{Matches, row_of}

-- A text of characters falls into a piece and a rest. The piece is of the kind; no piece of
-- any kind at the front of the text is longer; and no earlier kind has the piece.
pub record IsLongest (text : List ℕ) (kind : TokenKind) (piece rest : List ℕ) : Type 0 where
  pub whole : text ≡ piece ++ rest
  pub matches : Matches kind piece
  pub longest : (other : TokenKind) (p r : List ℕ) → text ≡ p ++ r → Matches other p → length p ≤ length piece
  pub earliest : (other : TokenKind) → Matches other piece → row_of kind ≤ row_of other

-- the token at a place of a text, behind which the next may be read
pub record IsToken (text : List ℕ) (at : ℕ) (t : Token) : Type 0 where
  pub place : t.at ≡ at
  pub rest : List ℕ
  pub whole : drop at text ≡ t.text ++ rest
  pub utf8 : IsUtf8 t.text
  pub longest : IsLongest (chars (drop at text)) t.kind (chars t.text) (chars rest)
  pub boundary : IsCharBoundary text (at + length t.text)

-- the tokens of the characters that are left, the first of which stands at this place
abbrev pub ArePieces : ℕ → List ℕ → List Token → Type 0
ArePieces at text [] = text ≡ []
ArePieces at text (t ∷ ts) =
    (letters : List ℕ) × (rest : List ℕ) × (t.at ≡ at) × (t.text ≡ encode_utf8_all letters)
    × IsLongest text t.kind letters rest × ArePieces (at + length t.text) rest ts

-- the tokens of a text, given by its bytes
abbrev pub AreTokens : List ℕ → List Token → Type 0
AreTokens text = ArePieces 0 (chars text)
