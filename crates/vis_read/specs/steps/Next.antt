-- The token at the head of what is left of a text.
use Rattle.std.specs.Prelude.{ℕ, ◌≤◌, List, drop, length, take}
use Rattle.viz_base.specs.declared.nodes.Node.{Node}
use Rattle.vis_read.specs.declared.lexemes.Lexeme.{Lexeme}
use Rattle.vis_read.specs.declared.lexemes.Lexeme.TheVariants.{Unknown}
use Rattle.vis_read.specs.declared.pieces.Piece.{Piece}
use Rattle.vis_read.specs.Pieces.{BeginsWithNone, IsLongest}
use Rattle.vis_read.specs.Tokens.{Means}

-- a kind of pieces and so many bytes, which are the longest piece with which the text begins
abbrev pub IsCut : List ℕ → Piece × ℕ → Type 0
IsCut text found = (found.1 ≤ length text) × IsLongest text found.0 (take found.1 text) (drop found.1 text)

-- what it is, and how many bytes it has; none where no piece begins there
pub data IsNext (nodes : List Node) (text : List ℕ) : Lexeme → ℕ → Type 0 where
  piece : (kind : Piece) (lexeme : Lexeme) (len : ℕ) → 1 ≤ len → len ≤ length text
      → IsLongest text kind (take len text) (drop len text) → Means nodes kind (take len text) lexeme
      → IsNext nodes text lexeme len
  nothing : BeginsWithNone text → IsNext nodes text Unknown 0
