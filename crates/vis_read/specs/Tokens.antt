-- The tokens of a formula's text: its pieces, of which white space stands between, with their meaning in the grammar.
use Rattle.std.specs.Prelude.{◌≡◌, ℕ, ◌+◌, ◌==◌, Bool, true, false, ◌||◌, ◌⊎◌, List, [], ◌∷◌, ◌++◌, length, if◌then◌else◌, is_some}
use Rattle.std.specs.List.{list_any}
use Rattle.viz_base.specs.declared.nodes.Node.{Node}
use Rattle.viz_base.specs.declared.formulas.Set.TheVariants.{Nodes}
use Rattle.css_semantics.specs.Matching.{Match}
use Rattle.css_semantics.specs.Spelled.{Spelled}
use Rattle.css_semantics.specs.SelectorGrammar.{IsBadAt, IsGroupOf, IsUnsupportedAt}
use Rattle.vis_read.specs.declared.lexemes.Lexeme.{Lexeme}
use Rattle.vis_read.specs.declared.lexemes.Lexeme.TheVariants as a
use Rattle.vis_read.specs.declared.lexemes.Token.{Token}
use Rattle.vis_read.specs.declared.lexemes.Unit.TheVariants.{One, Px}
use Rattle.vis_read.specs.declared.pieces.Piece.{Piece}
use Rattle.vis_read.specs.declared.pieces.Piece.TheVariants.{Word, Number, Pixels, Quoted, Sign, Mark}
use Rattle.vis_read.specs.Pieces.{BeginsWithNone, IsLongest}
use Rattle.vis_read.specs.Words.{word_lexeme}

-- ---- sets of elements

abbrev pub Group : Type 0
Group = List Spelled

-- one of the selectors matches the node (CSS 2.1, 5.2.1)
abbrev pub MatchesOne : List Node → Group → ℕ → Type 0
MatchesOne nodes [] n = ⊥
MatchesOne nodes (one ∷ group) n = Match one.0 nodes n ⊎ MatchesOne nodes group n

-- one of the selectors has a pseudo-element: what it matches is no node of the page
abbrev pub names_pseudo : Group → Bool
names_pseudo group = list_any (λ (one : Spelled). is_some one.1) group

-- those of the nodes before a number that a group of selectors matches, in ascending order
pub data AreMatched (nodes : List Node) (group : Group) : ℕ → List ℕ → Type 0 where
  nothing : AreMatched nodes group 0 []
  matched : (n : ℕ) (found : List ℕ) → AreMatched nodes group n found → MatchesOne nodes group n
      → AreMatched nodes group (n + 1) (found ++ n ∷ [])
  passed : (n : ℕ) (found : List ℕ) → AreMatched nodes group n found → (MatchesOne nodes group n → ⊥)
      → AreMatched nodes group (n + 1) found

-- What a string says: the nodes that the selectors in it match. It is no set where it is no
-- group of selectors, or one with a pseudo-element or with a selector that is refused.
pub data IsSet (nodes : List Node) (text : List ℕ) : Lexeme → Type 0 where
  set : (group : Group) (found : List ℕ) → IsGroupOf text group → names_pseudo group ≡ false
      → AreMatched nodes group (length nodes) found → IsSet nodes text (a.Members (Nodes found))
  of_pseudo : (group : Group) → IsGroupOf text group → names_pseudo group ≡ true → IsSet nodes text a.Unknown
  bad : (at : ℕ) → IsBadAt text at → IsSet nodes text a.Unknown
  unsupported : (at : ℕ) → IsUnsupportedAt text at → IsSet nodes text a.Unknown

-- ---- tokens

abbrev pub mark_lexeme : ℕ → Lexeme
mark_lexeme c =
    if c == 40 then a.Open else
    (if c == 41 then a.Close else
    (if c == 44 then a.Comma else
    (if c == 58 then a.Colon else
    (if c == 46 then a.Dot else
    (if c == 43 then a.Plus else
    (if c == 45 then a.Minus else
    (if c == 42 then a.Star else
    a.Unknown)))))))

-- what a piece of a kind is in the grammar
abbrev pub Means : List Node → Piece → List ℕ → Lexeme → Type 0
Means nodes Word piece lexeme = lexeme ≡ word_lexeme piece
Means nodes (Number n) piece lexeme = lexeme ≡ a.Number n One
Means nodes (Pixels n) piece lexeme = lexeme ≡ a.Number n Px
Means nodes Quoted piece lexeme = (inside : List ℕ) × (piece ≡ 34 ∷ (inside ++ 34 ∷ [])) × IsSet nodes inside lexeme
Means nodes (Sign s) piece lexeme = lexeme ≡ a.Sign s
Means nodes (Mark c) piece lexeme = lexeme ≡ mark_lexeme c

-- a space, a tab or a line feed
abbrev pub is_white : ℕ → Bool
is_white c = c == 32 || (c == 9 || c == 10)

-- the tokens of what stands at a place of a text: what begins with no piece is the last one
pub data AreTokens (nodes : List Node) : ℕ → List ℕ → List Token → Type 0 where
  no_more : (at : ℕ) → AreTokens nodes at [] []
  white : (at c : ℕ) (rest : List ℕ) (ts : List Token) → is_white c ≡ true → AreTokens nodes (at + 1) rest ts
      → AreTokens nodes at (c ∷ rest) ts
  next : (at : ℕ) (text piece rest : List ℕ) (kind : Piece) (lexeme : Lexeme) (ts : List Token)
      → IsLongest text kind piece rest → Means nodes kind piece lexeme → AreTokens nodes (at + length piece) rest ts
      → AreTokens nodes at text (record { lexeme = lexeme; at = at } ∷ ts)
  unknown : (at c : ℕ) (rest : List ℕ) → is_white c ≡ false → BeginsWithNone (c ∷ rest)
      → AreTokens nodes at (c ∷ rest) (record { lexeme = a.Unknown; at = at } ∷ [])
