-- What tokens are in the grammar of selectors, and what names in selectors say.
use Rattle.std.specs.Prelude.{ℕ, ◌==◌, Bool, true, false, ◌||◌, List, [], ◌∷◌, map, drop, Option, Some, None, if◌then◌else◌, codes}
use Rattle.std.specs.Str.{bytes_eq, chars}
use Rattle.std.specs.Char.{to_ascii_lowercase}
use Rattle.css_semantics.specs.Pieces.{Token}
use Rattle.viz_base.specs.declared.tokens.TokenKind.{TokenKind}
use Rattle.viz_base.specs.declared.tokens.TokenKind.TheVariants as of_kind
use Rattle.viz_base.specs.declared.selectors.Test.{Test}
use Rattle.viz_base.specs.declared.selectors.Test.TheVariants as of_test
use Rattle.css_semantics.specs.declared.terminals.Terminal.{Terminal}
use Rattle.css_semantics.specs.declared.terminals.Terminal.TheVariants.{Space, Ident, Str, Id, Function, Star, Dot, Comma, Greater, Plus, Equal, Includes, DashMatch, LeftBracket, RightBracket, RightParen, Colon, Other}
use Rattle.css_semantics.specs.declared.terminals.Comparison.{Comparison}
use Rattle.css_semantics.specs.declared.terminals.Comparison.TheVariants as of_comparison
use Rattle.css_semantics.specs.declared.terminals.ColonName.{ColonName}
use Rattle.css_semantics.specs.declared.terminals.ColonName.TheVariants as of_name
use Rattle.viz_base.specs.declared.selectors.Pseudo.TheVariants.{Before, After}
use Rattle.css_semantics.specs.TokensLetters.{is_start}
use Rattle.css_semantics.specs.Names.{same_name}
use Rattle.css_semantics.specs.SheetsMarks.{text_of}

-- ---- terminals

-- whether the name behind the `#` of a token of the kind HASH is an identifier (CSS 2.1, 5.9): behind a
-- hyphen, if there is one, stands a character that may begin an identifier, or an escape
abbrev pub begins_plain : List ℕ → Bool
begins_plain [] = false
begins_plain (c ∷ cs) = is_start c || c == 92

abbrev pub begins_identifier : List ℕ → Bool
begins_identifier [] = false
begins_identifier (c ∷ cs) = if c == 45 then begins_plain cs else (is_start c || c == 92)

-- a character that is no token of another kind
abbrev pub terminal_of_character : List ℕ → Terminal
terminal_of_character text =
    if bytes_eq text (42 ∷ []) then Star
    else (if bytes_eq text (46 ∷ []) then Dot
    else (if bytes_eq text (44 ∷ []) then Comma
    else (if bytes_eq text (62 ∷ []) then Greater
    else (if bytes_eq text (43 ∷ []) then Plus
    else (if bytes_eq text (61 ∷ []) then Equal
    else Other)))))

abbrev pub terminal_of_hash : List ℕ → Terminal
terminal_of_hash text = if begins_identifier (drop 1 (chars text)) then Id else Other

abbrev pub terminal_of : TokenKind → List ℕ → Terminal
terminal_of of_kind.Space text = Space
terminal_of of_kind.Ident text = Ident
terminal_of of_kind.Str text = Str
terminal_of of_kind.Hash text = terminal_of_hash text
terminal_of of_kind.Function text = Function
terminal_of of_kind.Includes text = Includes
terminal_of of_kind.DashMatch text = DashMatch
terminal_of of_kind.LeftBracket text = LeftBracket
terminal_of of_kind.RightBracket text = RightBracket
terminal_of of_kind.RightParen text = RightParen
terminal_of of_kind.Colon text = Colon
terminal_of of_kind.Delim text = terminal_of_character text
terminal_of _ text = Other

-- what a token is in a selector
abbrev pub terminal : Token → Terminal
terminal t = terminal_of t.kind t.text

-- whether a token is a comment, which may stand between any two tokens (CSS 2.1, 4.1.1 and 4.1.9)
abbrev pub is_comment : TokenKind → Bool
is_comment of_kind.Comment = true
is_comment _ = false

-- the tokens that are no comments
abbrev pub without_comments : List Token → List Token
without_comments [] = []
without_comments (t ∷ ts) = if is_comment t.kind then without_comments ts else t ∷ without_comments ts

-- ---- names

-- the name of a type or an attribute: after escapes, in lower case, since its case doesn't
-- matter (CSS 2.1, 5.4 and 5.8; for all documents in this project's own reading)
unfoldable pub name_of : Token → List ℕ
name_of t = map to_ascii_lowercase (text_of t)

-- what a name behind a colon says, after escapes (CSS 2.1, 5.10 to 5.12)
abbrev pub pseudo : List ℕ → Option ColonName
pseudo text =
    if same_name text (codes "first-child") then Some (of_name.Class of_test.FirstChild)
    else (if same_name text (codes "link") then Some (of_name.Class of_test.Link)
    else (if same_name text (codes "visited") || same_name text (codes "hover") || same_name text (codes "active")
    || same_name text (codes "focus") then Some (of_name.Class of_test.Never)
    else (if same_name text (codes "before") then Some (of_name.Generated Before)
    else (if same_name text (codes "after") then Some (of_name.Generated After)
    else (if same_name text (codes "first-line") || same_name text (codes "first-letter") then Some of_name.Refused
    else None)))))

-- how a terminal between an attribute's name and its value compares
abbrev pub comparison : Terminal → Option Comparison
comparison Equal = Some of_comparison.Equals
comparison Includes = Some of_comparison.Word
comparison DashMatch = Some of_comparison.Dash
comparison _ = None

-- the test of an attribute with this name against this value
abbrev pub compared : Comparison → List ℕ → List ℕ → Test
compared of_comparison.Equals name value = of_test.Equals name value
compared of_comparison.Word name value = of_test.Word name value
compared of_comparison.Dash name value = of_test.Dash name value

-- what may stand there as a value
abbrev pub is_value : Terminal → Bool
is_value Ident = true
is_value Str = true
is_value _ = false
