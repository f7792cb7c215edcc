-- Tests on the tokens of a sheet.
use Rattle.std.specs.Prelude.{ℕ, Bool, true, false, ◌&&◌, ◌||◌, List, [], ◌∷◌, Option, Some, None, encode_utf8_all}
use Rattle.std.specs.Str.{bytes_eq, chars}
use Rattle.css_semantics.specs.Pieces.{Token}
use Rattle.viz_base.specs.declared.tokens.TokenKind.{TokenKind}
use Rattle.viz_base.specs.declared.tokens.TokenKind.TheVariants.{Ident, AtKeyword, BadString, BadUri, BadComment, Uri, Cdo, Cdc, Colon, Semicolon, LeftBrace, RightBrace, LeftParen, RightParen, LeftBracket, RightBracket, Space, Comment, Function, Delim}
use Rattle.css_semantics.specs.Names.{same_name}
use Rattle.css_semantics.specs.TokensUnescaped.{unescaped}

-- ---- brackets

-- the mark that closes the pair which a token opens, if it opens one: a parenthesis, also that of a function and of a
-- bad address, a bracket or a brace (CSS 2.1, 4.1.6 and 4.2)
abbrev pub closing_mark : TokenKind → Option TokenKind
closing_mark LeftParen = Some RightParen
closing_mark Function = Some RightParen
closing_mark BadUri = Some RightParen
closing_mark LeftBracket = Some RightBracket
closing_mark LeftBrace = Some RightBrace
closing_mark _ = None

-- whether a token is this closing mark
abbrev pub is_paren : TokenKind → Bool
is_paren RightParen = true
is_paren _ = false

abbrev pub is_bracket : TokenKind → Bool
is_bracket RightBracket = true
is_bracket _ = false

abbrev pub is_brace : TokenKind → Bool
is_brace RightBrace = true
is_brace _ = false

abbrev pub is_mark : TokenKind → TokenKind → Bool
is_mark RightParen kind = is_paren kind
is_mark RightBracket kind = is_bracket kind
is_mark RightBrace kind = is_brace kind
is_mark _ kind = false

-- ---- kinds

abbrev pub is_ident : TokenKind → Bool
is_ident Ident = true
is_ident _ = false

abbrev pub is_at_keyword : TokenKind → Bool
is_at_keyword AtKeyword = true
is_at_keyword _ = false

abbrev pub is_colon : TokenKind → Bool
is_colon Colon = true
is_colon _ = false

abbrev pub is_semicolon : TokenKind → Bool
is_semicolon Semicolon = true
is_semicolon _ = false

abbrev pub is_left_brace : TokenKind → Bool
is_left_brace LeftBrace = true
is_left_brace _ = false

abbrev pub is_delim : TokenKind → Bool
is_delim Delim = true
is_delim _ = false

-- `<!--` or `-->`
abbrev pub is_comment_mark : TokenKind → Bool
is_comment_mark Cdo = true
is_comment_mark Cdc = true
is_comment_mark _ = false

-- white space
abbrev pub is_space : TokenKind → Bool
is_space Space = true
is_space _ = false

-- white space or a comment
abbrev pub is_gap : TokenKind → Bool
is_gap Space = true
is_gap Comment = true
is_gap BadComment = true
is_gap _ = false

-- a string or an address that a line end or another character broke off
abbrev pub is_bad : TokenKind → Bool
is_bad BadString = true
is_bad BadUri = true
is_bad _ = false

-- a token in which a `(` stands
abbrev pub has_paren : TokenKind → Bool
has_paren LeftParen = true
has_paren Function = true
has_paren Uri = true
has_paren BadUri = true
has_paren _ = false

-- ---- tests on tokens

-- a character that is no token of another kind
abbrev pub is_character : ℕ → Token → Bool
is_character c t = is_delim t.kind && bytes_eq t.text (c ∷ [])

-- the comma of a media list, and the `!` of `!important`
abbrev pub is_comma : Token → Bool
is_comma = is_character 44

abbrev pub is_bang : Token → Bool
is_bang = is_character 33

-- what a token says, after escapes
unfoldable pub text_of : Token → List ℕ
text_of t = encode_utf8_all (unescaped t.kind (chars t.text))

-- whether it says this word, in any ASCII case
unfoldable pub is_word : List ℕ → Token → Bool
is_word word t = same_name (text_of t) word

-- ---- where a stretch of tokens may end

-- the prelude of an at-rule
abbrev pub ends_prelude : Token → Bool
ends_prelude t = is_semicolon t.kind || is_left_brace t.kind

-- a selector
abbrev pub ends_selector : Token → Bool
ends_selector t = is_left_brace t.kind

-- what stands in a block
abbrev pub ends_block : Token → Bool
ends_block t = is_brace t.kind

-- a declaration
abbrev pub ends_declaration : Token → Bool
ends_declaration t = is_semicolon t.kind

-- an entry of a media list
abbrev pub ends_entry : Token → Bool
ends_entry = is_comma
