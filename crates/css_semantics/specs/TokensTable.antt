-- The table of tokens (CSS 2.1, 4.1.1): which pieces of text are of each kind.
use Rattle.std.specs.Prelude.{◌≡◌, ℕ, ◌⊎◌, List, length, codes}
use Rattle.viz_base.specs.declared.tokens.TokenKind.{TokenKind}
use Rattle.viz_base.specs.declared.tokens.TokenKind.TheVariants.{Ident, AtKeyword, Str, BadString, BadUri, BadComment, Hash, Number, Percentage, Dimension, Uri, UnicodeRange, Cdo, Cdc, Colon, Semicolon, LeftBrace, RightBrace, LeftParen, RightParen, LeftBracket, RightBracket, Space, Comment, Function, Includes, DashMatch, Delim}
use Rattle.css_semantics.specs.TokensLetters.{is_space, is_hex, is_u, is_r, is_l, is_range}
use Rattle.css_semantics.specs.TokensMacros.{One, Text, Then, Maybe, OneOrMore, UpToSix, IsWhite, IsIdent, IsName, IsNum, IsString, IsBadString, IsUrl, IsOpen}

-- `url(`, its letters in either case
abbrev pub IsUrlOpening : List ℕ → Type 0
IsUrlOpening = Then (One is_u) (Then (One is_r) (Then (One is_l) (Text (codes "("))))

-- an address that is closed, behind `url(` and white space
abbrev pub IsAddress : List ℕ → Type 0
IsAddress piece = IsString piece ⊎ IsUrl piece

-- one that is not closed: baduri1, baduri2, baduri3
abbrev pub IsBadAddress : List ℕ → Type 0
IsBadAddress piece = Then IsUrl IsWhite piece ⊎ (Then IsString IsWhite piece ⊎ IsBadString piece)

-- `/*` and `*/`
abbrev pub IsCommentStart : List ℕ → Type 0
IsCommentStart piece = piece ≡ codes "/*"

abbrev pub IsCommentEnd : List ℕ → Type 0
IsCommentEnd piece = piece ≡ codes "*/"

abbrev pub Matches : TokenKind → List ℕ → Type 0
Matches Ident piece = IsIdent piece
Matches AtKeyword piece = Then (Text (codes "@")) IsIdent piece
Matches Str piece = IsString piece
Matches BadString piece = IsBadString piece
Matches BadUri piece = Then IsUrlOpening (Then IsWhite IsBadAddress) piece
Matches BadComment piece = Then IsCommentStart IsOpen piece
Matches Hash piece = Then (Text (codes "#")) IsName piece
Matches Number piece = IsNum piece
Matches Percentage piece = Then IsNum (Text (codes "%")) piece
Matches Dimension piece = Then IsNum IsIdent piece
Matches Uri piece = Then IsUrlOpening (Then IsWhite (Then IsAddress (Then IsWhite (Text (codes ")"))))) piece
Matches UnicodeRange piece =
    Then (One is_u) (Then (Text (codes "+"))
    (Then (UpToSix is_range) (Maybe (Then (Text (codes "-")) (UpToSix is_hex))))) piece
Matches Cdo piece = piece ≡ codes "<!--"
Matches Cdc piece = piece ≡ codes "-->"
Matches Colon piece = piece ≡ codes ":"
Matches Semicolon piece = piece ≡ codes ";"
Matches LeftBrace piece = piece ≡ codes "{"
Matches RightBrace piece = piece ≡ codes "}"
Matches LeftParen piece = piece ≡ codes "("
Matches RightParen piece = piece ≡ codes ")"
Matches LeftBracket piece = piece ≡ codes "["
Matches RightBracket piece = piece ≡ codes "]"
Matches Space piece = OneOrMore is_space piece
Matches Comment piece = Then IsCommentStart (Then IsOpen IsCommentEnd) piece
Matches Function piece = Then IsIdent (Text (codes "(")) piece
Matches Includes piece = piece ≡ codes "~="
Matches DashMatch piece = piece ≡ codes "|="
Matches Delim piece = length piece ≡ 1

-- the order of the table
abbrev pub row_of : TokenKind → ℕ
row_of Ident = 0
row_of AtKeyword = 1
row_of Str = 2
row_of BadString = 3
row_of BadUri = 4
row_of BadComment = 5
row_of Hash = 6
row_of Number = 7
row_of Percentage = 8
row_of Dimension = 9
row_of Uri = 10
row_of UnicodeRange = 11
row_of Cdo = 12
row_of Cdc = 13
row_of Colon = 14
row_of Semicolon = 15
row_of LeftBrace = 16
row_of RightBrace = 17
row_of LeftParen = 18
row_of RightParen = 19
row_of LeftBracket = 20
row_of RightBracket = 21
row_of Space = 22
row_of Comment = 23
row_of Function = 24
row_of Includes = 25
row_of DashMatch = 26
row_of Delim = 27
