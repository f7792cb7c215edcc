-- The scanner as an automaton: its states, its steps, and the longest piece that it takes.
use Rattle.std.specs.Prelude.{ℕ, ◌-◌, ◌==◌, nat_lt, Bool, true, false, ◌&&◌, List, [], ◌∷◌, Option, Some, None, if◌then◌else◌}
use Rattle.std.specs.Option.{option_map_or}
use Rattle.viz_base.specs.declared.tokens.TokenKind.{TokenKind}
use Rattle.viz_base.specs.declared.tokens.TokenKind.TheVariants.{Ident, AtKeyword, Str, BadString, BadUri, BadComment, Hash, Number, Percentage, Dimension, Uri, UnicodeRange, Cdo, Cdc, Colon, Semicolon, LeftBrace, RightBrace, LeftParen, RightParen, LeftBracket, RightBracket, Space, Comment, Function, Includes, DashMatch, Delim}
use Rattle.css_semantics.specs.TokensLetters.{is_digit, is_hex, is_newline, is_space, is_start, is_name, is_quoted, is_url, is_u, is_r, is_l, is_range}
use Rattle.css_token.specs.declared.states.Quote.{Quote}
use Rattle.css_token.specs.declared.states.Quote.TheVariants.{Double, Single}
use Rattle.css_token.specs.declared.states.Row.{Row}
use Rattle.css_token.specs.declared.states.Row.TheVariants.{Word, AtWord, Name, Measure, Quoted, Address, QuotedAddress}
use Rattle.css_token.specs.declared.states.Going.{Going}
use Rattle.css_token.specs.declared.states.Going.TheVariants.{Plain, Backslash, Digits, Return}
use Rattle.css_token.specs.declared.states.State.{State}
use Rattle.css_token.specs.declared.states.State.TheVariants.{Begin, End, Within, U, Ur, Url, UPlus, RangeFirst, RangeDash, RangeSecond, Dash, DashDash, At, AtDash, HashMark, Whole, Point, Fraction, NumberDash, Solidus, InComment, Star, Less, LessBang, LessBangDash, Tilde, Bar, Spaces, AddressStart, AddressEnd}

abbrev pub mark_of : Quote → ℕ
mark_of Double = 34
mark_of Single = 39

-- what stands for itself in a row
abbrev pub goes_on : Row → ℕ → Bool
goes_on Word c = is_name c
goes_on AtWord c = is_name c
goes_on Name c = is_name c
goes_on Measure c = is_name c
goes_on (Quoted quote) c = is_quoted (mark_of quote) c
goes_on Address c = is_url c
goes_on (QuotedAddress quote) c = is_quoted (mark_of quote) c

-- whether a backslash takes the end of a line with it
abbrev pub holds_lines : Row → Bool
holds_lines Word = false
holds_lines AtWord = false
holds_lines Name = false
holds_lines Measure = false
holds_lines (Quoted quote) = true
holds_lines Address = false
holds_lines (QuotedAddress quote) = true

abbrev pub kind_in_row : Row → TokenKind
kind_in_row Word = Ident
kind_in_row AtWord = AtKeyword
kind_in_row Name = Hash
kind_in_row Measure = Dimension
kind_in_row (Quoted quote) = BadString
kind_in_row Address = BadUri
kind_in_row (QuotedAddress quote) = BadUri

abbrev pub kind_of_row : Row → Going → Option TokenKind
kind_of_row row Plain = Some (kind_in_row row)
kind_of_row row Backslash = if holds_lines row then Some (kind_in_row row) else None
kind_of_row row (Digits left) = Some (kind_in_row row)
kind_of_row row Return = Some (kind_in_row row)

-- of which kind what has been read so far is, if it is of one
abbrev pub kind_of : State → Option TokenKind
kind_of Begin = None
kind_of (End kind) = Some kind
kind_of (Within row going) = kind_of_row row going
kind_of U = Some Ident
kind_of Ur = Some Ident
kind_of Url = Some Ident
kind_of UPlus = None
kind_of (RangeFirst left) = Some UnicodeRange
kind_of RangeDash = None
kind_of (RangeSecond left) = Some UnicodeRange
kind_of Dash = None
kind_of DashDash = None
kind_of At = None
kind_of AtDash = None
kind_of HashMark = None
kind_of Whole = Some Number
kind_of Point = None
kind_of Fraction = Some Number
kind_of NumberDash = None
kind_of Solidus = None
kind_of InComment = Some BadComment
kind_of Star = Some BadComment
kind_of Less = None
kind_of LessBang = None
kind_of LessBangDash = None
kind_of Tilde = None
kind_of Bar = None
kind_of Spaces = Some Space
kind_of AddressStart = Some BadUri
kind_of AddressEnd = Some BadUri

abbrev pub step_end : Row → ℕ → Option State
step_end Word c = if c == 40 then Some (End Function) else None
step_end AtWord c = None
step_end Name c = None
step_end Measure c = None
step_end (Quoted quote) c = if c == mark_of quote then Some (End Str) else None
step_end Address c = if is_space c then Some AddressEnd else (if c == 41 then Some (End Uri) else None)
step_end (QuotedAddress quote) c = if c == mark_of quote then Some AddressEnd else None

abbrev pub step_plain : Row → ℕ → Option State
step_plain row c =
    if c == 92 then Some (Within row Backslash) else (if goes_on row c then Some (Within row Plain) else step_end row c)

abbrev pub step_line : Row → ℕ → Option State
step_line row c =
    if holds_lines row then (if c == 13 then Some (Within row Return) else Some (Within row Plain)) else None

abbrev pub step_row : Row → Going → ℕ → Option State
step_row row Plain c = step_plain row c
step_row row Backslash c =
    if is_hex c then Some (Within row (Digits 5))
    else (if is_newline c then step_line row c else Some (Within row Plain))
step_row row (Digits left) c =
    if is_hex c && nat_lt 0 left then Some (Within row (Digits (left - 1)))
    else (if c == 13 then Some (Within row Return)
    else (if is_space c then Some (Within row Plain) else step_plain row c))
step_row row Return c = if c == 10 then Some (Within row Plain) else step_plain row c

-- the first character of an identifier
abbrev pub step_start : Row → ℕ → Option State
step_start row c =
    if is_start c then Some (Within row Plain) else (if c == 92 then Some (Within row Backslash) else None)

-- behind a number
abbrev pub step_unit : ℕ → Option State
step_unit c =
    if c == 37 then Some (End Percentage) else (if c == 45 then Some NumberDash else step_start Measure c)

abbrev pub step_mark : ℕ → Option State
step_mark c =
    if c == 58 then Some (End Colon)
    else (if c == 59 then Some (End Semicolon) else (if c == 123 then Some (End LeftBrace)
    else (if c == 125 then Some (End RightBrace)
    else (if c == 40 then Some (End LeftParen) else (if c == 41 then Some (End RightParen)
    else (if c == 91 then Some (End LeftBracket) else (if c == 93 then Some (End RightBracket) else None)))))))

abbrev pub step_sign : ℕ → Option State
step_sign c =
    if c == 46 then Some Point else (if c == 45 then Some Dash else (if c == 34 then Some (Within (Quoted Double) Plain)
    else (if c == 39 then Some (Within (Quoted Single) Plain)
    else (if c == 35 then Some HashMark else (if c == 64 then Some At
    else (if c == 47 then Some Solidus else (if c == 60 then Some Less else (if c == 126 then Some Tilde
    else (if c == 124 then Some Bar else step_mark c)))))))))

abbrev pub step_begin : ℕ → Option State
step_begin c =
    if is_u c then Some U
    else (if is_start c then Some (Within Word Plain) else (if c == 92 then Some (Within Word Backslash)
    else (if is_space c then Some Spaces else (if is_digit c then Some Whole else step_sign c))))

-- the state behind one more character, if the piece may go on with it
abbrev pub step : State → ℕ → Option State
step Begin c = step_begin c
step (End kind) c = None
step (Within row going) c = step_row row going c
step U c = if c == 43 then Some UPlus else (if is_r c then Some Ur else step_plain Word c)
step Ur c = if is_l c then Some Url else step_plain Word c
step Url c = if c == 40 then Some AddressStart else step_plain Word c
step UPlus c = if is_range c then Some (RangeFirst 5) else None
step (RangeFirst left) c =
    if is_range c && nat_lt 0 left then Some (RangeFirst (left - 1)) else (if c == 45 then Some RangeDash else None)
step RangeDash c = if is_hex c then Some (RangeSecond 5) else None
step (RangeSecond left) c = if is_hex c && nat_lt 0 left then Some (RangeSecond (left - 1)) else None
step Dash c = if c == 45 then Some DashDash else step_start Word c
step DashDash c = if c == 62 then Some (End Cdc) else None
step At c = if c == 45 then Some AtDash else step_start AtWord c
step AtDash c = step_start AtWord c
step HashMark c = step_plain Name c
step Whole c = if is_digit c then Some Whole else (if c == 46 then Some Point else step_unit c)
step Point c = if is_digit c then Some Fraction else None
step Fraction c = if is_digit c then Some Fraction else step_unit c
step NumberDash c = step_start Measure c
step Solidus c = if c == 42 then Some InComment else None
step InComment c = if c == 42 then Some Star else Some InComment
step Star c = if c == 47 then Some (End Comment) else (if c == 42 then Some Star else Some InComment)
step Less c = if c == 33 then Some LessBang else None
step LessBang c = if c == 45 then Some LessBangDash else None
step LessBangDash c = if c == 45 then Some (End Cdo) else None
step Tilde c = if c == 61 then Some (End Includes) else None
step Bar c = if c == 61 then Some (End DashMatch) else None
step Spaces c = if is_space c then Some Spaces else None
step AddressStart c =
    if is_space c then Some AddressStart else (if c == 34 then Some (Within (QuotedAddress Double) Plain)
    else (if c == 39 then Some (Within (QuotedAddress Single) Plain) else step_plain Address c))
step AddressEnd c = if is_space c then Some AddressEnd else (if c == 41 then Some (End Uri) else None)

-- the kind of a piece, and what follows it
abbrev pub Cut : Type 0
Cut = TokenKind × List ℕ

abbrev pub better : Option TokenKind → List ℕ → Cut → Cut
better None rest best = best
better (Some kind) rest best = (kind, rest)

-- the last place at which what has been read is of a kind, or the best of before
abbrev pub longest : State → List ℕ → Cut → Cut
longest state [] best = best
longest state (c ∷ cs) best =
    option_map_or (λ next. longest next cs (better (kind_of next) cs best)) (step state c) best

-- the longest piece at the front of a text that isn't empty, the first character being a piece in any case
abbrev pub cut_of : List ℕ → Cut
cut_of [] = (Delim, [])
cut_of (c ∷ cs) = longest Begin (c ∷ cs) (Delim, cs)
