-- The words on lists of tokens that the grammars of sheets and of values cite, computed.
use Rattle.std.specs.Prelude.{ℕ, ◌+◌, ◌-◌, Bool, true, false, not, ◌&&◌, ◌||◌, List, [], ◌∷◌, ◌++◌, length, take, drop, Option, Some, None, slice_get, slice_set, if◌then◌else◌, codes, zero, suc}
use Rattle.std.specs.List.{prefix_len, suffix_len}
use Rattle.css_semantics.specs.Pieces.{Token}
use Rattle.viz_base.specs.declared.tokens.TokenKind.{TokenKind}
use Rattle.viz_base.specs.declared.tokens.TokenKind.TheVariants.{BadString, BadUri, Str, Uri}
use Rattle.viz_base.specs.declared.sheets.Decl.{Decl}
use Rattle.css_semantics.specs.SheetsMarks.{closing_mark, is_mark, is_paren, is_bracket, is_brace, is_ident, is_semicolon, is_comment_mark, is_space, is_gap, is_bad, is_bang, text_of, is_word}

-- ---- stretches

-- the marks that are still awaited behind a token, the innermost first
abbrev pub passed : TokenKind → List TokenKind → List TokenKind
passed kind [] = []
passed kind (m ∷ marks) = if is_mark m kind then marks else m ∷ marks

abbrev pub opened : Option TokenKind → TokenKind → List TokenKind → List TokenKind
opened None kind marks = passed kind marks
opened (Some m) kind marks = m ∷ marks

abbrev pub awaited : TokenKind → List TokenKind → List TokenKind
awaited kind marks = opened (closing_mark kind) kind marks

abbrev pub is_none : List TokenKind → Bool
is_none [] = true
is_none (m ∷ marks) = false

-- how many tokens stand before the first that stops outside all pairs
abbrev pub stretch_len : (Token → Bool) → List TokenKind → List Token → ℕ
stretch_len stop marks [] = 0
stretch_len stop marks (t ∷ ts) = if is_none marks && stop t then 0 else 1 + stretch_len stop (awaited t.kind marks) ts

-- ---- one after another

-- What each item gives, joined: an item begins with the token t and ends where what follows it begins. The number is
-- how many tokens of an item are still to be passed.
abbrev pub gathered : {A : Type 0} → (Token → List Token → List A) → (Token → List Token → List Token) → ℕ
    → List Token → List A
gathered item after n [] = []
gathered item after (suc n) (t ∷ ts) = gathered item after n ts
gathered item after zero (t ∷ ts) = item t ts ++ gathered item after (length ts - length (after t ts)) ts

-- ---- slices

abbrev pub trim_start : (TokenKind → Bool) → List Token → List Token
trim_start test ts = drop (prefix_len (λ t. test t.kind) ts) ts

abbrev pub trim_end : (TokenKind → Bool) → List Token → List Token
trim_end test ts = take (length ts - suffix_len (λ t. test t.kind) ts) ts

abbrev pub trimmed : (TokenKind → Bool) → List Token → List Token
trimmed test ts = trim_end test (trim_start test ts)

-- the place of the first of these tokens, or this one where there is none
abbrev pub start_of : ℕ → List Token → ℕ
start_of place [] = place
start_of place (t ∷ ts) = t.at

abbrev pub end_of : Option Token → ℕ
end_of None = 0
end_of (Some t) = t.at + length t.text

-- how many bytes they span
abbrev pub extent : List Token → ℕ
extent ts = end_of (slice_get ts (length ts - 1)) - start_of 0 ts

-- ---- declarations

abbrev pub is_closing : TokenKind → Bool
is_closing kind = is_paren kind || is_bracket kind || is_brace kind

-- whether a token that neither opens nor closes a pair may stand in a value, within a pair of this mark
abbrev pub may_stand : List TokenKind → TokenKind → Bool
may_stand [] kind = not (is_bad kind) && not (is_comment_mark kind) && not (is_semicolon kind)
may_stand (m ∷ marks) kind = not (is_bad kind) && (not (is_brace m) || not (is_comment_mark kind))

-- the marks that are awaited behind the next token of a value, if it may stand there
abbrev pub value_closed : TokenKind → List TokenKind → Option (List TokenKind)
value_closed kind [] = None
value_closed kind (m ∷ marks) = if is_mark m kind then Some marks else None

abbrev pub value_opened : Option TokenKind → TokenKind → List TokenKind → Option (List TokenKind)
value_opened (Some m) kind marks = if is_bad kind then None else Some (m ∷ marks)
value_opened None kind marks = if is_closing kind then value_closed kind marks
    else (if may_stand marks kind then Some marks else None)

abbrev pub value_step : TokenKind → List TokenKind → Option (List TokenKind)
value_step kind marks = value_opened (closing_mark kind) kind marks

abbrev pub if_some : Option (List TokenKind) → (List TokenKind → Bool) → Bool
if_some None f = false
if_some (Some marks) f = f marks

abbrev pub goes_on : List TokenKind → List Token → Bool
goes_on marks [] = true
goes_on marks (t ∷ ts) = if_some (value_step t.kind marks) (λ next. goes_on next ts)

-- what stands before `!important`, and the place of its `!`
abbrev pub before_bang : List Token → Option Token → Option (List Token × ℕ)
before_bang ts None = None
before_bang ts (Some t) = if is_bang t then Some (take (length ts - 1) ts, t.at) else None

abbrev pub before_last : List Token → Option (List Token × ℕ)
before_last ts = before_bang ts (slice_get ts (length ts - 1))

abbrev pub before_word : List Token → Option Token → Option (List Token × ℕ)
before_word ts None = None
before_word ts (Some t) = if is_ident t.kind && is_word (codes "important") t
    then before_last (trim_end is_gap (take (length ts - 1) ts)) else None

abbrev pub before_trimmed : List Token → Option (List Token × ℕ)
before_trimmed ts = before_word ts (slice_get ts (length ts - 1))

-- the marks that are still awaited behind these tokens, the innermost first
abbrev pub still_awaited : List TokenKind → List Token → List TokenKind
still_awaited marks [] = marks
still_awaited marks (t ∷ ts) = still_awaited (awaited t.kind marks) ts

-- no bracket that is opened in these tokens is still open behind them
abbrev pub is_closed : List Token → Bool
is_closed ts = is_none (still_awaited [] ts)

-- `!important` counts where it stands in no bracket, also in none that only
-- the end of the text closes (CSS 2.1, 4.2 and 6.4.2)
abbrev pub before_important : List Token → Option (List Token × ℕ)
before_important ts = if is_closed ts then before_trimmed (trim_end is_gap ts) else None

-- the declaration of a property with these tokens as value, or this place where there are none
abbrev pub decl_of : Token → List Token → ℕ → Bool → Decl
decl_of name value place important =
    record { name = text_of name; at = start_of place value; len = extent value; important = important }

abbrev pub declared_at : Token → List Token → Option (List Token × ℕ) → Decl
declared_at name body None = decl_of name (trimmed is_space body) 0 false
declared_at name body (Some p) = decl_of name (trimmed is_space p.0) p.1 true

abbrev pub is_blank : TokenKind → Bool
is_blank kind = is_gap kind || is_semicolon kind

-- ---- statements

abbrev pub is_between : TokenKind → Bool
is_between kind = is_gap kind || is_comment_mark kind

-- ---- the end of the text

-- The end of the text closes a string or an address that is open there.
abbrev pub closed_kind : TokenKind → TokenKind
closed_kind BadString = Str
closed_kind BadUri = Uri
closed_kind kind = kind

abbrev pub closed_last : List Token → Option Token → List Token
closed_last ts None = ts
closed_last ts (Some t) = slice_set ts (length ts - 1) (record t { kind = closed_kind t.kind })

abbrev pub closed_by_end : List Token → List Token
closed_by_end ts = closed_last ts (slice_get ts (length ts - 1))

-- ---- the answer

pub data Refusal : Type 0 where
  import_at : ℕ → Refusal
  media_at : ℕ → Refusal
  too_many : Refusal
