-- A piece of a kind leads the scanner to a state of this kind or of an earlier one.
use Rattle.std.proofs.Common.{◌≡◌, ℕ, ◌-◌, ◌==◌, nat_lt, ◌≤◌, true, false, List, [], ◌∷◌, ◌++◌, length, Some, refl, sym, ◌∙◌, ap, ◌⊎◌, inl, inr, arith}
use Rattle.std.proofs.lemmas.Bool.Decides.{nat_tests}
use Rattle.viz_base.specs.declared.tokens.TokenKind.{TokenKind}
use Rattle.viz_base.specs.declared.tokens.TokenKind.TheVariants.{Ident, AtKeyword, Str, BadString, BadUri, BadComment, Hash, Number, Percentage, Dimension, Uri, UnicodeRange, Cdo, Cdc, Colon, Semicolon, LeftBrace, RightBrace, LeftParen, RightParen, LeftBracket, RightBracket, Space, Comment, Function, Includes, DashMatch, Delim}
use Rattle.css_semantics.specs.TokensLetters.{is_hex, is_space, is_start, is_u, is_range}
use Rattle.css_semantics.specs.TokensMacros.{One, Mark, Then, Maybe, Each, OneOrMore, UpToSix, IsIdent, IsName, IsNum}
use Rattle.css_semantics.specs.TokensTable.{Matches, row_of}
use Rattle.css_token.specs.declared.states.State.{State}
use Rattle.css_token.specs.declared.states.State.TheVariants.{Begin, At, HashMark, Spaces, UPlus, RangeFirst, RangeDash, RangeSecond}
use Rattle.css_token.specs.declared.states.Row.{Row}
use Rattle.css_token.specs.declared.states.Row.TheVariants.{AtWord, Name, Measure}
use Rattle.css_token.specs.steps.Scan.{kind_in_row}
use Rattle.css_token.proofs.Reading.{reads}
use Rattle.css_token.proofs.Rows.{Passed, ready_kind}
use Rattle.css_token.proofs.Words.{at_passes, hash_passes, num_counts, number_reads, measure_passes, ident_spells, wordy_kind, wordy_open}
use Rattle.css_token.proofs.Quotes.{nothing_more, string_reads, bad_string_reads, bad_uri_reads, uri_reads, bad_comment_reads, comment_reads}

row_reads : (state : State) (row : Row) (piece : List ℕ) → Passed state row piece → reads state piece ≡ Some (kind_in_row row)
row_reads state row piece x = sym (nothing_more state piece) ∙ (x.same [] ∙ ready_kind row x.after x.ready)

ident_reads : (piece : List ℕ) → IsIdent piece → reads Begin piece ≡ Some Ident
ident_reads piece i = let x = ident_spells piece i in sym (nothing_more Begin piece) ∙ (x.same [] ∙ wordy_kind x.after x.wordy)

at_reads : (piece : List ℕ) → Then (Mark 64) IsIdent piece → reads Begin piece ≡ Some AtKeyword
at_reads piece m = ap (reads Begin) (m.whole ∙ ap (λ f. f ++ m.back) m.first) ∙ row_reads At AtWord m.back (at_passes m.back m.second)

hash_reads : (piece : List ℕ) → Then (Mark 35) IsName piece → reads Begin piece ≡ Some Hash
hash_reads piece m = ap (reads Begin) (m.whole ∙ ap (λ f. f ++ m.back) m.first) ∙ row_reads HashMark Name m.back (hash_passes m.back m.second)

number_is : (piece : List ℕ) → IsNum piece → reads Begin piece ≡ Some Number
number_is piece n = let x = num_counts piece n in sym (nothing_more Begin piece) ∙ (x.same [] ∙ (number_reads x.after x.is).0)

percentage_reads : (piece : List ℕ) → Then IsNum (Mark 37) piece → reads Begin piece ≡ Some Percentage
percentage_reads piece m =
    let x = num_counts m.front m.first in
    ap (reads Begin) (m.whole ∙ ap (λ b. m.front ++ b) m.second) ∙ (x.same (37 ∷ []) ∙ (number_reads x.after x.is).1)

dimension_reads : (piece : List ℕ) → Then IsNum IsIdent piece → reads Begin piece ≡ Some Dimension
dimension_reads piece m =
    let x = num_counts m.front m.first in
    ap (reads Begin) m.whole ∙ (x.same m.back ∙ row_reads x.after Measure m.back (measure_passes x.after m.back x.is m.second))

-- ---- ranges

range_first : (left : ℕ) (piece t : List ℕ) → Each is_range piece → length piece ≤ left → (n : ℕ) × (reads (RangeFirst left) (piece ++ t) ≡ reads (RangeFirst n) t)
range_first left [] t each le = (left, refl)
range_first left (c ∷ piece) t each le =
    let more : nat_lt 0 left ≡ true = grind (arith, nat_tests) in
    let x = range_first (left - 1) piece t each.1 (omega arith) in
    (x.0, rw (each.0, more) x.1)

range_second : (left : ℕ) (piece : List ℕ) → Each is_hex piece → length piece ≤ left → reads (RangeSecond left) piece ≡ Some UnicodeRange
range_second left [] each le = refl
range_second left (c ∷ piece) each le =
    let more : nat_lt 0 left ≡ true = grind (arith, nat_tests) in
    rw (each.0, more) (range_second (left - 1) piece each.1 (omega arith))

after_plus : (piece t : List ℕ) → UpToSix is_range piece → (n : ℕ) × (reads UPlus (piece ++ t) ≡ reads (RangeFirst n) t)
after_plus [] t six = absurd (omega (arith, six.0))
after_plus (c ∷ piece) t six = let x = range_first 5 piece t six.2.1 (omega (arith, six.1)) in (x.0, rw six.2.0 x.1)

after_dash : (piece : List ℕ) → UpToSix is_hex piece → reads RangeDash piece ≡ Some UnicodeRange
after_dash [] six = absurd (omega (arith, six.0))
after_dash (c ∷ piece) six = rw six.2.0 (range_second 5 piece six.2.1 (omega (arith, six.1)))

range_end : (n : ℕ) (piece : List ℕ) → Maybe (Then (Mark 45) (UpToSix is_hex)) piece → reads (RangeFirst n) piece ≡ Some UnicodeRange
range_end n piece (inl e) = rw e refl
range_end n piece (inr m) = ap (reads (RangeFirst n)) (m.whole ∙ ap (λ f. f ++ m.back) m.first) ∙ after_dash m.back m.second

range_reads : (piece : List ℕ) → Then (One is_u) (Then (Mark 43) (Then (UpToSix is_range) (Maybe (Then (Mark 45) (UpToSix is_hex))))) piece → reads Begin piece ≡ Some UnicodeRange
range_reads piece m =
    let r = m.second.second in
    let x = after_plus r.front r.back r.first in
    let parts : piece ≡ m.first.0 ∷ 43 ∷ (r.front ++ r.back) = m.whole ∙ (ap (λ f. f ++ m.back) m.first.1 ∙ ap (λ b. m.first.0 ∷ b) (m.second.whole ∙ (ap (λ f. f ++ m.second.back) m.second.first ∙ ap (λ b. 43 ∷ b) r.whole))) in
    ap (reads Begin) parts ∙ rw m.first.2 (x.1 ∙ range_end x.0 r.back r.second)

-- ---- white space

space_first : (c : ℕ) → is_space c ≡ true → (is_u c ≡ false) × (is_start c ≡ false) × ((c == 92) ≡ false)
space_first c h = (grind (arith, nat_tests), grind (arith, nat_tests), grind (arith, nat_tests))

spaces_on : (piece : List ℕ) → Each is_space piece → reads Spaces piece ≡ Some Space
spaces_on [] each = refl
spaces_on (c ∷ piece) each = rw each.0 (spaces_on piece each.1)

space_reads : (piece : List ℕ) → OneOrMore is_space piece → reads Begin piece ≡ Some Space
space_reads [] some = absurd (omega (arith, some.0))
space_reads (c ∷ piece) some = let n = space_first c some.1.0 in rw (n.0, n.1, n.2, some.1.0) (spaces_on piece some.1.1)

-- ---- the whole table

function_reached : (piece : List ℕ) → Then IsIdent (Mark 40) piece → (k : TokenKind) × (reads Begin piece ≡ Some k) × (row_of k ≤ row_of Function)
function_reached piece m =
    let x = ident_spells m.front m.first in
    let o = wordy_open x.after x.wordy in
    (o.0, ap (reads Begin) (m.whole ∙ ap (λ b. m.front ++ b) m.second) ∙ (x.same (40 ∷ []) ∙ o.1), o.2)

pub reached : (kind : TokenKind) (piece : List ℕ) → Matches kind piece → ((length piece ≡ 1) × (row_of kind ≡ 27)) ⊎ ((k : TokenKind) × (reads Begin piece ≡ Some k) × (row_of k ≤ row_of kind))
reached Ident piece m = inr (Ident, ident_reads piece m, omega arith)
reached AtKeyword piece m = inr (AtKeyword, at_reads piece m, omega arith)
reached Str piece m = inr (Str, string_reads piece m, omega arith)
reached BadString piece m = inr (BadString, bad_string_reads piece m, omega arith)
reached BadUri piece m = inr (BadUri, bad_uri_reads piece m, omega arith)
reached BadComment piece m = inr (BadComment, bad_comment_reads piece m, omega arith)
reached Hash piece m = inr (Hash, hash_reads piece m, omega arith)
reached Number piece m = inr (Number, number_is piece m, omega arith)
reached Percentage piece m = inr (Percentage, percentage_reads piece m, omega arith)
reached Dimension piece m = inr (Dimension, dimension_reads piece m, omega arith)
reached Uri piece m = inr (Uri, uri_reads piece m, omega arith)
reached UnicodeRange piece m = inr (UnicodeRange, range_reads piece m, omega arith)
reached Cdo piece m = inr (Cdo, rw m refl, omega arith)
reached Cdc piece m = inr (Cdc, rw m refl, omega arith)
reached Colon piece m = inr (Colon, rw m refl, omega arith)
reached Semicolon piece m = inr (Semicolon, rw m refl, omega arith)
reached LeftBrace piece m = inr (LeftBrace, rw m refl, omega arith)
reached RightBrace piece m = inr (RightBrace, rw m refl, omega arith)
reached LeftParen piece m = inr (LeftParen, rw m refl, omega arith)
reached RightParen piece m = inr (RightParen, rw m refl, omega arith)
reached LeftBracket piece m = inr (LeftBracket, rw m refl, omega arith)
reached RightBracket piece m = inr (RightBracket, rw m refl, omega arith)
reached Space piece m = inr (Space, space_reads piece m, omega arith)
reached Comment piece m = inr (Comment, comment_reads piece m, omega arith)
reached Function piece m = inr (function_reached piece m)
reached Includes piece m = inr (Includes, rw m refl, omega arith)
reached DashMatch piece m = inr (DashMatch, rw m refl, omega arith)
reached Delim piece m = inl (m, refl)
