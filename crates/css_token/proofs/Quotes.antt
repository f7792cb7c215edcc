-- Strings, addresses and comments lead the scanner to states of their kinds.
use Rattle.std.proofs.Common.{◌≡◌, ℕ, ◌==◌, true, false, nat_lt, List, [], ◌∷◌, ◌++◌, Some, refl, sym, ◌∙◌, ap, subst, ◌⊎◌, inl, inr, arith}
use Rattle.std.specs.List.{AllByRecursion, concat}
use Rattle.std.proofs.lemmas.Bool.Decides.{nat_tests}
use Rattle.std.proofs.lemmas.List.{append_assoc, append-nil}
use Rattle.std.proofs.lemmas.Bool.{and_left, eqb-true}
use Rattle.viz_base.specs.declared.tokens.TokenKind.{TokenKind}
use Rattle.viz_base.specs.declared.tokens.TokenKind.TheVariants.{Str, BadString, BadUri, BadComment, Uri, Comment}
use Rattle.viz_base.proofs.Truths.{by_bool}
use Rattle.css_semantics.specs.TokensLetters.{is_hex, is_space, is_url, is_u, is_r, is_l}
use Rattle.css_semantics.specs.TokensMacros.{Mark, Then, Maybe, Many, IsWhite, OneOrEscape, IsQuoted, IsStringIn, IsString, IsBadStringIn, IsBadString, IsUrl, IsOpen}
use Rattle.css_semantics.specs.TokensTable.{IsUrlOpening, IsAddress, IsBadAddress}
use Rattle.css_token.specs.declared.states.Row.{Row}
use Rattle.css_token.specs.declared.states.Row.TheVariants.{Quoted, Address, QuotedAddress}
use Rattle.css_token.specs.declared.states.Quote.{Quote}
use Rattle.css_token.specs.declared.states.Quote.TheVariants.{Double, Single}
use Rattle.css_token.specs.declared.states.Going.{Going}
use Rattle.css_token.specs.declared.states.Going.TheVariants.{Plain, Backslash, Digits, Return}
use Rattle.css_token.specs.declared.states.State.{State}
use Rattle.css_token.specs.declared.states.State.TheVariants.{Begin, Within, AddressStart, AddressEnd, InComment, Star}
use Rattle.css_token.specs.steps.Scan.{mark_of, step}
use Rattle.css_token.proofs.Reading.{reads}
use Rattle.css_token.proofs.Rows.{apart, InRow, Ready, Passed, escape_passes, then_passes, units_pass, many_passes, each_to, ready_kind}

-- ---- strings

in_quoted : (quote : Quote) (u : List ℕ) → IsQuoted (mark_of quote) u → InRow (Quoted quote) u
in_quoted quote u (inl o) = inl o
in_quoted quote u (inr (inl l)) = inr (inl (record { holds = refl; line = l }))
in_quoted quote u (inr (inr e)) = inr (inr e)

in_quoted_address : (quote : Quote) (u : List ℕ) → IsQuoted (mark_of quote) u → InRow (QuotedAddress quote) u
in_quoted_address quote u (inl o) = inl o
in_quoted_address quote u (inr (inl l)) = inr (inl (record { holds = refl; line = l }))
in_quoted_address quote u (inr (inr e)) = inr (inr e)

first_quote : (quote : Quote) → step Begin (mark_of quote) ≡ Some (Within (Quoted quote) Plain)
first_quote Double = refl
first_quote Single = refl

-- behind the first quote
quoted_passes : (quote : Quote) (piece : List ℕ) → Many (IsQuoted (mark_of quote)) piece → Passed (Within (Quoted quote) Plain) (Quoted quote) piece
quoted_passes quote piece m = many_passes (IsQuoted (mark_of quote)) (Quoted quote) Plain piece (in_quoted quote) tt m

quoted_closes : (quote : Quote) (g : Going) → Ready g → reads (Within (Quoted quote) g) (mark_of quote ∷ []) ≡ Some Str
quoted_closes Double Plain h = refl
quoted_closes Double Backslash h = absurd h
quoted_closes Double (Digits left) h = refl
quoted_closes Double Return h = refl
quoted_closes Single Plain h = refl
quoted_closes Single Backslash h = absurd h
quoted_closes Single (Digits left) h = refl
quoted_closes Single Return h = refl

slash_last : (quote : Quote) (g : Going) → Ready g → reads (Within (Quoted quote) g) (92 ∷ []) ≡ Some BadString
slash_last quote Plain h = refl
slash_last quote Backslash h = absurd h
slash_last quote (Digits left) h = refl
slash_last quote Return h = refl

-- a piece of a mark, a row and an end, read from a state that goes on with the mark
framed : (state next : State) (row : Row) (c : ℕ) (piece front body back end : List ℕ) (k : TokenKind) → piece ≡ front ++ back → front ≡ c ∷ [] → back ≡ body ++ end → step state c ≡ Some next → (x : Passed next row body) → reads (Within row x.after) end ≡ Some k → reads state piece ≡ Some k
framed state next row c piece front body back end k whole first second goes x is =
    ap (reads state) (whole ∙ (ap (λ f. f ++ back) first ∙ ap (λ b. c ∷ b) second)) ∙ rw goes (x.same end ∙ is)

string_reads_in : (quote : Quote) (piece : List ℕ) → IsStringIn (mark_of quote) piece → reads Begin piece ≡ Some Str
string_reads_in quote piece s =
    let x = quoted_passes quote s.second.front s.second.first in
    framed Begin (Within (Quoted quote) Plain) (Quoted quote) (mark_of quote) piece s.front s.second.front s.back (mark_of quote ∷ []) Str s.whole s.first
    (s.second.whole ∙ ap (λ e. s.second.front ++ e) s.second.second) (first_quote quote) x (quoted_closes quote x.after x.ready)

pub string_reads : (piece : List ℕ) → IsString piece → reads Begin piece ≡ Some Str
string_reads piece (inl s) = string_reads_in Double piece s
string_reads piece (inr s) = string_reads_in Single piece s

bad_end : (quote : Quote) (g : Going) (end : List ℕ) → Ready g → Maybe (Mark 92) end → reads (Within (Quoted quote) g) end ≡ Some BadString
bad_end quote g end ready (inl e) = rw e (ready_kind (Quoted quote) g ready)
bad_end quote g end ready (inr e) = rw e (slash_last quote g ready)

bad_string_reads_in : (quote : Quote) (piece : List ℕ) → IsBadStringIn (mark_of quote) piece → reads Begin piece ≡ Some BadString
bad_string_reads_in quote piece s =
    let x = quoted_passes quote s.second.front s.second.first in
    framed Begin (Within (Quoted quote) Plain) (Quoted quote) (mark_of quote) piece s.front s.second.front s.back s.second.back BadString s.whole s.first
    s.second.whole (first_quote quote) x (bad_end quote x.after s.second.back x.ready s.second.second)

pub bad_string_reads : (piece : List ℕ) → IsBadString piece → reads Begin piece ≡ Some BadString
bad_string_reads piece (inl s) = bad_string_reads_in Double piece s
bad_string_reads piece (inr s) = bad_string_reads_in Single piece s

-- ---- addresses

u_apart : (c : ℕ) → is_r c ≡ true → (c == 43) ≡ false
u_apart c h = grind (arith, nat_tests)

space_apart : (c : ℕ) → is_space c ≡ true → (is_hex c ≡ false) × ((c == 92) ≡ false) × (is_url c ≡ false)
space_apart c h = (grind (arith, nat_tests), grind (arith, nat_tests), grind (arith, nat_tests))

url_starts : (c : ℕ) → is_url c ≡ true → (is_space c ≡ false) × ((c == 34) ≡ false) × ((c == 39) ≡ false)
url_starts c h = (grind (arith, nat_tests), grind (arith, nat_tests), grind (arith, nat_tests))

opening_read : (u r l : ℕ) (t : List ℕ) → is_u u ≡ true → is_r r ≡ true → is_l l ≡ true → reads Begin (u ∷ r ∷ l ∷ 40 ∷ t) ≡ reads AddressStart t
opening_read u r l t hu hr hl = rw (hu, u_apart r hr, hr, hl) refl

pub opening_reads : (piece t : List ℕ) → IsUrlOpening piece → reads Begin (piece ++ t) ≡ reads AddressStart t
opening_reads piece t o =
    let p = o.second in
    let q = p.second in
    let last : q.back ≡ 40 ∷ [] = q.second in
    let l : p.back ≡ q.first.0 ∷ 40 ∷ [] = q.whole ∙ (ap (λ f. f ++ q.back) q.first.1 ∙ ap (λ b. q.first.0 ∷ b) last) in
    let r : o.back ≡ p.first.0 ∷ q.first.0 ∷ 40 ∷ [] = p.whole ∙ (ap (λ f. f ++ p.back) p.first.1 ∙ ap (λ b. p.first.0 ∷ b) l) in
    let u : piece ≡ o.first.0 ∷ p.first.0 ∷ q.first.0 ∷ 40 ∷ [] = o.whole ∙ (ap (λ f. f ++ o.back) o.first.1 ∙ ap (λ b. o.first.0 ∷ b) r) in
    ap (λ x. reads Begin (x ++ t)) u ∙ opening_read o.first.0 p.first.0 q.first.0 t o.first.2 p.first.2 q.first.2

pub white_reads : (white t : List ℕ) → IsWhite white → reads AddressStart (white ++ t) ≡ reads AddressStart t
white_reads [] t each = refl
white_reads (c ∷ white) t each = rw each.0 (white_reads white t each.1)

-- where an address may end
abbrev pub Closing : State → Type 0
Closing state = ((going : Going) × Ready going × (state ≡ Within Address going)) ⊎ ((state ≡ AddressStart) ⊎ (state ≡ AddressEnd))

pub record Addressed (state : State) (piece : List ℕ) : Type 0 where
  pub after : State
  pub closing : Closing after
  pub same : (t : List ℕ) → reads state (piece ++ t) ≡ reads after t

row_white : (g : Going) (c : ℕ) → Ready g → is_space c ≡ true → Addressed (Within Address g) (c ∷ [])
row_white Plain c ready h =
    let n = space_apart c h in
    record { after = AddressEnd; closing = inr (inr refl); same = λ t. rw (n.1, n.2, h) refl }
row_white Backslash c ready h = absurd ready
row_white (Digits left) c ready h =
    let n = space_apart c h in
    let over = and_left (is_hex c) (nat_lt 0 left) n.0 in
    by_bool (c == 13)
    (λ e. record { after = Within Address Return; closing = inl (Return, tt, refl); same = λ t. rw (over, e) refl })
    (λ e. record { after = Within Address Plain; closing = inl (Plain, tt, refl); same = λ t. rw (over, h, e) refl })
row_white Return c ready h =
    let n = space_apart c h in
    by_bool (c == 10)
    (λ e. record { after = Within Address Plain; closing = inl (Plain, tt, refl); same = λ t. rw e refl })
    (λ e. record { after = AddressEnd; closing = inr (inr refl); same = λ t. rw (n.2, h, e, n.1) refl })

one_white : (state : State) (c : ℕ) → Closing state → is_space c ≡ true → Addressed state (c ∷ [])
one_white state c (inl x) h = subst (λ s. Addressed s (c ∷ [])) (sym x.2) (row_white x.0 c x.1 h)
one_white state c (inr (inl e)) h = subst (λ s. Addressed s (c ∷ [])) (sym e) (record { after = AddressStart; closing = inr (inl refl); same = λ t. rw h refl })
one_white state c (inr (inr e)) h = subst (λ s. Addressed s (c ∷ [])) (sym e) (record { after = AddressEnd; closing = inr (inr refl); same = λ t. rw h refl })

closing_white : (state : State) (white : List ℕ) → Closing state → IsWhite white → Addressed state white
closing_white state [] closing each = record { after = state; closing = closing; same = λ t. refl }
closing_white state (c ∷ white) closing each =
    let x = one_white state c closing each.0 in
    let y = closing_white x.after white x.closing each.1 in
    record { after = y.after; closing = y.closing; same = λ t. x.same (white ++ t) ∙ y.same t }

in_address : (u : List ℕ) → OneOrEscape is_url u → InRow Address u
in_address u (inl o) = inl o
in_address u (inr e) = inr (inr e)

first_of_address : (u : List ℕ) → OneOrEscape is_url u → Passed AddressStart Address u
first_of_address u (inl o) =
    let n = url_starts o.0 o.2 in
    record { after = Plain; ready = tt; same = λ t. ap (λ p. reads AddressStart (p ++ t)) o.1 ∙ rw (n.0, n.1, n.2, (apart Address o.0 o.2).0, o.2) refl }
first_of_address u (inr e) = escape_passes AddressStart Address u refl e

units_address : (units : List (List ℕ)) → AllByRecursion (OneOrEscape is_url) units → Addressed AddressStart (concat units)
units_address [] each = record { after = AddressStart; closing = inr (inl refl); same = λ t. refl }
units_address (u ∷ units) each =
    let x = first_of_address u each.0 in
    let y = then_passes AddressStart Address u (concat units) x (units_pass Address x.after units x.ready (each_to units in_address each.1)) in
    record { after = Within Address y.after; closing = inl (y.after, y.ready, refl); same = y.same }

url_addresses : (piece : List ℕ) → IsUrl piece → Addressed AddressStart piece
url_addresses piece m = subst (Addressed AddressStart) (sym m.whole) (units_address m.pieces m.each)

first_quote_address : (quote : Quote) → step AddressStart (mark_of quote) ≡ Some (Within (QuotedAddress quote) Plain)
first_quote_address Double = refl
first_quote_address Single = refl

quoted_address_passes : (quote : Quote) (piece : List ℕ) → Many (IsQuoted (mark_of quote)) piece → Passed (Within (QuotedAddress quote) Plain) (QuotedAddress quote) piece
quoted_address_passes quote piece m = many_passes (IsQuoted (mark_of quote)) (QuotedAddress quote) Plain piece (in_quoted_address quote) tt m

address_closes : (quote : Quote) (g : Going) (t : List ℕ) → Ready g → reads (Within (QuotedAddress quote) g) (mark_of quote ∷ t) ≡ reads AddressEnd t
address_closes Double Plain t h = refl
address_closes Double Backslash t h = absurd h
address_closes Double (Digits left) t h = refl
address_closes Double Return t h = refl
address_closes Single Plain t h = refl
address_closes Single Backslash t h = absurd h
address_closes Single (Digits left) t h = refl
address_closes Single Return t h = refl

address_slash : (quote : Quote) (g : Going) → Ready g → reads (Within (QuotedAddress quote) g) (92 ∷ []) ≡ Some BadUri
address_slash quote Plain h = refl
address_slash quote Backslash h = absurd h
address_slash quote (Digits left) h = refl
address_slash quote Return h = refl

string_addresses_in : (quote : Quote) (piece : List ℕ) → IsStringIn (mark_of quote) piece → Addressed AddressStart piece
string_addresses_in quote piece s =
    let x = quoted_address_passes quote s.second.front s.second.first in
    let parts : piece ≡ mark_of quote ∷ (s.second.front ++ (mark_of quote ∷ [])) = s.whole ∙ (ap (λ f. f ++ s.back) s.first ∙ ap (λ b. mark_of quote ∷ b) (s.second.whole ∙ ap (λ e. s.second.front ++ e) s.second.second)) in
    record {
      after = AddressEnd;
      closing = inr (inr refl);
      same = λ t. ap (λ p. reads AddressStart (p ++ t)) parts ∙ rw first_quote_address (ap (reads (Within (QuotedAddress quote) Plain)) (append_assoc s.second.front (mark_of quote ∷ []) t) ∙ (x.same (mark_of quote ∷ t) ∙ address_closes quote x.after t x.ready));
    }

string_addresses : (piece : List ℕ) → IsString piece → Addressed AddressStart piece
string_addresses piece (inl s) = string_addresses_in Double piece s
string_addresses piece (inr s) = string_addresses_in Single piece s

closing_kind : (state : State) → Closing state → reads state [] ≡ Some BadUri
closing_kind state (inl x) = rw x.2 (ready_kind Address x.0 x.1)
closing_kind state (inr (inl e)) = rw e refl
closing_kind state (inr (inr e)) = rw e refl

row_closes : (g : Going) → Ready g → reads (Within Address g) (41 ∷ []) ≡ Some Uri
row_closes Plain h = refl
row_closes Backslash h = absurd h
row_closes (Digits left) h = refl
row_closes Return h = refl

closing_closes : (state : State) → Closing state → reads state (41 ∷ []) ≡ Some Uri
closing_closes state (inl x) = rw x.2 (row_closes x.0 x.1)
closing_closes state (inr (inl e)) = rw e refl
closing_closes state (inr (inr e)) = rw e refl

address_addresses : (piece : List ℕ) → IsAddress piece → Addressed AddressStart piece
address_addresses piece (inl s) = string_addresses piece s
address_addresses piece (inr u) = url_addresses piece u

then_white : (piece : List ℕ) (x : Addressed AddressStart piece) (white : List ℕ) → IsWhite white → Addressed AddressStart (piece ++ white)
then_white piece x white w =
    let y = closing_white x.after white x.closing w in
    record { after = y.after; closing = y.closing; same = λ t. ap (reads AddressStart) (append_assoc piece white t) ∙ (x.same (white ++ t) ∙ y.same t) }

pub nothing_more : (state : State) (piece : List ℕ) → reads state (piece ++ []) ≡ reads state piece
nothing_more state piece = ap (reads state) (append-nil piece)

kind_addressed : (piece : List ℕ) → Addressed AddressStart piece → reads AddressStart piece ≡ Some BadUri
kind_addressed piece x = sym (nothing_more AddressStart piece) ∙ (x.same [] ∙ closing_kind x.after x.closing)

bad_address_end : (quote : Quote) (g : Going) (end : List ℕ) → Ready g → Maybe (Mark 92) end → reads (Within (QuotedAddress quote) g) end ≡ Some BadUri
bad_address_end quote g end ready (inl e) = rw e (ready_kind (QuotedAddress quote) g ready)
bad_address_end quote g end ready (inr e) = rw e (address_slash quote g ready)

bad_string_address : (quote : Quote) (piece : List ℕ) → IsBadStringIn (mark_of quote) piece → reads AddressStart piece ≡ Some BadUri
bad_string_address quote piece s =
    let x = quoted_address_passes quote s.second.front s.second.first in
    framed AddressStart (Within (QuotedAddress quote) Plain) (QuotedAddress quote) (mark_of quote) piece s.front s.second.front s.back s.second.back BadUri s.whole s.first
    s.second.whole (first_quote_address quote) x (bad_address_end quote x.after s.second.back x.ready s.second.second)

bad_address_reads : (piece : List ℕ) → IsBadAddress piece → reads AddressStart piece ≡ Some BadUri
bad_address_reads piece (inl a) = subst (λ p. reads AddressStart p ≡ Some BadUri) (sym a.whole) (kind_addressed (a.front ++ a.back) (then_white a.front (url_addresses a.front a.first) a.back a.second))
bad_address_reads piece (inr (inl a)) = subst (λ p. reads AddressStart p ≡ Some BadUri) (sym a.whole) (kind_addressed (a.front ++ a.back) (then_white a.front (string_addresses a.front a.first) a.back a.second))
bad_address_reads piece (inr (inr (inl s))) = bad_string_address Double piece s
bad_address_reads piece (inr (inr (inr s))) = bad_string_address Single piece s

address_reads : (piece : List ℕ) → Then IsAddress (Then IsWhite (Mark 41)) piece → reads AddressStart piece ≡ Some Uri
address_reads piece a =
    let x = then_white a.front (address_addresses a.front a.first) a.second.front a.second.first in
    let parts : piece ≡ (a.front ++ a.second.front) ++ (41 ∷ []) = a.whole ∙ (ap (λ b. a.front ++ b) (a.second.whole ∙ ap (λ b. a.second.front ++ b) a.second.second) ∙ sym (append_assoc a.front a.second.front (41 ∷ []))) in
    ap (reads AddressStart) parts ∙ (x.same (41 ∷ []) ∙ closing_closes x.after x.closing)

-- behind the opening and white space
opened : (Macro : List ℕ → Type 0) (k : TokenKind) (piece : List ℕ) → ((p : List ℕ) → Macro p → reads AddressStart p ≡ Some k) → Then IsUrlOpening (Then IsWhite Macro) piece → reads Begin piece ≡ Some k
opened Macro k piece f o =
    ap (reads Begin) o.whole ∙ (opening_reads o.front o.back o.first ∙ (ap (reads AddressStart) o.second.whole ∙ (white_reads o.second.front o.second.back o.second.first ∙ f o.second.back o.second.second)))

pub bad_uri_reads : (piece : List ℕ) → Then IsUrlOpening (Then IsWhite IsBadAddress) piece → reads Begin piece ≡ Some BadUri
bad_uri_reads piece o = opened IsBadAddress BadUri piece bad_address_reads o

pub uri_reads : (piece : List ℕ) → Then IsUrlOpening (Then IsWhite (Then IsAddress (Then IsWhite (Mark 41)))) piece → reads Begin piece ≡ Some Uri
uri_reads piece o = opened (Then IsAddress (Then IsWhite (Mark 41))) Uri piece address_reads o

-- ---- comments

pub open_tail : (c : ℕ) (piece : List ℕ) → IsOpen (c ∷ piece) → IsOpen piece
open_tail c piece h before after e = h (c ∷ before) after (ap (λ p. c ∷ p) e)

-- in a comment
abbrev pub Commented : State → Type 0
Commented state = (state ≡ InComment) ⊎ (state ≡ Star)

pub record Comments (state : State) (piece : List ℕ) : Type 0 where
  pub after : State
  pub inside : Commented after
  pub same : (t : List ℕ) → reads state (piece ++ t) ≡ reads after t

mutual
  pub comment_on : (piece : List ℕ) → IsOpen piece → Comments InComment piece
  comment_on [] h = record { after = InComment; inside = inl refl; same = λ t. refl }
  comment_on (c ∷ piece) h =
      by_bool (c == 42)
      (λ e. let x = star_on piece (subst (λ s. IsOpen (s ∷ piece)) (eqb-true c 42 e) h) in record { after = x.after; inside = x.inside; same = λ t. rw e (x.same t) })
      (λ e. let x = comment_on piece (open_tail c piece h) in record { after = x.after; inside = x.inside; same = λ t. rw e (x.same t) })

  star_on : (piece : List ℕ) → IsOpen (42 ∷ piece) → Comments Star piece
  star_on [] h = record { after = Star; inside = inr refl; same = λ t. refl }
  star_on (c ∷ piece) h =
      by_bool (c == 47)
      (λ e. absurd (h [] piece (ap (λ s. 42 ∷ s ∷ piece) (eqb-true c 47 e))))
      (λ e. by_bool (c == 42)
      (λ s. let x = star_on piece (subst (λ s. IsOpen (s ∷ piece)) (eqb-true c 42 s) (open_tail 42 (c ∷ piece) h)) in record { after = x.after; inside = x.inside; same = λ t. rw (e, s) (x.same t) })
      (λ s. let x = comment_on piece (open_tail c piece (open_tail 42 (c ∷ piece) h)) in record { after = x.after; inside = x.inside; same = λ t. rw (e, s) (x.same t) }))

inside_kind : (state : State) → Commented state → reads state [] ≡ Some BadComment
inside_kind state (inl e) = rw e refl
inside_kind state (inr e) = rw e refl

inside_end : (state : State) → Commented state → reads state (42 ∷ 47 ∷ []) ≡ Some Comment
inside_end state (inl e) = rw e refl
inside_end state (inr e) = rw e refl

pub bad_comment_reads : (piece : List ℕ) → Then (λ p. p ≡ 47 ∷ 42 ∷ []) IsOpen piece → reads Begin piece ≡ Some BadComment
bad_comment_reads piece m =
    let x = comment_on m.back m.second in
    ap (reads Begin) (m.whole ∙ ap (λ f. f ++ m.back) m.first) ∙ (sym (nothing_more InComment m.back) ∙ (x.same [] ∙ inside_kind x.after x.inside))

pub comment_reads : (piece : List ℕ) → Then (λ p. p ≡ 47 ∷ 42 ∷ []) (Then IsOpen (λ p. p ≡ 42 ∷ 47 ∷ [])) piece → reads Begin piece ≡ Some Comment
comment_reads piece m =
    let x = comment_on m.second.front m.second.first in
    ap (reads Begin) (m.whole ∙ (ap (λ f. f ++ m.back) m.first ∙ ap (λ b. 47 ∷ 42 ∷ b) (m.second.whole ∙ ap (λ b. m.second.front ++ b) m.second.second))) ∙ (x.same (42 ∷ 47 ∷ []) ∙ inside_end x.after x.inside)
