-- Rows of characters and escapes: each of them leads the scanner on within the row.
use Rattle.std.proofs.Common.{◌≡◌, ℕ, ◌-◌, ◌==◌, nat_lt, ◌≤◌, true, false, not, ◌&&◌, List, [], ◌∷◌, ◌++◌, length, Some, refl, sym, ◌∙◌, ap, subst, ◌⊎◌, inl, inr, arith}
use Rattle.std.specs.List.{AllByRecursion, concat}
use Rattle.std.proofs.lemmas.Bool.{and_parts, and_left, not-true}
use Rattle.std.proofs.lemmas.Bool.Decides.{nat_tests}
use Rattle.std.proofs.lemmas.List.{append_assoc}
use Rattle.viz_base.proofs.Truths.{by_bool}
use Rattle.css_semantics.specs.TokensLetters.{is_hex, is_newline, is_space, is_name, is_quoted, is_url}
use Rattle.css_semantics.specs.TokensMacros.{One, Mark, Then, Many, Each, UpToSix, IsNewline, IsOneWhite, is_escaped, IsEscape}
use Rattle.css_semantics.proofs.EscapeLemmas.{space_not_hex, newline_not_hex}
use Rattle.css_token.specs.declared.states.Row.{Row}
use Rattle.css_token.specs.declared.states.Row.TheVariants.{Word, AtWord, Name, Measure, Quoted, Address, QuotedAddress}
use Rattle.css_token.specs.declared.states.Going.{Going}
use Rattle.css_token.specs.declared.states.Going.TheVariants.{Plain, Backslash, Digits, Return}
use Rattle.css_token.specs.declared.states.State.{State}
use Rattle.css_token.specs.declared.states.State.TheVariants.{Within}
use Rattle.css_token.specs.steps.Scan.{mark_of, goes_on, holds_lines, kind_in_row, kind_of_row, step, step_plain, step_row}
use Rattle.css_token.proofs.Reading.{reads}

-- ---- tests

name_apart : (c : ℕ) → is_name c ≡ true → ((c == 92) ≡ false) × ((c == 13) ≡ false)
name_apart c h = (grind (arith, nat_tests), grind (arith, nat_tests))

url_apart : (c : ℕ) → is_url c ≡ true → ((c == 92) ≡ false) × ((c == 13) ≡ false)
url_apart c h = (grind (arith, nat_tests), grind (arith, nat_tests))

quoted_apart : (quote c : ℕ) → is_quoted quote c ≡ true → ((c == 92) ≡ false) × ((c == 13) ≡ false)
quoted_apart quote c h = (grind (arith, nat_tests), grind (arith, nat_tests))

pub apart : (row : Row) (c : ℕ) → goes_on row c ≡ true → ((c == 92) ≡ false) × ((c == 13) ≡ false)
apart Word c h = name_apart c h
apart AtWord c h = name_apart c h
apart Name c h = name_apart c h
apart Measure c h = name_apart c h
apart (Quoted quote) c h = quoted_apart (mark_of quote) c h
apart Address c h = url_apart c h
apart (QuotedAddress quote) c h = quoted_apart (mark_of quote) c h

-- ---- what stands in a row

pub record IsLine (row : Row) (piece : List ℕ) : Type 0 where
  pub holds : holds_lines row ≡ true
  pub line : Then (Mark 92) IsNewline piece

abbrev pub InRow : Row → List ℕ → Type 0
InRow row piece = One (goes_on row) piece ⊎ (IsLine row piece ⊎ IsEscape piece)

-- the scanner isn't behind a backslash
abbrev pub Ready : Going → Type 0
Ready Plain = Unit {0}
Ready Backslash = ⊥
Ready (Digits left) = Unit {0}
Ready Return = Unit {0}

-- a piece leads the scanner on within the row
pub record Passed (state : State) (row : Row) (piece : List ℕ) : Type 0 where
  pub after : Going
  pub ready : Ready after
  pub same : (t : List ℕ) → reads state (piece ++ t) ≡ reads (Within row after) t

pub ready_slash : (row : Row) (g : Going) → Ready g → step_row row g 92 ≡ Some (Within row Backslash)
ready_slash row Plain h = refl
ready_slash row Backslash h = absurd h
ready_slash row (Digits left) h = refl
ready_slash row Return h = refl

abbrev Steps : Row → Going → ℕ → Type 0
Steps row g c = (after : Going) × Ready after × (step_row row g c ≡ Some (Within row after))

pub plain_steps : (row : Row) (c : ℕ) → goes_on row c ≡ true → step_plain row c ≡ Some (Within row Plain)
plain_steps row c h = rw ((apart row c h).0, h) refl

ready_steps : (row : Row) (g : Going) (c : ℕ) → Ready g → goes_on row c ≡ true → Steps row g c
ready_steps row Plain c ready h = (Plain, tt, plain_steps row c h)
ready_steps row Backslash c ready h = absurd ready
ready_steps row (Digits left) c ready h =
    by_bool (is_hex c && nat_lt 0 left)
    (λ e. (Digits (left - 1), tt, rw e refl))
    (λ e. by_bool (is_space c)
    (λ s. (Plain, tt, rw (e, s, (apart row c h).1) refl))
    (λ s. (Plain, tt, rw (e, s, (apart row c h).1) (plain_steps row c h))))
ready_steps row Return c ready h =
    by_bool (c == 10)
    (λ e. (Plain, tt, rw e refl))
    (λ e. (Plain, tt, rw e (plain_steps row c h)))

-- ---- escapes

-- within an escape, behind so many digits
abbrev ReadsOn : Row → Going → List ℕ → Type 0
ReadsOn row g piece = (after : Going) × Ready after × ((t : List ℕ) → reads (Within row g) (piece ++ t) ≡ reads (Within row after) t)

white_on : (row : Row) (left : ℕ) (white : List ℕ) → IsOneWhite white → ReadsOn row (Digits left) white
white_on row left white (inl e) = (Digits left, tt, λ t. ap (λ w. reads (Within row (Digits left)) (w ++ t)) e)
white_on row left white (inr (inl w)) =
    let not_hex = and_left (is_hex w.0) (nat_lt 0 left) (space_not_hex w.0 w.2) in
    by_bool (w.0 == 13)
    (λ e. (Return, tt, λ t. ap (λ w. reads (Within row (Digits left)) (w ++ t)) w.1 ∙ rw (not_hex, e) refl))
    (λ e. (Plain, tt, λ t. ap (λ w. reads (Within row (Digits left)) (w ++ t)) w.1 ∙ rw (not_hex, w.2, e) refl))
white_on row left white (inr (inr e)) = (Plain, tt, λ t. ap (λ w. reads (Within row (Digits left)) (w ++ t)) e)

digits_on : (row : Row) (left : ℕ) (digits white : List ℕ) → Each is_hex digits → length digits ≤ left → IsOneWhite white → ReadsOn row (Digits left) (digits ++ white)
digits_on row left [] white each few one = white_on row left white one
digits_on row left (d ∷ digits) white each few one =
    let more : nat_lt 0 left ≡ true = grind (arith, nat_tests) in
    let on = digits_on row (left - 1) digits white each.1 (omega arith) one in
    (on.0, on.1, λ t. rw (each.0, more) (on.2 t))

hex_on : (row : Row) (digits white : List ℕ) → UpToSix is_hex digits → IsOneWhite white → ReadsOn row Backslash (digits ++ white)
hex_on row [] white six one = absurd (omega (arith, six.0))
hex_on row (d ∷ digits) white six one =
    let on = digits_on row 5 digits white six.2.1 (omega (arith, six.1)) one in
    (on.0, on.1, λ t. rw six.2.0 (on.2 t))

escaped_on : (row : Row) (c : ℕ) (t : List ℕ) → is_escaped c ≡ true → reads (Within row Backslash) (c ∷ t) ≡ reads (Within row Plain) t
escaped_on row c t h =
    let tests = and_parts (not (is_hex c)) (not (is_newline c)) h in
    rw (not-true (is_hex c) tests.0, not-true (is_newline c) tests.1) refl

-- behind the backslash of an escape
pub record EscapeTail (piece : List ℕ) : Type 0 where
  pub tail : List ℕ
  pub whole : piece ≡ 92 ∷ tail
  pub on : (row : Row) → ReadsOn row Backslash tail

pub escape_tail : (piece : List ℕ) → IsEscape piece → EscapeTail piece
escape_tail piece (inl e) = record {
  tail = e.back;
  whole = e.whole ∙ ap (λ f. f ++ e.back) e.first;
  on = λ row. subst (ReadsOn row Backslash) (sym e.second.whole) (hex_on row e.second.front e.second.back e.second.first e.second.second);
}
escape_tail piece (inr e) = record {
  tail = e.back;
  whole = e.whole ∙ ap (λ f. f ++ e.back) e.first;
  on = λ row. (Plain, tt, λ t. ap (λ b. reads (Within row Backslash) (b ++ t)) e.second.1 ∙ escaped_on row e.second.0 t e.second.2);
}

line_on : (row : Row) (line : List ℕ) → holds_lines row ≡ true → IsNewline line → ReadsOn row Backslash line
line_on row line holds (inl n) =
    let not_hex = newline_not_hex n.0 n.2 in
    by_bool (n.0 == 13)
    (λ e. (Return, tt, λ t. ap (λ l. reads (Within row Backslash) (l ++ t)) n.1 ∙ rw (not_hex, n.2, holds, e) refl))
    (λ e. (Plain, tt, λ t. ap (λ l. reads (Within row Backslash) (l ++ t)) n.1 ∙ rw (not_hex, n.2, holds, e) refl))
line_on row line holds (inr e) = (Plain, tt, λ t. ap (λ l. reads (Within row Backslash) (l ++ t)) e ∙ rw holds refl)

-- what follows a backslash is read on from it, whatever state goes on with a backslash
pub slash_passes : (state : State) (row : Row) (piece tail : List ℕ) → step state 92 ≡ Some (Within row Backslash) → piece ≡ 92 ∷ tail → ReadsOn row Backslash tail → Passed state row piece
slash_passes state row piece tail slash whole on = record {
  after = on.0;
  ready = on.1;
  same = λ t. ap (λ p. reads state (p ++ t)) whole ∙ rw slash (on.2 t);
}

pub escape_passes : (state : State) (row : Row) (piece : List ℕ) → step state 92 ≡ Some (Within row Backslash) → IsEscape piece → Passed state row piece
escape_passes state row piece slash e = let x = escape_tail piece e in slash_passes state row piece x.tail slash x.whole (x.on row)

pub unit_passes : (row : Row) (g : Going) (piece : List ℕ) → Ready g → InRow row piece → Passed (Within row g) row piece
unit_passes row g piece ready (inl o) =
    let s = ready_steps row g o.0 ready o.2 in
    record { after = s.0; ready = s.1; same = λ t. ap (λ p. reads (Within row g) (p ++ t)) o.1 ∙ rw s.2 refl }
unit_passes row g piece ready (inr (inl l)) =
    slash_passes (Within row g) row piece l.line.back (ready_slash row g ready) (l.line.whole ∙ ap (λ f. f ++ l.line.back) l.line.first) (line_on row l.line.back l.holds l.line.second)
unit_passes row g piece ready (inr (inr e)) = escape_passes (Within row g) row piece (ready_slash row g ready) e

-- one piece after another
pub then_passes : (state : State) (row : Row) (p q : List ℕ) (x : Passed state row p) → Passed (Within row x.after) row q → Passed state row (p ++ q)
then_passes state row p q x y = record {
  after = y.after;
  ready = y.ready;
  same = λ t. ap (reads state) (append_assoc p q t) ∙ (x.same (q ++ t) ∙ y.same t);
}

pub units_pass : (row : Row) (g : Going) (units : List (List ℕ)) → Ready g → AllByRecursion (InRow row) units → Passed (Within row g) row (concat units)
units_pass row g [] ready each = record { after = g; ready = ready; same = λ t. refl }
units_pass row g (u ∷ units) ready each =
    let x = unit_passes row g u ready each.0 in
    then_passes (Within row g) row u (concat units) x (units_pass row x.after units x.ready each.1)

-- ---- rows of names, strings and addresses

pub each_to : {P Q : List ℕ → Type 0} (units : List (List ℕ)) → ((u : List ℕ) → P u → Q u) → AllByRecursion P units → AllByRecursion Q units
each_to [] f each = tt
each_to (u ∷ units) f each = (f u each.0, each_to units f each.1)

pub many_passes : (Macro : List ℕ → Type 0) (row : Row) (g : Going) (piece : List ℕ) → ((u : List ℕ) → Macro u → InRow row u) → Ready g → Many Macro piece → Passed (Within row g) row piece
many_passes Macro row g piece f ready m =
    subst (Passed (Within row g) row) (sym m.whole) (units_pass row g m.pieces ready (each_to m.pieces f m.each))

-- where a row may end
pub ready_kind : (row : Row) (g : Going) → Ready g → kind_of_row row g ≡ Some (kind_in_row row)
ready_kind row Plain h = refl
ready_kind row Backslash h = absurd h
ready_kind row (Digits left) h = refl
ready_kind row Return h = refl
