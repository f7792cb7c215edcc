-- Identifiers, names and numbers lead the scanner to states of their kinds.
use Rattle.std.proofs.Common.{◌≡◌, ℕ, ◌==◌, ◌≤◌, true, false, List, [], ◌∷◌, ◌++◌, Some, refl, sym, ◌∙◌, ap, subst, ◌⊎◌, inl, inr, arith}
use Rattle.std.specs.List.{AllByRecursion, concat}
use Rattle.std.proofs.lemmas.Bool.Decides.{nat_tests}
use Rattle.std.proofs.lemmas.List.{append_assoc}
use Rattle.viz_base.specs.declared.tokens.TokenKind.{TokenKind}
use Rattle.viz_base.specs.declared.tokens.TokenKind.TheVariants.{Ident, BadUri, Number, Percentage, Function}
use Rattle.viz_base.proofs.Truths.{by_bool}
use Rattle.css_semantics.specs.TokensLetters.{is_digit, is_space, is_start, is_name, is_u, is_r, is_l}
use Rattle.css_semantics.specs.TokensMacros.{Then, Many, Each, OneOrMore, IsStart, IsNameChar, IsIdent, IsName, IsNum}
use Rattle.css_semantics.specs.TokensTable.{row_of}
use Rattle.css_token.specs.declared.states.Row.{Row}
use Rattle.css_token.specs.declared.states.Row.TheVariants.{Word, AtWord, Name, Measure}
use Rattle.css_token.specs.declared.states.Going.{Going}
use Rattle.css_token.specs.declared.states.Going.TheVariants.{Plain, Backslash, Digits, Return}
use Rattle.css_token.specs.declared.states.State.{State}
use Rattle.css_token.specs.declared.states.State.TheVariants.{Begin, Within, U, Ur, Url, Dash, At, AtDash, HashMark, Whole, Point, Fraction, NumberDash}
use Rattle.css_token.specs.steps.Scan.{kind_of, step}
use Rattle.css_token.proofs.Reading.{reads}
use Rattle.css_token.proofs.Rows.{apart, InRow, Ready, Passed, plain_steps, unit_passes, escape_passes, then_passes, many_passes, ready_kind}

-- ---- tests

start_apart : (c : ℕ) → is_start c ≡ true → ((c == 92) ≡ false) × ((c == 45) ≡ false) × (is_digit c ≡ false) × ((c == 46) ≡ false) × ((c == 37) ≡ false)
start_apart c h = (grind (arith, nat_tests), grind (arith, nat_tests), grind (arith, nat_tests), grind (arith, nat_tests), grind (arith, nat_tests))

digit_apart : (c : ℕ) → is_digit c ≡ true → (is_u c ≡ false) × (is_start c ≡ false) × ((c == 92) ≡ false) × (is_space c ≡ false)
digit_apart c h = (grind (arith, nat_tests), grind (arith, nat_tests), grind (arith, nat_tests), grind (arith, nat_tests))

name_not_plus : (c : ℕ) → is_name c ≡ true → (c == 43) ≡ false
name_not_plus c h = grind (arith, nat_tests)

name_not_open : (c : ℕ) → is_name c ≡ true → (c == 40) ≡ false
name_not_open c h = grind (arith, nat_tests)

-- ---- identifiers behind a state that goes on with their first character

pub record Opens (state : State) (row : Row) : Type 0 where
  pub start : (c : ℕ) → is_start c ≡ true → step state c ≡ Some (Within row Plain)
  pub slash : step state 92 ≡ Some (Within row Backslash)

start_passes : (state : State) (row : Row) (piece : List ℕ) → Opens state row → IsStart piece → Passed state row piece
start_passes state row piece opens (inl o) = record {
  after = Plain;
  ready = tt;
  same = λ t. ap (λ p. reads state (p ++ t)) o.1 ∙ rw (opens.start o.0 o.2) refl;
}
start_passes state row piece opens (inr e) = escape_passes state row piece opens.slash e

-- behind the dash
from_start : (state : State) (row : Row) (piece : List ℕ) → ((u : List ℕ) → IsNameChar u → InRow row u) → Opens state row → Then IsStart (Many IsNameChar) piece → Passed state row piece
from_start state row piece f opens i =
    let x = start_passes state row i.front opens i.first in
    subst (Passed state row) (sym i.whole) (then_passes state row i.front i.back x (many_passes IsNameChar row x.after i.back f x.ready i.second))

pub ident_passes : (state dashed : State) (row : Row) (piece : List ℕ) → ((u : List ℕ) → IsNameChar u → InRow row u) → Opens state row → Opens dashed row → step state 45 ≡ Some dashed → IsIdent piece → Passed state row piece
ident_passes state dashed row piece f opens opened dash i =
    elim i.first [
      | inl none ↦ subst (Passed state row) (sym (i.whole ∙ ap (λ d. d ++ i.back) none)) (from_start state row i.back f opens i.second)
      | inr one ↦
          let x = from_start dashed row i.back f opened i.second in
          record {
            after = x.after;
            ready = x.ready;
            same = λ t. ap (λ p. reads state (p ++ t)) (i.whole ∙ ap (λ d. d ++ i.back) one) ∙ rw dash (x.same t);
          }
    ]

opens_at : Opens At AtWord
opens_at = record { start = λ c h. rw ((start_apart c h).1, h) refl; slash = refl }

opens_at_dash : Opens AtDash AtWord
opens_at_dash = record { start = λ c h. rw h refl; slash = refl }

opens_whole : Opens Whole Measure
opens_whole = record { start = λ c h. let n = start_apart c h in rw (n.2, n.3, n.4, n.1, h) refl; slash = refl }

opens_fraction : Opens Fraction Measure
opens_fraction = record { start = λ c h. let n = start_apart c h in rw (n.2, n.4, n.1, h) refl; slash = refl }

opens_number_dash : Opens NumberDash Measure
opens_number_dash = record { start = λ c h. rw h refl; slash = refl }

opens_dash : Opens Dash Word
opens_dash = record { start = λ c h. rw ((start_apart c h).1, h) refl; slash = refl }

-- ---- rows of characters of names

in_word : (u : List ℕ) → IsNameChar u → InRow Word u
in_word u (inl o) = inl o
in_word u (inr e) = inr (inr e)

in_at_word : (u : List ℕ) → IsNameChar u → InRow AtWord u
in_at_word u (inl o) = inl o
in_at_word u (inr e) = inr (inr e)

in_name : (u : List ℕ) → IsNameChar u → InRow Name u
in_name u (inl o) = inl o
in_name u (inr e) = inr (inr e)

in_measure : (u : List ℕ) → IsNameChar u → InRow Measure u
in_measure u (inl o) = inl o
in_measure u (inr e) = inr (inr e)

pub at_passes : (piece : List ℕ) → IsIdent piece → Passed At AtWord piece
at_passes piece i = ident_passes At AtDash AtWord piece in_at_word opens_at opens_at_dash refl i

pub hash_passes : (piece : List ℕ) → IsName piece → Passed HashMark Name piece
hash_passes piece i =
    let x = first_passes i.front i.first in
    subst (Passed HashMark Name) (sym i.whole) (then_passes HashMark Name i.front i.back x (many_passes IsNameChar Name x.after i.back in_name x.ready i.second))
  where
    first_passes : (u : List ℕ) → IsNameChar u → Passed HashMark Name u
    first_passes u (inl o) = record { after = Plain; ready = tt; same = λ t. ap (λ p. reads HashMark (p ++ t)) o.1 ∙ rw (plain_steps Name o.0 o.2) refl }
    first_passes u (inr e) = escape_passes HashMark Name u refl e

-- ---- numbers

-- a number leads from the start to one of two states
pub record Counted (piece : List ℕ) : Type 0 where
  pub after : State
  pub is : (after ≡ Whole) ⊎ (after ≡ Fraction)
  pub same : (t : List ℕ) → reads Begin (piece ++ t) ≡ reads after t

first_digit : (c : ℕ) → is_digit c ≡ true → step Begin c ≡ Some Whole
first_digit c h = let n = digit_apart c h in rw (n.0, n.1, n.2, n.3, h) refl

digits_whole : (piece t : List ℕ) → Each is_digit piece → reads Whole (piece ++ t) ≡ reads Whole t
digits_whole [] t each = refl
digits_whole (c ∷ piece) t each = rw each.0 (digits_whole piece t each.1)

digits_fraction : (piece t : List ℕ) → Each is_digit piece → reads Fraction (piece ++ t) ≡ reads Fraction t
digits_fraction [] t each = refl
digits_fraction (c ∷ piece) t each = rw each.0 (digits_fraction piece t each.1)

run_whole : (piece t : List ℕ) → OneOrMore is_digit piece → reads Begin (piece ++ t) ≡ reads Whole t
run_whole [] t some = absurd (omega (arith, some.0))
run_whole (c ∷ piece) t some = rw (first_digit c some.1.0) (digits_whole piece t some.1.1)

run_fraction : (piece t : List ℕ) → OneOrMore is_digit piece → reads Point (piece ++ t) ≡ reads Fraction t
run_fraction [] t some = absurd (omega (arith, some.0))
run_fraction (c ∷ piece) t some = rw some.1.0 (digits_fraction piece t some.1.1)

to_point : (digits t : List ℕ) → Each is_digit digits → reads Begin (digits ++ (46 ∷ t)) ≡ reads Point t
to_point [] t each = refl
to_point (c ∷ digits) t each = rw (first_digit c each.0) (digits_whole digits (46 ∷ t) each.1)

pub num_counts : (piece : List ℕ) → IsNum piece → Counted piece
num_counts piece (inl some) = record { after = Whole; is = inl refl; same = λ t. run_whole piece t some }
num_counts piece (inr n) = record {
  after = Fraction;
  is = inr refl;
  same = λ t.
      let parts : piece ≡ n.front ++ (46 ∷ n.second.back) = n.whole ∙ ap (λ b. n.front ++ b) (n.second.whole ∙ ap (λ f. f ++ n.second.back) n.second.first) in
      ap (λ p. reads Begin (p ++ t)) parts ∙ (ap (reads Begin) (append_assoc n.front (46 ∷ n.second.back) t) ∙ (to_point n.front (n.second.back ++ t) n.first ∙ run_fraction n.second.back t n.second.second));
}

pub number_reads : (s : State) → (s ≡ Whole) ⊎ (s ≡ Fraction) → (kind_of s ≡ Some Number) × (reads s (37 ∷ []) ≡ Some Percentage)
number_reads s (inl e) = rw e (refl, refl)
number_reads s (inr e) = rw e (refl, refl)

pub measure_passes : (s : State) (piece : List ℕ) → (s ≡ Whole) ⊎ (s ≡ Fraction) → IsIdent piece → Passed s Measure piece
measure_passes s piece (inl e) i = subst (λ x. Passed x Measure piece) (sym e) (ident_passes Whole NumberDash Measure piece in_measure opens_whole opens_number_dash refl i)
measure_passes s piece (inr e) i = subst (λ x. Passed x Measure piece) (sym e) (ident_passes Fraction NumberDash Measure piece in_measure opens_fraction opens_number_dash refl i)

-- ---- identifiers at the front of a piece, among them those that begin as `u`, `ur` or `url`

-- within an identifier
abbrev pub Wordy : State → Type 0
Wordy state = ((going : Going) × Ready going × (state ≡ Within Word going)) ⊎ ((state ≡ U) ⊎ ((state ≡ Ur) ⊎ (state ≡ Url)))

pub record Spelled (state : State) (piece : List ℕ) : Type 0 where
  pub after : State
  pub wordy : Wordy after
  pub same : (t : List ℕ) → reads state (piece ++ t) ≡ reads after t

spelled_row : (state : State) (piece : List ℕ) → Passed state Word piece → Spelled state piece
spelled_row state piece x = record { after = Within Word x.after; wordy = inl (x.after, x.ready, refl); same = x.same }

one_u : (c : ℕ) → is_name c ≡ true → Spelled U (c ∷ [])
one_u c h =
    by_bool (is_r c)
    (λ e. record { after = Ur; wordy = inr (inr (inl refl)); same = λ t. rw (name_not_plus c h, e) refl })
    (λ e. record { after = Within Word Plain; wordy = inl (Plain, tt, refl); same = λ t. rw (name_not_plus c h, e, plain_steps Word c h) refl })

one_ur : (c : ℕ) → is_name c ≡ true → Spelled Ur (c ∷ [])
one_ur c h =
    by_bool (is_l c)
    (λ e. record { after = Url; wordy = inr (inr (inr refl)); same = λ t. rw e refl })
    (λ e. record { after = Within Word Plain; wordy = inl (Plain, tt, refl); same = λ t. rw (e, plain_steps Word c h) refl })

one_url : (c : ℕ) → is_name c ≡ true → Spelled Url (c ∷ [])
one_url c h = record { after = Within Word Plain; wordy = inl (Plain, tt, refl); same = λ t. rw (name_not_open c h, (apart Word c h).0, h) refl }

unit_spells : (state : State) (u : List ℕ) → Wordy state → IsNameChar u → Spelled state u
unit_spells state u (inl w) m = subst (λ s. Spelled s u) (sym w.2) (spelled_row (Within Word w.0) u (unit_passes Word w.0 u w.1 (in_word u m)))
unit_spells state u (inr (inl e)) (inl o) = subst (λ s. Spelled s u) (sym e) (subst (Spelled U) (sym o.1) (one_u o.0 o.2))
unit_spells state u (inr (inl e)) (inr m) = subst (λ s. Spelled s u) (sym e) (spelled_row U u (escape_passes U Word u refl m))
unit_spells state u (inr (inr (inl e))) (inl o) = subst (λ s. Spelled s u) (sym e) (subst (Spelled Ur) (sym o.1) (one_ur o.0 o.2))
unit_spells state u (inr (inr (inl e))) (inr m) = subst (λ s. Spelled s u) (sym e) (spelled_row Ur u (escape_passes Ur Word u refl m))
unit_spells state u (inr (inr (inr e))) (inl o) = subst (λ s. Spelled s u) (sym e) (subst (Spelled Url) (sym o.1) (one_url o.0 o.2))
unit_spells state u (inr (inr (inr e))) (inr m) = subst (λ s. Spelled s u) (sym e) (spelled_row Url u (escape_passes Url Word u refl m))

then_spells : (state : State) (p q : List ℕ) (x : Spelled state p) → Spelled x.after q → Spelled state (p ++ q)
then_spells state p q x y = record {
  after = y.after;
  wordy = y.wordy;
  same = λ t. ap (reads state) (append_assoc p q t) ∙ (x.same (q ++ t) ∙ y.same t);
}

units_spell : (state : State) (units : List (List ℕ)) → Wordy state → AllByRecursion IsNameChar units → Spelled state (concat units)
units_spell state [] wordy each = record { after = state; wordy = wordy; same = λ t. refl }
units_spell state (u ∷ units) wordy each =
    let x = unit_spells state u wordy each.0 in
    then_spells state u (concat units) x (units_spell x.after units x.wordy each.1)

start_spells : (u : List ℕ) → IsStart u → Spelled Begin u
start_spells u (inl o) =
    subst (Spelled Begin) (sym o.1)
    (by_bool (is_u o.0)
    (λ e. record { after = U; wordy = inr (inl refl); same = λ t. rw e refl })
    (λ e. record { after = Within Word Plain; wordy = inl (Plain, tt, refl); same = λ t. rw (e, o.2) refl }))
start_spells u (inr e) = spelled_row Begin u (escape_passes Begin Word u refl e)

pub ident_spells : (piece : List ℕ) → IsIdent piece → Spelled Begin piece
ident_spells piece i =
    elim i.first [
      | inl none ↦
          let x = start_spells i.second.front i.second.first in
          subst (Spelled Begin) (sym (i.whole ∙ (ap (λ d. d ++ i.back) none ∙ i.second.whole)))
          (then_spells Begin i.second.front i.second.back x
          (subst (Spelled x.after) (sym i.second.second.whole) (units_spell x.after i.second.second.pieces x.wordy i.second.second.each)))
      | inr one ↦
          let x = from_start Dash Word i.back in_word opens_dash i.second in
          record {
            after = Within Word x.after;
            wordy = inl (x.after, x.ready, refl);
            same = λ t. ap (λ p. reads Begin (p ++ t)) (i.whole ∙ ap (λ d. d ++ i.back) one) ∙ x.same t;
          }
    ]

-- what an identifier is, and what it is with a parenthesis behind it: a function, or the start of an address
pub wordy_kind : (state : State) → Wordy state → kind_of state ≡ Some Ident
wordy_kind state (inl w) = rw w.2 (ready_kind Word w.0 w.1)
wordy_kind state (inr (inl e)) = rw e refl
wordy_kind state (inr (inr (inl e))) = rw e refl
wordy_kind state (inr (inr (inr e))) = rw e refl

open_row : (g : Going) → Ready g → reads (Within Word g) (40 ∷ []) ≡ Some Function
open_row Plain h = refl
open_row Backslash h = absurd h
open_row (Digits left) h = refl
open_row Return h = refl

pub wordy_open : (state : State) → Wordy state → (k : TokenKind) × (reads state (40 ∷ []) ≡ Some k) × (row_of k ≤ row_of Function)
wordy_open state (inl w) = (Function, rw w.2 (open_row w.0 w.1), omega arith)
wordy_open state (inr (inl e)) = (Function, rw e refl, omega arith)
wordy_open state (inr (inr (inl e))) = (Function, rw e refl, omega arith)
wordy_open state (inr (inr (inr e))) = (BadUri, rw e refl, omega arith)
