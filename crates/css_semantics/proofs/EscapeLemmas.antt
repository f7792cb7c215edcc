-- What each escape in a text gives.
use Rattle.std.proofs.Common.{◌≡◌, ℕ, suc, ◌+◌, ◌-◌, ◌*◌, ◌==◌, nat_lt, ◌≤◌, true, false, not, ◌&&◌, List, [], ◌∷◌, ◌++◌, length, refl, ◌∙◌, ap, ◌⊎◌, inl, inr, arith}
use Rattle.std.proofs.lemmas.Bool.{and_parts, and_left, and_right, not-true, eqb-true}
use Rattle.std.proofs.lemmas.Bool.Decides.{nat_tests}
use Rattle.viz_base.proofs.Truths.{by_bool}
use Rattle.css_semantics.specs.TokensLetters.{is_hex, is_newline, is_space}
use Rattle.css_semantics.specs.TokensMacros.{Each, IsNewline, IsOneWhite, is_escaped}
use Rattle.css_semantics.specs.TokensUnescaped.{Extent, resolved, numbered, returned, hex_value, scalar}
use Rattle.css_semantics.specs.TokensEscapes.{number_from, begins, IsWholeNumber, ResolvesEscapes}

pub space_not_hex : (c : ℕ) → is_space c ≡ true → is_hex c ≡ false
space_not_hex c h = grind (arith, nat_tests)

pub newline_not_hex : (c : ℕ) → is_newline c ≡ true → is_hex c ≡ false
newline_not_hex c h = grind (arith, nat_tests)

pub no_return : (c : ℕ) → is_space c ≡ false → (c == 13) ≡ false
no_return c h = grind (arith, nat_tests)

none_left : (left : ℕ) → 0 ≡ left → nat_lt 0 left ≡ false
none_left left e = rw (← e) refl

returned_same : (e : Extent) (rest : List ℕ) → begins (λ c. c == 10) rest ≡ false → returned e rest ≡ resolved e rest
returned_same e [] h = refl
returned_same e (c ∷ rest) h = rw h refl

-- a number that nothing goes on with
no_digit : (c left : ℕ) → (0 ≡ left) ⊎ (is_hex c ≡ false) → (is_hex c && nat_lt 0 left) ≡ false
no_digit c left (inl e) = and_right (is_hex c) (nat_lt 0 left) (none_left left e)
no_digit c left (inr e) = and_left (is_hex c) (nat_lt 0 left) e

number_ends : (e : Extent) (left n : ℕ) (white rest : List ℕ) → IsOneWhite white → (white ≡ [] → (0 ≡ left) ⊎ (begins is_hex rest ≡ false)) → (white ≡ [] → begins is_space rest ≡ false) → (white ≡ 13 ∷ [] → begins (λ c. c == 10) rest ≡ false) → numbered e left n (white ++ rest) ≡ scalar n ∷ resolved e rest
number_ends e left n white [] (inl none) digits space line = rw none refl
number_ends e left n white (c ∷ rest) (inl none) digits space line =
    rw none (rw (no_digit c left (digits none), space none, no_return c (space none)) refl)
number_ends e left n white rest (inr (inl w)) digits space line =
    let over = and_left (is_hex w.0) (nat_lt 0 left) (space_not_hex w.0 w.2) in
    by_bool (w.0 == 13)
    (λ r. let cr : white ≡ 13 ∷ [] = w.1 ∙ ap (λ x. x ∷ []) (eqb-true w.0 13 r) in
    rw w.1 (rw (over, r) (ap (λ t. scalar n ∷ t) (returned_same e rest (line cr)))))
    (λ r. rw w.1 (rw (over, w.2, r) refl))
number_ends e left n white rest (inr (inr lines)) digits space line = rw lines refl

numbered_digits : (e : Extent) (left n : ℕ) (digits white rest : List ℕ) → Each is_hex digits → length digits ≤ left → IsOneWhite white → (white ≡ [] → (length digits ≡ left) ⊎ (begins is_hex rest ≡ false)) → (white ≡ [] → begins is_space rest ≡ false) → (white ≡ 13 ∷ [] → begins (λ c. c == 10) rest ≡ false) → numbered e left n (digits ++ (white ++ rest)) ≡ scalar (number_from n digits) ∷ resolved e rest
numbered_digits e left n [] white rest each few one all space line = number_ends e left n white rest one all space line
numbered_digits e left n (d ∷ digits) white rest each few one all space line =
    let more : nat_lt 0 left ≡ true = grind (arith, nat_tests) in
    rw (each.0, more) (numbered_digits e (left - 1) (16 * n + hex_value d) digits white rest each.1 (omega arith) one
    (λ none. fewer (all none)) space line)
  where
    fewer : (suc (length digits) ≡ left) ⊎ (begins is_hex rest ≡ false) → (length digits ≡ left - 1) ⊎ (begins is_hex rest ≡ false)
    fewer (inl s) = inl (omega arith)
    fewer (inr h) = inr h

number_resolves : (e : Extent) (digits white rest : List ℕ) → IsWholeNumber digits white rest → resolved e (92 ∷ (digits ++ (white ++ rest))) ≡ scalar (number_from 0 digits) ∷ resolved e rest
number_resolves e [] white rest w = absurd (omega (arith, w.spelled.0))
number_resolves e (d ∷ digits) white rest w =
    rw w.spelled.2.0 (numbered_digits e 5 (hex_value d) digits white rest w.spelled.2.1 (omega (arith, w.spelled.1)) w.one (λ none. fewer (w.all_digits none)) w.all_white w.whole_line
    ∙ ap (λ n. scalar (number_from n digits) ∷ resolved e rest) (first (hex_value d)))
  where
    fewer : (suc (length digits) ≡ 6) ⊎ (begins is_hex rest ≡ false) → (length digits ≡ 5) ⊎ (begins is_hex rest ≡ false)
    fewer (inl s) = inl (omega arith)
    fewer (inr h) = inr h

    first : (n : ℕ) → n ≡ 16 * 0 + n
    first n = omega arith

line_resolves : (e : Extent) (line rest : List ℕ) → IsNewline line → (line ≡ 13 ∷ [] → begins (λ c. c == 10) rest ≡ false) → resolved e (92 ∷ (line ++ rest)) ≡ resolved e rest
line_resolves e line rest (inl n) whole =
    by_bool (n.0 == 13)
    (λ r. let cr : line ≡ 13 ∷ [] = n.1 ∙ ap (λ x. x ∷ []) (eqb-true n.0 13 r) in
    rw n.1 (rw (newline_not_hex n.0 n.2, r) (returned_same e rest (whole cr))))
    (λ r. rw n.1 (rw (newline_not_hex n.0 n.2, n.2, r) refl))
line_resolves e line rest (inr lines) whole = rw lines refl

escaped_resolves : (e : Extent) (c : ℕ) (rest : List ℕ) → is_escaped c ≡ true → resolved e (92 ∷ c ∷ rest) ≡ c ∷ resolved e rest
escaped_resolves e c rest h =
    let tests = and_parts (not (is_hex c)) (not (is_newline c)) h in
    let newline = not-true (is_newline c) tests.1 in
    rw (not-true (is_hex c) tests.0, newline, no_cr c newline) refl
  where
    no_cr : (c : ℕ) → is_newline c ≡ false → (c == 13) ≡ false
    no_cr c h = grind (arith, nat_tests)

pub resolves : (e : Extent) → ResolvesEscapes e
resolves e = record {
  plain = λ c rest slash ends. rw (slash, ends) refl;
  number = number_resolves e;
  escaped = escaped_resolves e;
  line = line_resolves e;
  ended = λ c rest slash ends. rw (slash, ends) refl;
  nothing = refl;
  last = refl;
}
