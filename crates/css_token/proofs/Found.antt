-- What leads the scanner on within a row, and then to a kind, is a row of characters and escapes and an end of the row.
use Rattle.std.proofs.Common.{◌≡◌, ℕ, ◌-◌, ◌==◌, nat_lt, ◌<◌, ◌≤◌, Bool, true, false, ◌&&◌, List, [], ◌∷◌, ◌++◌, length, Option, Some, None, refl, sym, ◌∙◌, ap, subst, ◌⊎◌, inl, inr, arith, if◌then◌else◌}
use Rattle.std.specs.List.{AllByRecursion, concat}
use Rattle.std.specs.Option.{option_and_then}
use Rattle.std.proofs.lemmas.Bool.Decides.{nat_tests}
use Rattle.std.proofs.lemmas.List.{append_assoc}
use Rattle.std.proofs.lemmas.Option.{same_Some}
use Rattle.std.proofs.lemmas.Bool.{and_parts, eqb-true}
use Rattle.viz_base.specs.declared.tokens.TokenKind.{TokenKind}
use Rattle.viz_base.proofs.Truths.{by_bool}
use Rattle.css_semantics.specs.TokensLetters.{is_hex, is_newline, is_space}
use Rattle.css_semantics.specs.TokensMacros.{Each, IsNewline, IsOneWhite}
use Rattle.css_semantics.proofs.EscapeLemmas.{no_return}
use Rattle.css_token.specs.declared.states.Row.{Row}
use Rattle.css_token.specs.declared.states.Going.TheVariants.{Plain, Backslash, Digits, Return}
use Rattle.css_token.specs.declared.states.State.{State}
use Rattle.css_token.specs.declared.states.State.TheVariants.{End, Within}
use Rattle.css_token.specs.steps.Scan.{goes_on, holds_lines, kind_in_row, step_end, step_plain}
use Rattle.css_token.proofs.Reading.{reads, no_kind}
use Rattle.css_token.proofs.Rows.{InRow}

-- a text is read from a state that may follow this step
abbrev pub ReadsFrom : Option State → List ℕ → TokenKind → Type 0
ReadsFrom o t k = option_and_then (λ next. reads next t) o ≡ Some k

-- what ends a row: nothing, a backslash that stands before nothing, or a character that leads out of the row
abbrev pub RowEnd : Row → TokenKind → List ℕ → Type 0
RowEnd row k tail =
    ((tail ≡ []) × (k ≡ kind_in_row row)) ⊎ (((tail ≡ 92 ∷ []) × (holds_lines row ≡ true) × (k ≡ kind_in_row row)) ⊎ ((c : ℕ) × (t : List ℕ) × (tail ≡ c ∷ t) × ReadsFrom (step_end row c) t k))

pub record RowRest (row : Row) (k : TokenKind) (p : List ℕ) : Type 0 where
  pub units : List (List ℕ)
  pub each : AllByRecursion (InRow row) units
  pub tail : List ℕ
  pub whole : p ≡ concat units ++ tail
  pub ends : RowEnd row k tail

-- behind a backslash
pub record SlashRest (row : Row) (k : TokenKind) (p : List ℕ) : Type 0 where
  pub tail : List ℕ
  pub rest : List ℕ
  pub whole : p ≡ tail ++ rest
  pub unit : InRow row (92 ∷ tail)
  pub row_rest : RowRest row k rest

abbrev pub AfterSlash : Row → TokenKind → List ℕ → Type 0
AfterSlash row k p = ((p ≡ []) × (holds_lines row ≡ true) × (k ≡ kind_in_row row)) ⊎ SlashRest row k p

pub record DigitsRest (row : Row) (left : ℕ) (k : TokenKind) (p : List ℕ) : Type 0 where
  pub digits : List ℕ
  pub white : List ℕ
  pub rest : List ℕ
  pub whole : p ≡ digits ++ (white ++ rest)
  pub each : Each is_hex digits
  pub few : length digits ≤ left
  pub one : IsOneWhite white
  pub row_rest : RowRest row k rest

pub record ReturnRest (row : Row) (k : TokenKind) (p : List ℕ) : Type 0 where
  pub more : List ℕ
  pub rest : List ℕ
  pub whole : p ≡ more ++ rest
  pub one : (more ≡ []) ⊎ (more ≡ 10 ∷ [])
  pub row_rest : RowRest row k rest

ends_here : (row : Row) (k : TokenKind) (p : List ℕ) → RowEnd row k p → RowRest row k p
ends_here row k p e = record { units = []; each = tt; tail = p; whole = refl; ends = e }

pub one_more : (row : Row) (k : TokenKind) (unit rest : List ℕ) → InRow row unit → RowRest row k rest → RowRest row k (unit ++ rest)
one_more row k unit rest is r = record {
  units = unit ∷ r.units;
  each = (is, r.each);
  tail = r.tail;
  whole = ap (λ t. unit ++ t) r.whole ∙ sym (append_assoc unit (concat r.units) r.tail);
  ends = r.ends;
}

pub same_kind : (a b : TokenKind) → ◌≡◌ {A = Option TokenKind} (Some a) (Some b) → b ≡ a
same_kind a b e = sym (same_Some a b e)

slash_more : (row : Row) (k : TokenKind) (p : List ℕ) → AfterSlash row k p → RowRest row k (92 ∷ p)
slash_more row k p (inl e) = ends_here row k (92 ∷ p) (inr (inl (ap (λ t. 92 ∷ t) e.0, e.1, e.2)))
slash_more row k p (inr r) = subst (λ t. RowRest row k (92 ∷ t)) (sym r.whole) (one_more row k (92 ∷ r.tail) r.rest r.unit r.row_rest)

unicode_unit : (row : Row) (d : ℕ) (digits white : List ℕ) → is_hex d ≡ true → Each is_hex digits → length digits ≤ 5 → IsOneWhite white → InRow row (92 ∷ ((d ∷ digits) ++ white))
unicode_unit row d digits white hex each few one =
    inr (inr (inl (record {
      front = 92 ∷ [];
      back = (d ∷ digits) ++ white;
      whole = refl;
      first = refl;
      second = record { front = d ∷ digits; back = white; whole = refl; first = (omega arith, omega arith, (hex, each)); second = one };
    })))

escaped_unit : (row : Row) (c : ℕ) → is_hex c ≡ false → is_newline c ≡ false → InRow row (92 ∷ c ∷ [])
escaped_unit row c hex newline =
    inr (inr (inr (record { front = 92 ∷ []; back = c ∷ []; whole = refl; first = refl; second = (c, refl, rw (hex, newline) refl) })))

line_unit : (row : Row) (line : List ℕ) → holds_lines row ≡ true → IsNewline line → InRow row (92 ∷ line)
line_unit row line holds n = inr (inl (record { holds = holds; line = record { front = 92 ∷ []; back = line; whole = refl; first = refl; second = n } }))

return_white : (more : List ℕ) → (more ≡ []) ⊎ (more ≡ 10 ∷ []) → IsOneWhite (13 ∷ more)
return_white more (inl e) = rw e (inr (inl (13, refl, refl)))
return_white more (inr e) = rw e (inr (inr refl))

return_line : (more : List ℕ) → (more ≡ []) ⊎ (more ≡ 10 ∷ []) → IsNewline (13 ∷ more)
return_line more (inl e) = rw e (inl (13, refl, refl))
return_line more (inr e) = rw e (inr refl)

-- a character of the row, or its end
plain_more : (row : Row) (k : TokenKind) (c : ℕ) (p : List ℕ) → (reads (Within row Plain) p ≡ Some k → RowRest row k p) → (reads (Within row Backslash) p ≡ Some k → AfterSlash row k p) → ReadsFrom (step_plain row c) p k → RowRest row k (c ∷ p)
plain_more row k c p plain slash h =
    by_bool (c == 92)
    (λ e. subst (λ x. RowRest row k (x ∷ p)) (sym (eqb-true c 92 e)) (slash_more row k p (slash (rw e at h))))
    (λ e. by_bool (goes_on row c)
    (λ g. one_more row k (c ∷ []) p (inl (c, refl, g)) (plain (rw (e, g) at h)))
    (λ g. ends_here row k (c ∷ p) (inr (inr (c, p, refl, rw (e, g) at h)))))

line_more : (row : Row) (k : TokenKind) (c : ℕ) (p : List ℕ) (b : Bool) → holds_lines row ≡ b → is_newline c ≡ true → (reads (Within row Plain) p ≡ Some k → RowRest row k p) → (reads (Within row Return) p ≡ Some k → ReturnRest row k p) → ReadsFrom (if b then (if c == 13 then Some (Within row Return) else Some (Within row Plain)) else None) p k → SlashRest row k (c ∷ p)
line_more row k c p false holds newline plain return h = absurd (no_kind k h)
line_more row k c p true holds newline plain return h =
    by_bool (c == 13)
    (λ e. let r = return (rw e at h) in record {
      tail = c ∷ r.more;
      rest = r.rest;
      whole = ap (λ t. c ∷ t) r.whole;
      unit = subst (λ x. InRow row (92 ∷ x ∷ r.more)) (sym (eqb-true c 13 e)) (line_unit row (13 ∷ r.more) holds (return_line r.more r.one));
      row_rest = r.row_rest;
    })
    (λ e. record { tail = c ∷ []; rest = p; whole = refl; unit = line_unit row (c ∷ []) holds (inl (c, refl, newline)); row_rest = plain (rw e at h) })

slash_end : (row : Row) (k : TokenKind) (b : Bool) → holds_lines row ≡ b → ◌≡◌ {A = Option TokenKind} (if b then Some (kind_in_row row) else None) (Some k) → AfterSlash row k []
slash_end row k false holds h = absurd (no_kind k h)
slash_end row k true holds h = inl (refl, holds, same_kind (kind_in_row row) k h)

mutual
  pub found_plain : (p : List ℕ) (row : Row) (k : TokenKind) → reads (Within row Plain) p ≡ Some k → RowRest row k p
  found_plain [] row k h = ends_here row k [] (inl (refl, same_kind (kind_in_row row) k h))
  found_plain (c ∷ p) row k h = plain_more row k c p (found_plain p row k) (found_slash p row k) h

  pub found_slash : (p : List ℕ) (row : Row) (k : TokenKind) → reads (Within row Backslash) p ≡ Some k → AfterSlash row k p
  found_slash [] row k h = slash_end row k (holds_lines row) refl h
  found_slash (c ∷ p) row k h =
      by_bool (is_hex c)
      (λ e. let d = found_digits p 5 row k (rw e at h) in inr (record {
        tail = (c ∷ d.digits) ++ d.white;
        rest = d.rest;
        whole = ap (λ t. c ∷ t) (d.whole ∙ sym (append_assoc d.digits d.white d.rest));
        unit = unicode_unit row c d.digits d.white e d.each d.few d.one;
        row_rest = d.row_rest;
      }))
      (λ e. by_bool (is_newline c)
      (λ n. inr (line_more row k c p (holds_lines row) refl n (found_plain p row k) (found_return p row k) (rw (e, n) at h)))
      (λ n. inr (record { tail = c ∷ []; rest = p; whole = refl; unit = escaped_unit row c e n; row_rest = found_plain p row k (rw (e, n) at h) })))

  found_digits : (p : List ℕ) (left : ℕ) (row : Row) (k : TokenKind) → reads (Within row (Digits left)) p ≡ Some k → DigitsRest row left k p
  found_digits [] left row k h = record {
    digits = [];
    white = [];
    rest = [];
    whole = refl;
    each = tt;
    few = omega arith;
    one = inl refl;
    row_rest = ends_here row k [] (inl (refl, same_kind (kind_in_row row) k h));
  }
  found_digits (c ∷ p) left row k h =
      by_bool (is_hex c && nat_lt 0 left)
      (λ e. let both = and_parts (is_hex c) (nat_lt 0 left) e in
      let some : 0 < left = grind (arith, nat_tests, both.1) in
      let d = found_digits p (left - 1) row k (rw e at h) in record {
        digits = c ∷ d.digits;
        white = d.white;
        rest = d.rest;
        whole = ap (λ t. c ∷ t) d.whole;
        each = (both.0, d.each);
        few = omega (arith, d.few);
        one = d.one;
        row_rest = d.row_rest;
      })
      (λ e. by_bool (is_space c)
      (λ s. by_bool (c == 13)
      (λ r. let x = found_return p row k (rw (e, r) at h) in record {
        digits = [];
        white = c ∷ x.more;
        rest = x.rest;
        whole = ap (λ t. c ∷ t) x.whole;
        each = tt;
        few = omega arith;
        one = subst (λ y. IsOneWhite (y ∷ x.more)) (sym (eqb-true c 13 r)) (return_white x.more x.one);
        row_rest = x.row_rest;
      })
      (λ r. record {
        digits = [];
        white = c ∷ [];
        rest = p;
        whole = refl;
        each = tt;
        few = omega arith;
        one = inr (inl (c, refl, s));
        row_rest = found_plain p row k (rw (e, s, r) at h);
      }))
      (λ s. record {
        digits = [];
        white = [];
        rest = c ∷ p;
        whole = refl;
        each = tt;
        few = omega arith;
        one = inl refl;
        row_rest = plain_more row k c p (found_plain p row k) (found_slash p row k) (rw (e, s, no_return c s) at h);
      }))

  found_return : (p : List ℕ) (row : Row) (k : TokenKind) → reads (Within row Return) p ≡ Some k → ReturnRest row k p
  found_return [] row k h = record { more = []; rest = []; whole = refl; one = inl refl; row_rest = ends_here row k [] (inl (refl, same_kind (kind_in_row row) k h)) }
  found_return (c ∷ p) row k h =
      by_bool (c == 10)
      (λ e. record { more = c ∷ []; rest = p; whole = refl; one = inr (ap (λ x. x ∷ []) (eqb-true c 10 e)); row_rest = found_plain p row k (rw e at h) })
      (λ e. record { more = []; rest = c ∷ p; whole = refl; one = inl refl; row_rest = plain_more row k c p (found_plain p row k) (found_slash p row k) (rw e at h) })

-- nothing is read behind the end of a piece
pub end_reads : (kind k : TokenKind) (t : List ℕ) → reads (End kind) t ≡ Some k → (t ≡ []) × (k ≡ kind)
end_reads kind k [] h = (refl, same_kind kind k h)
end_reads kind k (c ∷ t) h = absurd (no_kind k h)

-- a choice of steps
pub choose : {P : Type 0} (b : Bool) (x y : Option State) (p : List ℕ) (k : TokenKind) → ReadsFrom (if b then x else y) p k → (b ≡ true → ReadsFrom x p k → P) → (b ≡ false → ReadsFrom y p k → P) → P
choose true x y p k h at_true at_false = at_true refl h
choose false x y p k h at_true at_false = at_false refl h
