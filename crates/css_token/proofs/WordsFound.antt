-- Identifiers, names, numbers and ranges: what the scanner takes for one is one.
use Rattle.std.proofs.Common.{◌≡◌, ℕ, ◌-◌, ◌==◌, nat_lt, ◌<◌, ◌≤◌, true, false, ◌&&◌, List, [], ◌∷◌, ◌++◌, length, Option, Some, refl, sym, ◌∙◌, ap, subst, ◌⊎◌, inl, inr, arith}
use Rattle.std.specs.List.{AllByRecursion, concat}
use Rattle.std.proofs.lemmas.Bool.{false≢true, and_parts, eqb-true}
use Rattle.std.proofs.lemmas.Bool.Decides.{nat_tests}
use Rattle.std.proofs.lemmas.List.{append_assoc, append-nil}
use Rattle.viz_base.specs.declared.tokens.TokenKind.{TokenKind}
use Rattle.viz_base.specs.declared.tokens.TokenKind.TheVariants.{Ident, AtKeyword, Hash, Number, Percentage, Dimension, UnicodeRange, Cdc, Function}
use Rattle.viz_base.proofs.Truths.{by_bool}
use Rattle.css_semantics.specs.TokensLetters.{is_digit, is_hex, is_start, is_name, is_u, is_r, is_l, is_range}
use Rattle.css_semantics.specs.TokensMacros.{Mark, Then, Maybe, Each, OneOrMore, UpToSix, IsEscape, IsStart, IsNameChar, IsIdent, IsName, IsNum}
use Rattle.css_semantics.specs.TokensTable.{Matches}
use Rattle.css_token.specs.declared.states.Row.{Row}
use Rattle.css_token.specs.declared.states.Row.TheVariants.{Word, AtWord, Name, Measure}
use Rattle.css_token.specs.declared.states.State.TheVariants.{U, Ur, Url, UPlus, RangeFirst, RangeDash, RangeSecond, Dash, DashDash, At, AtDash, HashMark, Whole, Point, Fraction, NumberDash, AddressStart}
use Rattle.css_token.specs.steps.Scan.{holds_lines, step_plain, step_start, step_unit}
use Rattle.css_token.proofs.Reading.{reads, no_kind}
use Rattle.css_token.proofs.Rows.{apart, InRow, each_to}
use Rattle.css_token.proofs.Found.{ReadsFrom, RowEnd, RowRest, one_more, found_plain, found_slash, end_reads, same_kind, choose}

-- ---- rows of names

slash_escape : (row : Row) (tail : List ℕ) → holds_lines row ≡ false → InRow row (92 ∷ tail) → IsEscape (92 ∷ tail)
slash_escape row tail plain (inl o) = let same : o.0 ≡ 92 = cc (o.1) in absurd (false≢true (sym (apart row o.0 o.2).0 ∙ rw same refl))
slash_escape row tail plain (inr (inl l)) = absurd (false≢true (sym plain ∙ l.holds))
slash_escape row tail plain (inr (inr e)) = e

from_word : (u : List ℕ) → InRow Word u → IsNameChar u
from_word u (inl o) = inl o
from_word u (inr (inl l)) = absurd (false≢true l.holds)
from_word u (inr (inr e)) = inr e

from_at_word : (u : List ℕ) → InRow AtWord u → IsNameChar u
from_at_word u (inl o) = inl o
from_at_word u (inr (inl l)) = absurd (false≢true l.holds)
from_at_word u (inr (inr e)) = inr e

from_name : (u : List ℕ) → InRow Name u → IsNameChar u
from_name u (inl o) = inl o
from_name u (inr (inl l)) = absurd (false≢true l.holds)
from_name u (inr (inr e)) = inr e

from_measure : (u : List ℕ) → InRow Measure u → IsNameChar u
from_measure u (inl o) = inl o
from_measure u (inr (inl l)) = absurd (false≢true l.holds)
from_measure u (inr (inr e)) = inr e

-- ---- identifiers

record StartFound (row : Row) (k : TokenKind) (p : List ℕ) : Type 0 where
  pub first : List ℕ
  pub rest : List ℕ
  pub whole : p ≡ first ++ rest
  pub start : IsStart first
  pub row_rest : RowRest row k rest

found_start : (row : Row) (k : TokenKind) (c : ℕ) (p : List ℕ) → holds_lines row ≡ false → ReadsFrom (step_start row c) p k → StartFound row k (c ∷ p)
found_start row k c p plain h =
    by_bool (is_start c)
    (λ e. record { first = c ∷ []; rest = p; whole = refl; start = inl (c, refl, e); row_rest = found_plain p row k (rw e at h) })
    (λ e. by_bool (c == 92)
    (λ s. elim (found_slash p row k (rw (e, s) at h)) [
      | inl x ↦ absurd (false≢true (sym plain ∙ x.1))
      | inr x ↦ record {
        first = 92 ∷ x.tail;
        rest = x.rest;
        whole = ap (λ d. d ∷ p) (eqb-true c 92 s) ∙ ap (λ t. 92 ∷ t) x.whole;
        start = inr (slash_escape row x.tail plain x.unit);
        row_rest = x.row_rest;
      }
    ])
    (λ s. absurd (no_kind k (rw (e, s) at h))))

-- an identifier, and the end of its row
record IdentFound (row : Row) (k : TokenKind) (p : List ℕ) : Type 0 where
  pub ident : List ℕ
  pub is : IsIdent ident
  pub tail : List ℕ
  pub whole : p ≡ ident ++ tail
  pub ends : RowEnd row k tail

ident_found : (row : Row) (k : TokenKind) (dash first rest : List ℕ) → ((u : List ℕ) → InRow row u → IsNameChar u) → Maybe (Mark 45) dash → IsStart first → RowRest row k rest → IdentFound row k (dash ++ (first ++ rest))
ident_found row k dash first rest f at_most_one start r = record {
  ident = dash ++ (first ++ concat r.units);
  is = record {
    front = dash;
    back = first ++ concat r.units;
    whole = refl;
    first = at_most_one;
    second = record { front = first; back = concat r.units; whole = refl; first = start; second = record { pieces = r.units; whole = refl; each = each_to r.units f r.each } };
  };
  tail = r.tail;
  whole =
      ap (λ t. dash ++ (first ++ t)) r.whole
      ∙ (ap (λ t. dash ++ t) (sym (append_assoc first (concat r.units) r.tail)) ∙ sym (append_assoc dash (first ++ concat r.units) r.tail));
  ends = r.ends;
}

start_ident : (row : Row) (k : TokenKind) (dash p : List ℕ) → ((u : List ℕ) → InRow row u → IsNameChar u) → Maybe (Mark 45) dash → StartFound row k p → IdentFound row k (dash ++ p)
start_ident row k dash p f one s = subst (λ t. IdentFound row k (dash ++ t)) (sym s.whole) (ident_found row k dash s.first s.rest f one s.start s.row_rest)

word_end : (k : TokenKind) (tail : List ℕ) → RowEnd Word k tail → ((tail ≡ []) × (k ≡ Ident)) ⊎ ((tail ≡ 40 ∷ []) × (k ≡ Function))
word_end k tail (inl e) = inl e
word_end k tail (inr (inl e)) = absurd (false≢true e.1)
word_end k tail (inr (inr x)) =
    by_bool (x.0 == 40)
    (λ e. let n = end_reads Function k x.1 (rw e at x.3) in inr (x.2 ∙ (ap (λ c. c ∷ x.1) (eqb-true x.0 40 e) ∙ ap (λ t. 40 ∷ t) n.0), n.1))
    (λ e. absurd (no_kind k (rw e at x.3)))

word_matches : (k : TokenKind) (p : List ℕ) → IdentFound Word k p → Matches k p
word_matches k p i =
    elim (word_end k i.tail i.ends) [
      | inl e ↦ rw e.1 (subst IsIdent (sym (i.whole ∙ (ap (λ t. i.ident ++ t) e.0 ∙ append-nil i.ident))) i.is)
      | inr e ↦ rw e.1 (record { front = i.ident; back = i.tail; whole = i.whole; first = i.is; second = e.0 })
    ]

-- where a first character or escape is known
pub spelled : (k : TokenKind) (first rest : List ℕ) → IsStart first → RowRest Word k rest → Matches k (first ++ rest)
spelled k first rest start r = word_matches k (first ++ rest) (ident_found Word k [] first rest from_word (inl refl) start r)

pub word_found : (k : TokenKind) (c : ℕ) (p : List ℕ) → ReadsFrom (step_start Word c) p k → Matches k (c ∷ p)
word_found k c p h = word_matches k (c ∷ p) (start_ident Word k [] (c ∷ p) from_word (inl refl) (found_start Word k c p refl h))

pub dash_found : (k : TokenKind) (p : List ℕ) → reads Dash p ≡ Some k → Matches k (45 ∷ p)
dash_found k [] h = absurd (no_kind k h)
dash_found k (c ∷ p) h =
    by_bool (c == 45)
    (λ e. rw (eqb-true c 45 e) (dashes_found p (rw e at h)))
    (λ e. word_matches k (45 ∷ c ∷ p) (start_ident Word k (45 ∷ []) (c ∷ p) from_word (inr refl) (found_start Word k c p refl (rw e at h))))
  where
    dashes_found : (q : List ℕ) → reads DashDash q ≡ Some k → Matches k (45 ∷ 45 ∷ q)
    dashes_found [] g = absurd (no_kind k g)
    dashes_found (d ∷ q) g =
        by_bool (d == 62)
        (λ e. let n = end_reads Cdc k q (rw e at g) in rw (n.1, n.0, eqb-true d 62 e) refl)
        (λ e. absurd (no_kind k (rw e at g)))

-- ---- at-keywords

at_end : (k : TokenKind) (tail : List ℕ) → RowEnd AtWord k tail → (tail ≡ []) × (k ≡ AtKeyword)
at_end k tail (inl e) = e
at_end k tail (inr (inl e)) = absurd (false≢true e.1)
at_end k tail (inr (inr x)) = absurd (no_kind k x.3)

at_matches : (k : TokenKind) (p : List ℕ) → IdentFound AtWord k p → Matches k (64 ∷ p)
at_matches k p i =
    let e = at_end k i.tail i.ends in
    rw e.1 (record { front = 64 ∷ []; back = p; whole = refl; first = refl; second = subst IsIdent (sym (i.whole ∙ (ap (λ t. i.ident ++ t) e.0 ∙ append-nil i.ident))) i.is })

pub at_found : (k : TokenKind) (p : List ℕ) → reads At p ≡ Some k → Matches k (64 ∷ p)
at_found k [] h = absurd (no_kind k h)
at_found k (c ∷ p) h =
    by_bool (c == 45)
    (λ e. rw (eqb-true c 45 e) (dashed p (rw e at h)))
    (λ e. at_matches k (c ∷ p) (start_ident AtWord k [] (c ∷ p) from_at_word (inl refl) (found_start AtWord k c p refl (rw e at h))))
  where
    dashed : (q : List ℕ) → reads AtDash q ≡ Some k → Matches k (64 ∷ 45 ∷ q)
    dashed [] g = absurd (no_kind k g)
    dashed (d ∷ q) g = at_matches k (45 ∷ d ∷ q) (start_ident AtWord k (45 ∷ []) (d ∷ q) from_at_word (inr refl) (found_start AtWord k d q refl g))

-- ---- hashes

name_end : (k : TokenKind) (tail : List ℕ) → RowEnd Name k tail → (tail ≡ []) × (k ≡ Hash)
name_end k tail (inl e) = e
name_end k tail (inr (inl e)) = absurd (false≢true e.1)
name_end k tail (inr (inr x)) = absurd (no_kind k x.3)

name_of : (units : List (List ℕ)) (c : ℕ) (p : List ℕ) → c ∷ p ≡ concat units → AllByRecursion IsNameChar units → IsName (c ∷ p)
name_of [] c p whole each = absurd (not_nil c p whole)
  where
    not_nil : (c : ℕ) (p : List ℕ) → c ∷ p ≡ [] → ⊥
    not_nil c p e = cc
name_of (u ∷ units) c p whole each = record { front = u; back = concat units; whole = whole; first = each.0; second = record { pieces = units; whole = refl; each = each.1 } }

pub hash_found : (k : TokenKind) (p : List ℕ) → reads HashMark p ≡ Some k → Matches k (35 ∷ p)
hash_found k [] h = absurd (no_kind k h)
hash_found k (c ∷ p) h =
    let r = found_plain (c ∷ p) Name k h in
    let e = name_end k r.tail r.ends in
    rw e.1 (record {
      front = 35 ∷ [];
      back = c ∷ p;
      whole = refl;
      first = refl;
      second = name_of r.units c p (r.whole ∙ (ap (λ t. concat r.units ++ t) e.0 ∙ append-nil (concat r.units))) (each_to r.units from_name r.each);
    })

-- ---- numbers

-- what may stand behind a number
abbrev UnitFound : TokenKind → List ℕ → Type 0
UnitFound k q = ((q ≡ []) × (k ≡ Number)) ⊎ (((q ≡ 37 ∷ []) × (k ≡ Percentage)) ⊎ (IsIdent q × (k ≡ Dimension)))

measure_end : (k : TokenKind) (tail : List ℕ) → RowEnd Measure k tail → (tail ≡ []) × (k ≡ Dimension)
measure_end k tail (inl e) = e
measure_end k tail (inr (inl e)) = absurd (false≢true e.1)
measure_end k tail (inr (inr x)) = absurd (no_kind k x.3)

measure_is : (k : TokenKind) (p : List ℕ) → IdentFound Measure k p → IsIdent p × (k ≡ Dimension)
measure_is k p i = let e = measure_end k i.tail i.ends in (subst IsIdent (sym (i.whole ∙ (ap (λ t. i.ident ++ t) e.0 ∙ append-nil i.ident))) i.is, e.1)

unit_found : (k : TokenKind) (c : ℕ) (p : List ℕ) → ReadsFrom (step_unit c) p k → UnitFound k (c ∷ p)
unit_found k c p h =
    by_bool (c == 37)
    (λ e. let n = end_reads Percentage k p (rw e at h) in inr (inl (ap (λ d. d ∷ p) (eqb-true c 37 e) ∙ ap (λ t. 37 ∷ t) n.0, n.1)))
    (λ e. by_bool (c == 45)
    (λ d. inr (inr (subst (λ x. IsIdent (x ∷ p) × (k ≡ Dimension)) (sym (eqb-true c 45 d)) (dashed p (rw (e, d) at h)))))
    (λ d. inr (inr (measure_is k (c ∷ p) (start_ident Measure k [] (c ∷ p) from_measure (inl refl) (found_start Measure k c p refl (rw (e, d) at h)))))))
  where
    dashed : (q : List ℕ) → reads NumberDash q ≡ Some k → IsIdent (45 ∷ q) × (k ≡ Dimension)
    dashed [] g = absurd (no_kind k g)
    dashed (d ∷ q) g = measure_is k (45 ∷ d ∷ q) (start_ident Measure k (45 ∷ []) (d ∷ q) from_measure (inr refl) (found_start Measure k d q refl g))

record DigitsFound (k : TokenKind) (p : List ℕ) : Type 0 where
  pub digits : List ℕ
  pub rest : List ℕ
  pub whole : p ≡ digits ++ rest
  pub each : Each is_digit digits
  pub unit : UnitFound k rest

fraction_found : (k : TokenKind) (p : List ℕ) → reads Fraction p ≡ Some k → DigitsFound k p
fraction_found k [] h = record { digits = []; rest = []; whole = refl; each = tt; unit = inl (refl, same_kind Number k h) }
fraction_found k (c ∷ p) h =
    by_bool (is_digit c)
    (λ e. let x = fraction_found k p (rw e at h) in record { digits = c ∷ x.digits; rest = x.rest; whole = ap (λ t. c ∷ t) x.whole; each = (e, x.each); unit = x.unit })
    (λ e. record { digits = []; rest = c ∷ p; whole = refl; each = tt; unit = unit_found k c p (rw e at h) })

-- a number or its fraction, and its unit
record NumFound (k : TokenKind) (p : List ℕ) : Type 0 where
  pub num : List ℕ
  pub rest : List ℕ
  pub whole : p ≡ num ++ rest
  pub is : Each is_digit num ⊎ Then (Each is_digit) (Then (Mark 46) (OneOrMore is_digit)) num
  pub unit : UnitFound k rest

point_more : (c : ℕ) (num : List ℕ) → is_digit c ≡ true → Each is_digit num ⊎ Then (Each is_digit) (Then (Mark 46) (OneOrMore is_digit)) num → Each is_digit (c ∷ num) ⊎ Then (Each is_digit) (Then (Mark 46) (OneOrMore is_digit)) (c ∷ num)
point_more c num e (inl each) = inl (e, each)
point_more c num e (inr t) = inr (record { front = c ∷ t.front; back = t.back; whole = ap (λ x. c ∷ x) t.whole; first = (e, t.first); second = t.second })

point_found : (k : TokenKind) (p : List ℕ) → reads Point p ≡ Some k → NumFound k (46 ∷ p)
point_found k [] h = absurd (no_kind k h)
point_found k (c ∷ p) h =
    by_bool (is_digit c)
    (λ e. let x = fraction_found k p (rw e at h) in record {
      num = 46 ∷ c ∷ x.digits;
      rest = x.rest;
      whole = ap (λ t. 46 ∷ c ∷ t) x.whole;
      is = inr (record { front = []; back = 46 ∷ c ∷ x.digits; whole = refl; first = tt; second = record { front = 46 ∷ []; back = c ∷ x.digits; whole = refl; first = refl; second = (omega arith, (e, x.each)) } });
      unit = x.unit;
    })
    (λ e. absurd (no_kind k (rw e at h)))

whole_found : (k : TokenKind) (p : List ℕ) → reads Whole p ≡ Some k → NumFound k p
whole_found k [] h = record { num = []; rest = []; whole = refl; is = inl tt; unit = inl (refl, same_kind Number k h) }
whole_found k (c ∷ p) h =
    by_bool (is_digit c)
    (λ e. let x = whole_found k p (rw e at h) in record { num = c ∷ x.num; rest = x.rest; whole = ap (λ t. c ∷ t) x.whole; is = point_more c x.num e x.is; unit = x.unit })
    (λ e. by_bool (c == 46)
    (λ d. subst (λ x. NumFound k (x ∷ p)) (sym (eqb-true c 46 d)) (point_found k p (rw (e, d) at h)))
    (λ d. record { num = []; rest = c ∷ p; whole = refl; is = inl tt; unit = unit_found k c p (rw (e, d) at h) }))

num_matches : (k : TokenKind) (p num rest : List ℕ) → p ≡ num ++ rest → IsNum num → UnitFound k rest → Matches k p
num_matches k p num rest whole is (inl e) = rw e.1 (subst IsNum (sym (whole ∙ (ap (λ t. num ++ t) e.0 ∙ append-nil num))) is)
num_matches k p num rest whole is (inr (inl e)) = rw e.1 (record { front = num; back = rest; whole = whole; first = is; second = e.0 })
num_matches k p num rest whole is (inr (inr e)) = rw e.1 (record { front = num; back = rest; whole = whole; first = is; second = e.0 })

is_num : (c : ℕ) (num : List ℕ) → Each is_digit (c ∷ num) ⊎ Then (Each is_digit) (Then (Mark 46) (OneOrMore is_digit)) (c ∷ num) → IsNum (c ∷ num)
is_num c num (inl each) = inl (omega arith, each)
is_num c num (inr t) = inr t

pub number_found : (k : TokenKind) (c : ℕ) (p : List ℕ) → is_digit c ≡ true → reads Whole p ≡ Some k → Matches k (c ∷ p)
number_found k c p e h =
    let x = whole_found k p h in
    num_matches k (c ∷ p) (c ∷ x.num) x.rest (ap (λ t. c ∷ t) x.whole) (is_num c x.num (point_more c x.num e x.is)) x.unit

pub fraction_number : (k : TokenKind) (p : List ℕ) → reads Point p ≡ Some k → Matches k (46 ∷ p)
fraction_number k [] h = absurd (no_kind k h)
fraction_number k (c ∷ p) h =
    by_bool (is_digit c)
    (λ e. let x = fraction_found k p (rw e at h) in
    num_matches k (46 ∷ c ∷ p) (46 ∷ c ∷ x.digits) x.rest (ap (λ t. 46 ∷ c ∷ t) x.whole)
    (inr (record { front = []; back = 46 ∷ c ∷ x.digits; whole = refl; first = tt; second = record { front = 46 ∷ []; back = c ∷ x.digits; whole = refl; first = refl; second = (omega arith, (e, x.each)) } })) x.unit)
    (λ e. absurd (no_kind k (rw e at h)))

-- ---- ranges

range_second_found : (k : TokenKind) (left : ℕ) (p : List ℕ) → reads (RangeSecond left) p ≡ Some k → Each is_hex p × (length p ≤ left) × (k ≡ UnicodeRange)
range_second_found k left [] h = (tt, omega arith, same_kind UnicodeRange k h)
range_second_found k left (c ∷ p) h =
    by_bool (is_hex c && nat_lt 0 left)
    (λ e. let both = and_parts (is_hex c) (nat_lt 0 left) e in
    let some : 0 < left = grind (arith, nat_tests, both.1) in
    let x = range_second_found k (left - 1) p (rw e at h) in ((both.0, x.0), omega (arith, x.1), x.2))
    (λ e. absurd (no_kind k (rw e at h)))

range_dash_found : (k : TokenKind) (p : List ℕ) → reads RangeDash p ≡ Some k → UpToSix is_hex p × (k ≡ UnicodeRange)
range_dash_found k [] h = absurd (no_kind k h)
range_dash_found k (c ∷ p) h =
    by_bool (is_hex c)
    (λ e. let x = range_second_found k 5 p (rw e at h) in ((omega arith, omega (arith, x.1), (e, x.0)), x.2))
    (λ e. absurd (no_kind k (rw e at h)))

record RangeFound (k : TokenKind) (left : ℕ) (p : List ℕ) : Type 0 where
  pub digits : List ℕ
  pub rest : List ℕ
  pub whole : p ≡ digits ++ rest
  pub each : Each is_range digits
  pub few : length digits ≤ left
  pub second : Maybe (Then (Mark 45) (UpToSix is_hex)) rest
  pub kind : k ≡ UnicodeRange

range_first_found : (k : TokenKind) (left : ℕ) (p : List ℕ) → reads (RangeFirst left) p ≡ Some k → RangeFound k left p
range_first_found k left [] h = record { digits = []; rest = []; whole = refl; each = tt; few = omega arith; second = inl refl; kind = same_kind UnicodeRange k h }
range_first_found k left (c ∷ p) h =
    by_bool (is_range c && nat_lt 0 left)
    (λ e. let both = and_parts (is_range c) (nat_lt 0 left) e in
    let some : 0 < left = grind (arith, nat_tests, both.1) in
    let x = range_first_found k (left - 1) p (rw e at h) in
    record { digits = c ∷ x.digits; rest = x.rest; whole = ap (λ t. c ∷ t) x.whole; each = (both.0, x.each); few = omega (arith, x.few); second = x.second; kind = x.kind })
    (λ e. by_bool (c == 45)
    (λ d. let x = range_dash_found k p (rw (e, d) at h) in
    record { digits = []; rest = c ∷ p; whole = refl; each = tt; few = omega arith; second = inr (record { front = c ∷ []; back = p; whole = refl; first = ap (λ y. y ∷ []) (eqb-true c 45 d); second = x.0 }); kind = x.1 })
    (λ d. absurd (no_kind k (rw (e, d) at h))))

range_found : (k : TokenKind) (u : ℕ) (p : List ℕ) → is_u u ≡ true → reads UPlus p ≡ Some k → Matches k (u ∷ 43 ∷ p)
range_found k u [] hu h = absurd (no_kind k h)
range_found k u (c ∷ p) hu h =
    by_bool (is_range c)
    (λ e. let x = range_first_found k 5 p (rw e at h) in
    rw x.kind (record {
      front = u ∷ [];
      back = 43 ∷ c ∷ p;
      whole = refl;
      first = (u, refl, hu);
      second = record {
        front = 43 ∷ [];
        back = c ∷ p;
        whole = refl;
        first = refl;
        second = record { front = c ∷ x.digits; back = x.rest; whole = ap (λ t. c ∷ t) x.whole; first = (omega arith, omega (arith, x.few), (e, x.each)); second = x.second };
      };
    }))
    (λ e. absurd (no_kind k (rw e at h)))

-- ---- identifiers that begin as `url`, and what else begins so

u_starts : (c : ℕ) → is_u c ≡ true → is_start c ≡ true
u_starts c h = grind (arith, nat_tests)

r_names : (c : ℕ) → is_r c ≡ true → is_name c ≡ true
r_names c h = grind (arith, nat_tests)

l_names : (c : ℕ) → is_l c ≡ true → is_name c ≡ true
l_names c h = grind (arith, nat_tests)

no_more : (k : TokenKind) → ◌≡◌ {A = Option TokenKind} (Some Ident) (Some k) → RowRest Word k []
no_more k h = record { units = []; each = tt; tail = []; whole = refl; ends = inl (refl, same_kind Ident k h) }

named : (k : TokenKind) (c : ℕ) (p : List ℕ) → is_name c ≡ true → RowRest Word k p → RowRest Word k (c ∷ p)
named k c p e r = one_more Word k (c ∷ []) p (inl (c, refl, e)) r

-- behind `url`
url_rest : (k : TokenKind) (p : List ℕ) → reads Url p ≡ Some k → RowRest Word k p ⊎ ((q : List ℕ) × (p ≡ 40 ∷ q) × (reads AddressStart q ≡ Some k))
url_rest k [] h = inl (no_more k h)
url_rest k (c ∷ p) h =
    choose (c == 40) (Some AddressStart) (step_plain Word c) p k h
    (λ e g. inr (p, ap (λ d. d ∷ p) (eqb-true c 40 e), g))
    (λ e g. inl (found_plain (c ∷ p) Word k g))

-- behind `ur`
ur_rest : (k : TokenKind) (p : List ℕ) → reads Ur p ≡ Some k → RowRest Word k p ⊎ ((l : ℕ) × (q : List ℕ) × (is_l l ≡ true) × (p ≡ l ∷ 40 ∷ q) × (reads AddressStart q ≡ Some k))
ur_rest k [] h = inl (no_more k h)
ur_rest k (c ∷ p) h =
    by_bool (is_l c)
    (λ e. elim (url_rest k p (rw e at h)) [
      | inl r ↦ inl (named k c p (l_names c e) r)
      | inr x ↦ inr (c, x.0, e, ap (λ t. c ∷ t) x.1, x.2)
    ])
    (λ e. inl (found_plain (c ∷ p) Word k (rw e at h)))

pub u_found : (k : TokenKind) (u : ℕ) (p : List ℕ) → is_u u ≡ true → ((r l : ℕ) (q : List ℕ) → is_r r ≡ true → is_l l ≡ true → reads AddressStart q ≡ Some k → Matches k (u ∷ r ∷ l ∷ 40 ∷ q)) → reads U p ≡ Some k → Matches k (u ∷ p)
u_found k u [] hu address h = spelled k (u ∷ []) [] (inl (u, refl, u_starts u hu)) (no_more k h)
u_found k u (c ∷ p) hu address h =
    by_bool (c == 43)
    (λ e. rw (eqb-true c 43 e) (range_found k u p hu (rw e at h)))
    (λ e. by_bool (is_r c)
    (λ r. elim (ur_rest k p (rw (e, r) at h)) [
      | inl x ↦ spelled k (u ∷ []) (c ∷ p) (inl (u, refl, u_starts u hu)) (named k c p (r_names c r) x)
      | inr x ↦ rw x.3 (address c x.0 x.1 r x.2 x.4)
    ])
    (λ r. spelled k (u ∷ []) (c ∷ p) (inl (u, refl, u_starts u hu)) (found_plain (c ∷ p) Word k (rw (e, r) at h))))
