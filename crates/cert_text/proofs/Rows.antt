-- Reading rows: each answer is right for the rows' texts with what stands behind them.
use Rattle.std.proofs.Common.{◌≡◌, ℕ, zero, suc, ◌+◌, ◌-◌, ◌^◌, ◌<◌, ◌≤◌, ◌==◌, ◌&&◌, ◌||◌, nat_le, nat_lt, ℤ, pos, negsuc, Bool, true, false, cond, inl, inr, List, [], ◌∷◌, ◌++◌, length, Option, Some, None, Ok, refl, sym, ◌∙◌, ap, subst, arith, append_assoc, codes, lit≤, lit<, not, length-append}
use Rattle.std.specs.Fmt.{decimal}
use Rattle.std.specs.List.{flat_map}
use Rattle.std.specs.Ordering.{int_eq}
use Rattle.std.proofs.Math.Bool.{or-false, or-true}
use Rattle.std.proofs.lemmas.Bool.{false≢true, and_parts}
use Rattle.std.proofs.lemmas.Bool.Decides.{nat_tests}
use Rattle.std.proofs.lemmas.List.{append-nil}
use Rattle.lin_proof.specs.Form.{Form, Terms, IsCanonical, IsAbove}
use Rattle.lin_proof.specs.Number.{in_i128}
use Rattle.lin_proof.proofs.Sums.{int_eq-false}
use Rattle.cert_text.specs.declared.turn.Turn.{Turn}
use Rattle.cert_text.specs.declared.turn.Turn.TheVariants.{More, Last}
use Rattle.cert_text.specs.Texts.{is_num, is_nonzero, terms_have_text, row_has_text}
use Rattle.cert_text.specs.steps.Read.{Answer, after_word, begins}
use Rattle.cert_text.specs.steps.Write.{int_bytes, term_bytes, row_bytes}
use Rattle.cert_text.specs.steps.Numbers.{is_one_of, natural, signed}
use Rattle.cert_text.specs.steps.Parts.{most, ends_behind, Term, term_turn, read_one_term, read_by, read_term, with_last, next_variable, read_terms, row_of, read_row}
use Rattle.cert_text.specs.steps.Readers.{give, seq, loop}
use Rattle.cert_text.proofs.HavingText.{first_by}
use Rattle.cert_text.proofs.Language.{Lang, IsPlain, IsRead, Dep, Done, Word}
use Rattle.cert_text.proofs.Grammars.{Grammar, Either, Avoids, Loop, Items, Turns, good_word, good_done, good_seq, good_same, good_either, good_loop, begins_word, plain_either_of}
use Rattle.cert_text.proofs.Naturals.{NaturalEnd, SignedEnd, InRange, AreFit, NoDigits, Near, good_natural, good_signed, first_of_natural}

-- ---- the bytes behind numbers

pub space_or_line : NoDigits (32, 10)
space_or_line c is digit = let low = digit.0 in grind (arith, nat_tests)

pub spaces : NoDigits (32, 32)
spaces c is digit = let low = digit.0 in grind (arith, nat_tests)

pub lines : NoDigits (10, 10)
lines c is digit = let low = digit.0 in grind (arith, nat_tests)

pub colons : NoDigits (58, 58)
colons c is digit = let high = digit.1 in grind (arith, nat_tests)

pub fit_of : (ends : ℕ × ℕ) (least high : ℕ) → NoDigits ends → is_one_of ends ends.0 ≡ true → Near least high → high ≤ 2 ^ 127 → least ≤ high → 1 ≤ high → AreFit ends least high
fit_of ends least high nod one near bound ordered positive = record { no_digits = nod; one = one; near = near; bound = bound; ordered = ordered; positive = positive }

-- numbers of variables, facts and rows from `least` on
pub fit_num : (ends : ℕ × ℕ) (least : ℕ) → NoDigits ends → is_one_of ends ends.0 ≡ true → least ≤ most → AreFit ends least most
fit_num ends least nod one le = fit_of ends least most nod one (inr (lit< tt)) (lit≤ tt) le (lit≤ tt)

pub fit_above : (ends : ℕ × ℕ) → NoDigits ends → is_one_of ends ends.0 ≡ true → AreFit ends 1 (2 ^ 127)
fit_above ends nod one = fit_of ends 1 (2 ^ 127) nod one (inl (omega arith)) (lit≤ tt) (lit≤ tt) (lit≤ tt)

pub fit_times : (ends : ℕ × ℕ) (least : ℕ) → NoDigits ends → is_one_of ends ends.0 ≡ true → least ≤ 1 → AreFit ends least (2 ^ 127 - 1)
fit_times ends least nod one le = let big : 1 ≤ 2 ^ 127 - 1 = lit≤ tt in fit_of ends least (2 ^ 127 - 1) nod one (inl le) (lit≤ tt) (omega arith) big

ends_at : (b d : Bool) → NoDigits (cond d (32, 32) (cond b (32, 10) (10, 10)))
ends_at b true = spaces
ends_at true false = space_or_line
ends_at false false = lines

one_at : (b d : Bool) → let ends : ℕ × ℕ = cond d (32, 32) (cond b (32, 10) (10, 10)) in is_one_of ends ends.0 ≡ true
one_at b true = refl
one_at true false = refl
one_at false false = refl

pub good_int : (x : ℕ) (is_def : Bool) (least : ℕ) → least ≤ 1 → Grammar (SignedEnd (ends_behind x is_def) least) (signed (ends_behind x is_def) least)
good_int x is_def least le =
    let ends = ends_behind x is_def in
    let nod = ends_at (nat_lt x most) is_def in
    let one = one_at (nat_lt x most) is_def in
    good_signed ends least (fit_above ends nod one) (fit_times ends least nod one le)

-- ---- terms

abbrev pub AfterVariable : Bool → ℕ × ℕ → Lang (Turn Term (Option Term))
AfterVariable is_def x = Dep (SignedEnd (ends_behind x.0 is_def) 1) (λ c. Done (term_turn x.0 c))

abbrev pub OneTerm : Bool → ℕ → Lang (Turn Term (Option Term))
OneTerm is_def least = Dep (NaturalEnd (58, 58) least most) (AfterVariable is_def)

abbrev pub By : Lang (Turn Term (Option Term))
By = Dep (Word (codes "by ")) (λ _. Done (Last None))

good_by : Grammar By read_by
good_by = good_seq (Word (codes "by ")) (after_word (codes "by ")) (λ _. Done (Last None)) (λ _. give (Last None)) (good_word (codes "by ")) (λ _ _ _. good_done (Last None))

good_term : (is_def : Bool) (least : ℕ) → least ≤ most → Grammar (OneTerm is_def least) (read_one_term is_def least)
good_term is_def least le =
    good_seq (NaturalEnd (58, 58) least most) (natural (58, 58) least most) (AfterVariable is_def) (λ x. seq (signed (ends_behind x.0 is_def) 1) (λ c. give (term_turn x.0 c))) (good_natural (58, 58) least most (fit_num (58, 58) least colons refl le)) (λ x _ _.
    good_seq (SignedEnd (ends_behind x.0 is_def) 1) (signed (ends_behind x.0 is_def) 1) (λ c. Done (term_turn x.0 c)) (λ c. give (term_turn x.0 c)) (good_int x.0 is_def 1 (omega arith)) (λ c _ _. good_done (term_turn x.0 c)))

-- no variable comes from beyond the greatest one
none_beyond : (is_def : Bool) (least : ℕ) → most < least → (v : Turn Term (Option Term)) (t : List ℕ) → OneTerm is_def least v t → ⊥
none_beyond is_def least lt v t h = let above = h.first_text.above in let below = h.first_text.below in omega arith

plain_term : (b : Bool) (is_def : Bool) (least : ℕ) → nat_lt most least ≡ b → IsPlain (OneTerm is_def least)
plain_term true is_def least is = let lt : most < least = grind (arith, nat_tests) in λ v w s t h k. absurd (none_beyond is_def least lt v s h)
plain_term false is_def least is = let le : least ≤ most = grind (arith, nat_tests) in (good_term is_def least le).plain

term_avoids : (is_def : Bool) (least : ℕ) → Avoids 98 (OneTerm is_def least)
term_avoids is_def least v t h =
    let n = h.first_text in
    let below = n.below in
    let big : most ≤ 2 ^ 127 = lit≤ tt in
    let f = first_of_natural (58, 58) h.first.0 h.first.1 h.front (omega arith) n.whole in
    let high = f.4 in
    (f.0, f.1 ++ h.back, h.whole ∙ ap (λ x. x ++ h.back) f.2, λ same. omega arith)

-- a term, or, in a def, "by "
pub TermItem : Bool → ℕ → Lang (Turn Term (Option Term))
TermItem false least = OneTerm false least
TermItem true least = Either By (OneTerm true least)

-- which variables may be the least
abbrev pub MayCome : Bool → ℕ → Type 0
MayCome false least = least ≤ most
MayCome true least = least ≤ most + 1

good_def_by : (b : Bool) (least : ℕ) → nat_lt most least ≡ b → Grammar (Either By (OneTerm true least)) (λ text. cond (begins 98 text || b) (read_by text) (read_one_term true least text))
good_def_by true least is =
    let lt : most < least = grind (arith, nat_tests) in
    let g = good_same By (Either By (OneTerm true least)) read_by (λ v t h. inl h) (λ v t h. only v t lt h) good_by in
    record {
      plain = g.plain;
      some = g.some;
      read = λ text. subst (λ c. IsRead (Either By (OneTerm true least)) text (cond c (read_by text) (read_one_term true least text))) (sym (or-true (begins 98 text))) (g.read text);
    }
  where
    only : (v : Turn Term (Option Term)) (t : List ℕ) → most < least → Either By (OneTerm true least) v t → By v t
    only v t lt (inl h) = h
    only v t lt (inr h) = absurd (none_beyond true least lt v t h)
good_def_by false least is =
    let le : least ≤ most = grind (arith, nat_tests) in
    let g = good_either 98 By (OneTerm true least) read_by (read_one_term true least) (begins_word 98 (codes "y ") (λ _. Done (Last None))) (term_avoids true least) good_by (good_term true least le) in
    record {
      plain = g.plain;
      some = g.some;
      read = λ text. subst (λ c. IsRead (Either By (OneTerm true least)) text (cond c (read_by text) (read_one_term true least text))) (sym (or-false (begins 98 text))) (g.read text);
    }

good_item : (is_def : Bool) (least : ℕ) → MayCome is_def least → Grammar (TermItem is_def least) (read_term is_def least)
unfolding TermItem
good_item false least le = good_term false least le
good_item true least le = good_def_by (nat_lt most least) least refl

plain_item : (is_def : Bool) (least : ℕ) → IsPlain (TermItem is_def least)
unfolding TermItem
plain_item false least = plain_term (nat_lt most least) false least refl
plain_item true least = plain_either_of 98 By (OneTerm true least) good_by.plain (plain_term (nat_lt most least) true least refl) (begins_word 98 (codes "y ") (λ _. Done (Last None))) (term_avoids true least)

more_by : (b : Bool) (x : ℕ) (c : ℤ × ℕ) (a : Term) → ◌≡◌ {A = Turn Term (Option Term)} (More a) (cond b (Last (Some (x, c.0))) (More (x, c.0))) → (b ≡ false) × (a ≡ (x, c.0))
more_by true x c a h = absurd (cc)
more_by false x c a h = (refl, cc)

last_by : (b : Bool) (x : ℕ) (c : ℤ × ℕ) (o : Option Term) → ◌≡◌ {A = Turn Term (Option Term)} (Last o) (cond b (Last (Some (x, c.0))) (More (x, c.0))) → (b ≡ true) × (o ≡ Some (x, c.0))
last_by true x c o h = (refl, cc)
last_by false x c o h = absurd (cc)

-- a term's parts: its variable and coefficient, and the byte behind
pub record TermParts (is_def : Bool) (least x : ℕ) (c : ℤ × ℕ) (t : List ℕ) : Type 0 where
  pub whole : t ≡ decimal x ++ (58 ∷ (int_bytes c.0 ++ c.1 ∷ []))
  pub above : least ≤ x
  pub below : x ≤ most
  pub within : InRange 1 c.0
  pub ends_in : is_one_of (ends_behind x is_def) c.1 ≡ true

pub colon_is : (c : ℕ) → is_one_of (58, 58) c ≡ true → c ≡ 58
colon_is c h = grind (arith, nat_tests)

pub line_is : (c : ℕ) → is_one_of (10, 10) c ≡ true → c ≡ 10
line_is c h = grind (arith, nat_tests)

space_is : (c : ℕ) → is_one_of (32, 32) c ≡ true → c ≡ 32
space_is c h = grind (arith, nat_tests)

pub either_is : (c : ℕ) → is_one_of (32, 10) c ≡ true → (c == 10) ≡ false → c ≡ 32
either_is c h other = grind (arith, nat_tests)

pub eq_ten : (c : ℕ) → (c == 10) ≡ true → c ≡ 10
eq_ten c h = grind (arith, nat_tests)

term_parts : (is_def : Bool) (least : ℕ) (v : Turn Term (Option Term)) (t : List ℕ) → OneTerm is_def least v t → (x : ℕ) × (c : ℤ × ℕ) × (v ≡ term_turn x c) × TermParts is_def least x c t
term_parts is_def least v t h =
    let n = h.first_text in
    let b = h.back_text in
    let c = b.first_text in (
      h.first.0,
      b.first,
      b.back_text.0,
      record {
        whole = h.whole ∙ rw (n.whole, b.whole, c.whole, b.back_text.1, colon_is h.first.1 n.ends_in) (append_assoc (decimal h.first.0) (58 ∷ []) ((int_bytes b.first.0 ++ b.first.1 ∷ []) ++ []) ∙ ap (λ x. decimal h.first.0 ++ 58 ∷ x) (append-nil (int_bytes b.first.0 ++ b.first.1 ∷ [])));
        above = n.above;
        below = n.below;
        within = c.within;
        ends_in = c.ends_in;
      },
    )

from_parts : (is_def : Bool) (least x : ℕ) (c : ℤ × ℕ) (t : List ℕ) → TermParts is_def least x c t → OneTerm is_def least (term_turn x c) t
from_parts is_def least x c t h = record {
  first = (x, 58);
  front = decimal x ++ 58 ∷ [];
  back = int_bytes c.0 ++ c.1 ∷ [];
  whole = h.whole ∙ sym (append_assoc (decimal x) (58 ∷ []) (int_bytes c.0 ++ c.1 ∷ []));
  first_text = record { whole = refl; above = h.above; below = h.below; ends_in = refl };
  back_text = record { first = c; front = int_bytes c.0 ++ c.1 ∷ []; back = []; whole = sym (append-nil (int_bytes c.0 ++ c.1 ∷ [])); first_text = record { whole = refl; within = h.within; ends_in = h.ends_in }; back_text = (refl, refl) };
}

-- the text that a term has behind a space
term_spaced : (x : ℕ) (k : ℤ) (more : List ℕ) → 32 ∷ (decimal x ++ (58 ∷ (int_bytes k ++ more))) ≡ term_bytes (x, k) ++ more
term_spaced x k more =
    ap (λ y. 32 ∷ (decimal x ++ y)) (ap (λ y. 58 ∷ (y ++ more)) (sym (append-nil (int_bytes k)))) ∙ ap (λ y. 32 ∷ y) (sym (append_assoc (decimal x) (58 ∷ (int_bytes k ++ [])) more))

more_comes : (b is_def : Bool) (x : ℕ) (c : ℤ × ℕ) → nat_lt x most ≡ b → x ≤ most → (c.1 == 10) ≡ false → is_one_of (cond is_def (32, 32) (cond b (32, 10) (10, 10))) c.1 ≡ true → MayCome is_def (x + 1)
more_comes b true x c is le other ends = omega arith
more_comes true false x c is le other ends = let lt : x < most = grind (arith, nat_tests) in omega arith
more_comes false false x c is le other ends = let ten = line_is c.1 ends in absurd (false≢true (sym other ∙ rw ten refl))

term_more : (is_def : Bool) (least : ℕ) (a : Term) (t : List ℕ) → OneTerm is_def least (More a) t → MayCome is_def (next_variable a)
term_more is_def least a t h =
    let p = term_parts is_def least (More a) t h in
    let m = more_by (p.1.1 == 10) p.0 p.1 a p.2 in
    subst (λ (y : Term). MayCome is_def (next_variable y)) (sym m.1) (more_comes (nat_lt p.0 most) is_def p.0 p.1 refl p.3.below m.0 p.3.ends_in)

item_more : (is_def : Bool) (s : ℕ) (a : Term) (t : List ℕ) → MayCome is_def s → TermItem is_def s (More a) t → MayCome is_def (next_variable a)
unfolding TermItem
item_more false s a t comes h = term_more false s a t h
item_more true s a t comes (inr h) = term_more true s a t h
item_more true s a t comes (inl h) = let other = h.back_text.0 in absurd (cc)

term_takes : (is_def : Bool) (s : ℕ) (v : Turn Term (Option Term)) (t : List ℕ) → OneTerm is_def s v t → 0 < length t
term_takes is_def s v t h = let p = term_parts is_def s v t h in let sizes = ap length p.3.whole ∙ length-append (decimal p.0) (58 ∷ (int_bytes p.1.0 ++ p.1.1 ∷ [])) in let more : length (58 ∷ (int_bytes p.1.0 ++ p.1.1 ∷ [])) ≡ suc (length (int_bytes p.1.0 ++ p.1.1 ∷ [])) = refl in omega arith

item_takes : (is_def : Bool) (s : ℕ) (v : Turn Term (Option Term)) (t : List ℕ) → TermItem is_def s v t → 0 < length t
unfolding TermItem
item_takes false s v t h = term_takes false s v t h
item_takes true s v t (inr h) = term_takes true s v t h
item_takes true s v t (inl h) = let sizes = ap length (h.whole ∙ ap (λ x. x ++ h.back) h.first_text) in let more : length (codes "by " ++ h.back) ≡ 3 + length h.back = length-append (codes "by ") h.back in omega arith

line_ends : (b : Bool) → is_one_of (cond b (32, 10) (10, 10)) 10 ≡ true
line_ends true = refl
line_ends false = refl

item_ending : (is_def : Bool) (s : ℕ) → MayCome is_def s → (b : Option Term) × (t : List ℕ) × TermItem is_def s (Last b) t
unfolding TermItem
item_ending false s comes = (Some (s, pos 1), decimal s ++ (58 ∷ (int_bytes (pos 1) ++ 10 ∷ [])), from_parts false s s (pos 1, 10) _ (record { whole = refl; above = omega arith; below = comes; within = (omega arith, lit≤ tt); ends_in = line_ends (nat_lt s most) }))
item_ending true s comes = (None, codes "by ", inl (record { first = tt; front = codes "by "; back = []; whole = refl; first_text = refl; back_text = (refl, refl) }))

term_turns : (is_def : Bool) → Turns next_variable (TermItem is_def) (read_term is_def) (MayCome is_def)
term_turns is_def = record { plain = plain_item is_def; good = good_item is_def; more = item_more is_def; takes = item_takes is_def; ending = item_ending is_def }

first_comes : (is_def : Bool) → MayCome is_def 0
first_comes false = omega arith
first_comes true = omega arith

abbrev TermsOf : Bool → Lang Terms
TermsOf is_def = Dep (Loop next_variable (TermItem is_def) 0) (λ p. Done (with_last p.0 p.1))

good_terms : (is_def : Bool) → Grammar (TermsOf is_def) (read_terms is_def)
good_terms is_def =
    good_seq (Loop next_variable (TermItem is_def) 0) (λ text. loop next_variable (read_term is_def) (length text) 0 text) (λ p. Done (with_last p.0 p.1)) (λ p. give (with_last p.0 p.1))
    (good_loop next_variable (TermItem is_def) (read_term is_def) (MayCome is_def) 0 (term_turns is_def) (first_comes is_def)) (λ p _ _. good_done (with_last p.0 p.1))

-- ---- rows

-- what stands behind a row
abbrev pub row_end : Bool → List ℕ
row_end true = codes " by "
row_end false = codes "\n"

pub num_is : (x : ℕ) → x ≤ most → is_num x ≡ true
num_is x le = let lt : x < 2 ^ 32 = omega arith in grind (arith, nat_tests)

pub num_below : (x : ℕ) → is_num x ≡ true → x ≤ most
num_below x h = let lt : x < 2 ^ 32 = grind (arith, nat_tests) in omega arith

pub in_is : (k : ℤ) → InRange 0 k → in_i128 k ≡ true
in_is (pos n) h = let lt : n < 2 ^ 127 = omega (arith, h.1) in grind (arith, nat_tests)
in_is (negsuc n) h = grind (arith, nat_tests)

pub is_in : (k : ℤ) → in_i128 k ≡ true → InRange 0 k
is_in (pos n) h = let lt : n < 2 ^ 127 = grind (arith, nat_tests) in (omega arith, omega arith)
is_in (negsuc n) h = grind (arith, nat_tests)

nonzero_is : (k : ℤ) → InRange 1 k → is_nonzero k ≡ true
nonzero_is (pos zero) h = absurd (omega (arith, h.0))
nonzero_is (pos (suc n)) h = let lt : suc n < 2 ^ 127 = omega (arith, h.1) in let fits : in_i128 (pos (suc n)) ≡ true = grind (arith, nat_tests) in rw (int_eq-false (pos (suc n)) (λ e. absurd (cc)), fits) refl
nonzero_is (negsuc n) h = let fits : in_i128 (negsuc n) ≡ true = grind (arith, nat_tests) in fits

is_nonzero_in : (k : ℤ) → is_nonzero k ≡ true → InRange 1 k
is_nonzero_in (pos zero) h = absurd (false≢true h)
is_nonzero_in (pos (suc n)) h = let p = and_parts (not (int_eq (pos (suc n)) (pos 0))) (in_i128 (pos (suc n))) h in let r = is_in (pos (suc n)) p.1 in (omega arith, r.1)
is_nonzero_in (negsuc n) h = is_in (negsuc n) (and_parts (not (int_eq (negsuc n) (pos 0))) (in_i128 (negsuc n)) h).1

with_last-cons : (x : Term) (xs : Terms) (b : Option Term) → with_last (x ∷ xs) b ≡ x ∷ with_last xs b
with_last-cons x xs None = refl
with_last-cons x xs (Some t) = refl

one_has : (is_def : Bool) (least x : ℕ) (c : ℤ × ℕ) (t : List ℕ) (ts : Terms) → TermParts is_def least x c t → terms_have_text least ((x, c.0) ∷ ts) ≡ terms_have_text (x + 1) ts
one_has is_def least x c t ts p = first_by least (x, c.0) ts p.above (num_is x p.below) (nonzero_is c.0 p.within)

-- the terms' text behind a space, with what stands behind the row
record TermsText (is_def : Bool) (least : ℕ) (ts : Terms) (t : List ℕ) : Type 0 where
  pub has : terms_have_text least ts ≡ true
  pub whole : 32 ∷ t ≡ flat_map term_bytes ts ++ row_end is_def

last_text : (is_def : Bool) (least : ℕ) (b : Option Term) (t : List ℕ) → OneTerm is_def least (Last b) t → TermsText is_def least (with_last [] b) t
last_text true least b t h =
    let p = term_parts true least (Last b) t h in
    let m = last_by (p.1.1 == 10) p.0 p.1 b p.2 in
    let space = space_is p.1.1 p.3.ends_in in
    absurd (false≢true (sym (rw space refl) ∙ m.0))
last_text false least b t h =
    let p = term_parts false least (Last b) t h in
    let m = last_by (p.1.1 == 10) p.0 p.1 b p.2 in
    let line = eq_ten p.1.1 m.0 in
    subst (λ (o : Option Term). TermsText false least (with_last [] o) t) (sym m.1) (record {
      has = one_has false least p.0 p.1 t [] p.3;
      whole = ap (λ x. 32 ∷ x) p.3.whole ∙ ap (λ e. 32 ∷ (decimal p.0 ++ (58 ∷ (int_bytes p.1.0 ++ e ∷ [])))) line ∙ term_spaced p.0 p.1.0 (10 ∷ []) ∙ ap (λ x. x ++ 10 ∷ []) (sym (append-nil (term_bytes (p.0, p.1.0))));
    })

not_ten : (b is_def : Bool) (c : ℕ) → is_one_of (cond is_def (32, 32) (cond b (32, 10) (10, 10))) c ≡ true → (c == 10) ≡ false → c ≡ 32
not_ten b true c h other = space_is c h
not_ten true false c h other = either_is c h other
not_ten false false c h other = let ten = line_is c h in absurd (false≢true (sym other ∙ rw ten refl))

more_text : (is_def : Bool) (least : ℕ) (a : Term) (ts : Terms) (front back t : List ℕ) → t ≡ front ++ back → OneTerm is_def least (More a) front → TermsText is_def (next_variable a) ts back → TermsText is_def least (a ∷ ts) t
more_text is_def least a ts front back t whole h k =
    let p = term_parts is_def least (More a) front h in
    let m = more_by (p.1.1 == 10) p.0 p.1 a p.2 in
    let space = not_ten (nat_lt p.0 most) is_def p.1.1 p.3.ends_in m.0 in
    let x = p.0 in
    let c = p.1.0 in
    let rest : TermsText is_def (x + 1) ts back = subst (λ (y : Term). TermsText is_def (next_variable y) ts back) m.1 k in
    let front_is : 32 ∷ front ≡ term_bytes (x, c) ++ 32 ∷ [] = ap (λ y. 32 ∷ y) p.3.whole ∙ ap (λ e. 32 ∷ (decimal x ++ (58 ∷ (int_bytes c ++ e ∷ [])))) space ∙ term_spaced x c (32 ∷ []) in
    subst (λ (y : Term). TermsText is_def least (y ∷ ts) t) (sym m.1) (record {
      has = one_has is_def least x p.1 front ts p.3 ∙ rest.has;
      whole = ap (λ y. 32 ∷ y) whole ∙ ap (λ y. y ++ back) front_is ∙ append_assoc (term_bytes (x, c)) (32 ∷ []) back ∙ ap (λ y. term_bytes (x, c) ++ y) rest.whole ∙ sym (append_assoc (term_bytes (x, c)) (flat_map term_bytes ts) (row_end is_def));
    })

terms_to : (is_def : Bool) (s : ℕ) (xs : Terms) (b : Option Term) (t : List ℕ) → Items next_variable (TermItem is_def) s xs b t → TermsText is_def s (with_last xs b) t
unfolding TermItem
terms_to false s [] b t h = last_text false s b t h
terms_to true s [] b t (inr h) = last_text true s b t h
terms_to true s [] b t (inl h) =
    let none : b ≡ None = let e = h.back_text.0 in cc in
    subst (λ (o : Option Term). TermsText true s (with_last [] o) t) (sym none) (record { has = refl; whole = ap (λ x. 32 ∷ x) (h.whole ∙ rw (h.first_text, h.back_text.1) refl) })
terms_to false s (x ∷ xs) b t h = subst (λ (ts : Terms). TermsText false s ts t) (sym (with_last-cons x xs b)) (more_text false s x (with_last xs b) h.0 h.1 t h.2 h.3 (terms_to false (next_variable x) xs b h.1 h.4))
terms_to true s (x ∷ xs) b t h = subst (λ (ts : Terms). TermsText true s ts t) (sym (with_last-cons x xs b)) (by_item h.3 (terms_to true (next_variable x) xs b h.1 h.4))
  where
    by_item : TermItem true s (More x) h.0 → TermsText true (next_variable x) (with_last xs b) h.1 → TermsText true s (x ∷ with_last xs b) t
    by_item (inr k) rest = more_text true s x (with_last xs b) h.0 h.1 t h.2 k rest
    by_item (inl k) rest = let other = k.back_text.0 in absurd (cc)

-- terms that have a text, as items
record TermsItems (is_def : Bool) (s : ℕ) (ts : Terms) : Type 0 where
  pub items : Terms
  pub last : Option Term
  pub text : List ℕ
  pub same : with_last items last ≡ ts
  pub is_text : Items next_variable (TermItem is_def) s items last text

record HasParts (least : ℕ) (t : Term) (ts : Terms) : Type 0 where
  pub above : least ≤ t.0
  pub below : t.0 ≤ most
  pub within : InRange 1 t.1
  pub rest : terms_have_text (t.0 + 1) ts ≡ true

has_parts : (least : ℕ) (t : Term) (ts : Terms) → terms_have_text least (t ∷ ts) ≡ true → HasParts least t ts
has_parts least t ts h =
    let a = and_parts (nat_le least t.0 && is_num t.0 && is_nonzero t.1) (terms_have_text (t.0 + 1) ts) h in
    let b = and_parts (nat_le least t.0 && is_num t.0) (is_nonzero t.1) a.0 in
    let c = and_parts (nat_le least t.0) (is_num t.0) b.0 in
    let ge = c.0 in
    record { above = grind (arith, nat_tests); below = num_below t.0 c.1; within = is_nonzero_in t.1 b.1; rest = a.1 }

part_text_of : Term → ℕ → List ℕ
part_text_of t e = decimal t.0 ++ (58 ∷ (int_bytes t.1 ++ e ∷ []))

space_ends : (b : Bool) → b ≡ true → is_one_of (cond b (32, 10) (10, 10)) 32 ≡ true
space_ends true h = refl
space_ends false h = absurd (false≢true h)

one_of_parts : (is_def : Bool) (least : ℕ) (t : Term) (ts : Terms) (e : ℕ) → HasParts least t ts → is_one_of (ends_behind t.0 is_def) e ≡ true → OneTerm is_def least (term_turn t.0 (t.1, e)) (part_text_of t e)
unfolding part_text_of
one_of_parts is_def least t ts e p ends = from_parts is_def least t.0 (t.1, e) (part_text_of t e) (record { whole = refl; above = p.above; below = p.below; within = p.within; ends_in = ends })

terms_def : (s : ℕ) (ts : Terms) → terms_have_text s ts ≡ true → TermsItems true s ts
unfolding TermItem
terms_def s [] h = record { items = []; last = None; text = codes "by "; same = refl; is_text = inl (record { first = tt; front = codes "by "; back = []; whole = refl; first_text = refl; back_text = (refl, refl) }) }
terms_def s (t ∷ ts) h =
    let p = has_parts s t ts h in
    let rest = terms_def (t.0 + 1) ts p.rest in
    record { items = t ∷ rest.items; last = rest.last; text = part_text_of t 32 ++ rest.text; same = with_last-cons t rest.items rest.last ∙ ap (λ x. t ∷ x) rest.same; is_text = (part_text_of t 32, rest.text, refl, inr (one_of_parts true s t ts 32 p refl), rest.is_text) }

terms_line : (s : ℕ) (t : Term) (ts : Terms) → terms_have_text s (t ∷ ts) ≡ true → TermsItems false s (t ∷ ts)
unfolding TermItem
terms_line s t [] h = let p = has_parts s t [] h in record { items = []; last = Some t; text = part_text_of t 10; same = refl; is_text = one_of_parts false s t [] 10 p (line_ends (nat_lt t.0 most)) }
terms_line s t (u ∷ us) h =
    let p = has_parts s t (u ∷ us) h in
    let q = has_parts (t.0 + 1) u us p.rest in
    let lt : t.0 < most = omega (arith, q.above, q.below) in
    let room : nat_lt t.0 most ≡ true = grind (arith, nat_tests) in
    let rest = terms_line (t.0 + 1) u us p.rest in
    record { items = t ∷ rest.items; last = rest.last; text = part_text_of t 32 ++ rest.text; same = with_last-cons t rest.items rest.last ∙ ap (λ x. t ∷ x) rest.same; is_text = (part_text_of t 32, rest.text, refl, one_of_parts false s t (u ∷ us) 32 p (space_ends (nat_lt t.0 most) room), rest.is_text) }

-- a row's constant, and then
AfterConstant : Bool → Bool → ℤ → Lang Form
AfterConstant true is_def k = Done (row_of k [])
AfterConstant false is_def k = Dep (TermsOf is_def) (λ ts. Done (row_of k ts))

good_after : (b is_def : Bool) (k : ℤ) → Grammar (AfterConstant b is_def k) (λ text. cond b (give (row_of k []) text) (seq (read_terms is_def) (λ ts. give (row_of k ts)) text))
unfolding AfterConstant
good_after true is_def k = good_done (row_of k [])
good_after false is_def k = good_seq (TermsOf is_def) (read_terms is_def) (λ ts. Done (row_of k ts)) (λ ts. give (row_of k ts)) (good_terms is_def) (λ ts _ _. good_done (row_of k ts))

RowParts : Bool → Lang Form
RowParts is_def = Dep (SignedEnd (ends_behind 0 is_def) 0) (λ k. AfterConstant (k.1 == 10) is_def k.0)

-- a row's text with what stands behind it
pub record RowText (is_def : Bool) (row : Form) (t : List ℕ) : Type 0 where
  pub has : row_has_text row ≡ true
  pub whole : t ≡ row_bytes row ++ row_end is_def

row_after : (b is_def : Bool) (k : ℤ) (e : ℕ) (row : Form) (front back t : List ℕ) → (e == 10) ≡ b → t ≡ front ++ back → SignedEnd (ends_behind 0 is_def) 0 (k, e) front → AfterConstant b is_def k row back → RowText is_def row t
unfolding AfterConstant
row_after true true k e row front back t is whole h r = let space = space_is e h.ends_in in absurd (false≢true (sym (rw space refl) ∙ is))
row_after true false k e row front back t is whole h r =
    subst (λ (f : Form). RowText false f t) (sym r.0) (record {
      has = rw (in_is k h.within) refl;
      whole = whole ∙ rw (h.whole, r.1, eq_ten e is) (append-nil (int_bytes k ++ 10 ∷ []) ∙ ap (λ x. x ++ 10 ∷ []) (sym (append-nil (int_bytes k))));
    })
row_after false is_def k e row front back t is whole h r =
    let l = r.first_text in
    let p = l.first in
    let terms = terms_to is_def 0 p.0 p.1 l.front l.first_text in
    let terms_is : r.first ≡ with_last p.0 p.1 = l.back_text.0 in
    let row_is : row ≡ row_of k (with_last p.0 p.1) = r.back_text.0 ∙ ap (row_of k) terms_is in
    let back_is : back ≡ l.front = r.whole ∙ rw (l.whole, r.back_text.1, l.back_text.1) (append-nil (l.front ++ []) ∙ append-nil l.front) in
    let space = not_ten (nat_lt 0 most) is_def e h.ends_in is in
    subst (λ (f : Form). RowText is_def f t) (sym row_is) (record {
      has = rw (in_is k h.within) terms.has;
      whole = whole ∙ rw (h.whole, back_is, space) (append_assoc (int_bytes k) (32 ∷ []) l.front ∙ ap (λ x. int_bytes k ++ x) terms.whole ∙ sym (append_assoc (int_bytes k) (flat_map term_bytes (with_last p.0 p.1)) (row_end is_def)));
    })

to_row : (is_def : Bool) (row : Form) (t : List ℕ) → RowParts is_def row t → RowText is_def row t
unfolding RowParts
to_row is_def row t h = row_after (h.first.1 == 10) is_def h.first.0 h.first.1 row h.front h.back t refl h.whole h.first_text h.back_text

with_terms : (is_def : Bool) (k : ℤ) (ts : Terms) (t : List ℕ) → in_i128 k ≡ true → TermsItems is_def 0 ts → terms_have_text 0 ts ≡ true → t ≡ row_bytes (row_of k ts) ++ row_end is_def → is_one_of (ends_behind 0 is_def) 32 ≡ true → RowParts is_def (row_of k ts) t
unfolding RowParts AfterConstant
with_terms is_def k ts t fits items has whole ends =
    let terms = terms_to is_def 0 items.items items.last items.text items.is_text in
    let same = items.same in
    let text_is : 32 ∷ items.text ≡ flat_map term_bytes ts ++ row_end is_def = terms.whole ∙ ap (λ x. flat_map term_bytes x ++ row_end is_def) same in
    record {
      first = (k, 32);
      front = int_bytes k ++ 32 ∷ [];
      back = items.text;
      whole = whole ∙ append_assoc (int_bytes k) (flat_map term_bytes ts) (row_end is_def) ∙ ap (λ x. int_bytes k ++ x) (sym text_is) ∙ sym (append_assoc (int_bytes k) (32 ∷ []) items.text);
      first_text = record { whole = refl; within = is_in k fits; ends_in = ends };
      back_text = record {
        first = ts;
        front = items.text;
        back = [];
        whole = sym (append-nil items.text);
        first_text = record { first = (items.items, items.last); front = items.text; back = []; whole = sym (append-nil items.text); first_text = items.is_text; back_text = (sym same, refl) };
        back_text = (refl, refl);
      };
    }

no_terms : (k : ℤ) (t : List ℕ) → in_i128 k ≡ true → t ≡ row_bytes (row_of k []) ++ row_end false → RowParts false (row_of k []) t
unfolding RowParts AfterConstant
no_terms k t fits whole = record {
  first = (k, 10);
  front = int_bytes k ++ 10 ∷ [];
  back = [];
  whole = whole ∙ ap (λ x. x ++ 10 ∷ []) (append-nil (int_bytes k)) ∙ sym (append-nil (int_bytes k ++ 10 ∷ []));
  first_text = record { whole = refl; within = is_in k fits; ends_in = refl };
  back_text = (refl, refl);
}

from_row : (is_def : Bool) (row : Form) (t : List ℕ) → RowText is_def row t → RowParts is_def row t
from_row is_def row t h = by_terms is_def row.terms (and_parts (in_i128 row.k) (terms_have_text 0 row.terms) h.has) h.whole
  where
    by_terms : (is_def : Bool) (ts : Terms) → (in_i128 row.k ≡ true) × (terms_have_text 0 ts ≡ true) → t ≡ row_bytes (row_of row.k ts) ++ row_end is_def → RowParts is_def (row_of row.k ts) t
    by_terms true ts has whole = with_terms true row.k ts t has.0 (terms_def 0 ts has.1) has.1 whole refl
    by_terms false [] has whole = no_terms row.k t has.0 whole
    by_terms false (x ∷ xs) has whole = with_terms false row.k (x ∷ xs) t has.0 (terms_line 0 x xs has.1) has.1 whole refl

pub good_row : (is_def : Bool) → Grammar (RowText is_def) (read_row is_def)
unfolding RowParts
good_row is_def =
    good_same (RowParts is_def) (RowText is_def) (read_row is_def) (to_row is_def) (from_row is_def)
    (good_seq (SignedEnd (ends_behind 0 is_def) 0) (signed (ends_behind 0 is_def) 0) (λ k. AfterConstant (k.1 == 10) is_def k.0) (λ k text. cond (k.1 == 10) (give (row_of k.0 []) text) (seq (read_terms is_def) (λ ts. give (row_of k.0 ts)) text))
    (good_int 0 is_def 0 (omega arith)) (λ k _ _. good_after (k.1 == 10) is_def k.0))

-- terms that are read ascend and have coefficients other than 0
above_of : (least : ℕ) (ts : Terms) (x : ℕ) → x < least → terms_have_text least ts ≡ true → IsAbove x ts
above_of least [] x lt h = tt
above_of least (t ∷ ts) x lt h = let p = has_parts least t ts h in let ge = p.above in (omega arith, above_of (t.0 + 1) ts x (omega arith) p.rest)

canonical_of : (least : ℕ) (ts : Terms) → terms_have_text least ts ≡ true → IsCanonical ts
canonical_of least [] h = tt
canonical_of least (t ∷ ts) h =
    let p = has_parts least t ts h in
    (above_of (t.0 + 1) ts t.0 (omega arith) p.rest, λ zero_is. not_zero t.1 p.within zero_is, canonical_of (t.0 + 1) ts p.rest)
  where
    not_zero : (k : ℤ) → InRange 1 k → k ≡ pos 0 → ⊥
    not_zero (pos zero) h e = omega (arith, h.0)
    not_zero (pos (suc n)) h e = absurd (cc)
    not_zero (negsuc n) h e = absurd (cc)

pub read_canonical : (is_def : Bool) (text left : List ℕ) (ts : Terms) → read_terms is_def text ≡ Ok (ts, left) → IsCanonical ts
read_canonical is_def text left ts is =
    let r : IsRead (TermsOf is_def) text (Ok (ts, left)) = subst (λ (a : Answer Terms). IsRead (TermsOf is_def) text a) is ((good_terms is_def).read text) in
    let l = r.is_text in
    let p = l.first in
    subst IsCanonical (sym l.back_text.0) (canonical_of 0 (with_last p.0 p.1) (terms_to is_def 0 p.0 p.1 l.front l.first_text).has)
