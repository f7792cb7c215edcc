-- Reading derivations: each answer is right for the derivations' texts.
use Rattle.std.proofs.Common.{◌≡◌, ℕ, zero, suc, ◌-◌, ◌^◌, ◌<◌, ◌≤◌, ◌==◌, ◌&&◌, nat_lt, ℤ, pos, negsuc, Bool, true, false, cond, inl, inr, List, [], ◌∷◌, ◌++◌, length, refl, sym, ◌∙◌, ap, subst, arith, append_assoc, codes, rules, lit≤, lit<, length-append}
use Rattle.std.specs.Fmt.{decimal}
use Rattle.std.specs.List.{flat_map, concat, list_all}
use Rattle.std.proofs.lemmas.Bool.{false≢true, and_parts}
use Rattle.std.proofs.lemmas.Bool.Decides.{nat_tests}
use Rattle.std.proofs.lemmas.List.{append-nil}
use Rattle.lin_proof.specs.Form.{Form}
use Rattle.lin_proof.specs.declared.derivation.Step.{Step}
use Rattle.lin_proof.specs.declared.derivation.Step.TheVariants.{Fact, Sum, Cut}
use Rattle.lin_proof.specs.declared.derivation.Derivation.{Derivation}
use Rattle.lin_proof.specs.declared.derivation.Branch.{Branch}
use Rattle.lin_proof.specs.declared.derivation.Ending.{Ending}
use Rattle.lin_proof.specs.declared.derivation.Ending.TheVariants.{Closed, Cases, rolls-Closed, rolls-Cases}
use Rattle.lin_proof.specs.declared.derivation.Ending.TheViews.{the_lemmas, roll-Ending, roll-Branch, out-Ending, out-Branch, out-Derivation, roll-out-Ending, roll-out-Branch, roll-out-Derivation}
use Rattle.lin_proof.specs.declared.derivation.Ending.TheFolds.{fold-roll-Branch, fold-roll-Derivation, fold_out-Ending}
use Rattle.lin_proof.specs.declared.derivation.Ending.TheOpen.{Ending-F}
use Rattle.cert_text.specs.declared.turn.Turn.{Turn}
use Rattle.cert_text.specs.declared.turn.Turn.TheVariants.{More, Last}
use Rattle.cert_text.specs.Texts.{is_num, is_above_zero, part_text, part_has_text, step_text, step_has_text, row_has_text, derivation_text, derivation_has_text, ending_has_text, branch_has_text, Nested, ending_nested, branch_nested, derivation_nested}
use Rattle.cert_text.specs.steps.Read.{after_word}
use Rattle.cert_text.specs.steps.Write.{int_bytes, row_bytes}
use Rattle.cert_text.specs.steps.Numbers.{is_one_of, natural}
use Rattle.cert_text.specs.steps.Parts.{most, most_times, alike, read_row, read_part, part_turn, read_one_part, read_parts, read_fact, read_sum, read_cut, read_case, read_closed, read_behind_c, read_c, read_step, read_steps, derived, read_cases, read_ending, read_derivation}
use Rattle.cert_text.specs.steps.Readers.{Reader, give, seq, either, loop}
use Rattle.cert_text.proofs.Language.{Lang, Dep, Done, Word}
use Rattle.cert_text.proofs.Grammars.{Grammar, Either, Loop, Items, Turns, good_word, good_done, good_seq, good_same, good_either, good_loop, begins_word, avoids_word, avoids_either}
use Rattle.cert_text.proofs.Naturals.{NaturalEnd, NoDigits, good_natural}
use Rattle.cert_text.proofs.Rows.{space_or_line, lines, colons, fit_num, fit_times, num_is, num_below, colon_is, line_is, eq_ten, either_is, RowText, good_row}

-- ---- parts of sums

PartParts : ℕ → Lang ((ℤ × ℕ) × ℕ)
PartParts behind = Dep (NaturalEnd (58, 58) 1 most_times) (λ m. Dep (NaturalEnd (behind, 10) 0 most) (λ n. Done ((pos m.0, n.0), n.1)))

-- a part's text behind a space, and an end
pub record PartText (behind : ℕ) (p : (ℤ × ℕ) × ℕ) (t : List ℕ) : Type 0 where
  pub has : part_has_text p.0 ≡ true
  pub whole : 32 ∷ t ≡ part_text p.0 ++ p.1 ∷ []
  pub ends_in : is_one_of (behind, 10) p.1 ≡ true

part_spaced : (m n e : ℕ) → 32 ∷ ((decimal m ++ 58 ∷ []) ++ ((decimal n ++ e ∷ []) ++ [])) ≡ part_text (pos m, n) ++ e ∷ []
part_spaced m n e =
    ap (λ y. 32 ∷ y) (append_assoc (decimal m) (58 ∷ []) ((decimal n ++ e ∷ []) ++ []) ∙ ap (λ y. decimal m ++ 58 ∷ y) (append-nil (decimal n ++ e ∷ []))
    ∙ ap (λ y. decimal m ++ 58 ∷ (y ++ e ∷ [])) (sym (append-nil (decimal n))) ∙ sym (append_assoc (decimal m) (58 ∷ (decimal n ++ [])) (e ∷ [])))

pub times_is : (m : ℕ) → 1 ≤ m → m ≤ most_times → is_above_zero (pos m) ≡ true
times_is zero low high = absurd (omega arith)
times_is (suc m) low high = let lt : suc m < 2 ^ 127 = omega arith in grind (arith, nat_tests)

to_part : (behind : ℕ) (p : (ℤ × ℕ) × ℕ) (t : List ℕ) → PartParts behind p t → PartText behind p t
unfolding PartParts
to_part behind p t h =
    let m = h.first_text in
    let b = h.back_text in
    let n = b.first_text in
    subst (λ (q : (ℤ × ℕ) × ℕ). PartText behind q t) (sym b.back_text.0) (record {
      has = rw (times_is h.first.0 m.above m.below, num_is b.first.0 n.below) refl;
      whole = ap (λ x. 32 ∷ x) (h.whole ∙ rw (m.whole, b.whole, n.whole, b.back_text.1, colon_is h.first.1 m.ends_in) refl) ∙ part_spaced h.first.0 b.first.0 b.first.1;
      ends_in = n.ends_in;
    })

pub times_below : (k : ℤ) → is_above_zero k ≡ true → (m : ℕ) × (k ≡ pos m) × (1 ≤ m) × (m ≤ most_times)
times_below (pos zero) h = absurd (false≢true h)
times_below (pos (suc m)) h = let lt : suc m < 2 ^ 127 = grind (arith, nat_tests) in (suc m, refl, omega arith, omega arith)
times_below (negsuc m) h = absurd (false≢true h)

same_tail : (c : ℕ) (s t : List ℕ) → c ∷ s ≡ c ∷ t → s ≡ t
same_tail c s t h = cc

from_part : (behind : ℕ) (p : (ℤ × ℕ) × ℕ) (t : List ℕ) → PartText behind p t → PartParts behind p t
unfolding PartParts
from_part behind ((k, n), e) t h =
    let parts = and_parts (is_above_zero k) (is_num n) h.has in
    let m = times_below k parts.0 in
    subst (λ (j : ℤ). PartParts behind ((j, n), e) t) (sym m.1) (record {
      first = (m.0, 58);
      front = decimal m.0 ++ 58 ∷ [];
      back = (decimal n ++ e ∷ []) ++ [];
      whole = same_tail 32 t _ (h.whole ∙ ap (λ (j : ℤ). part_text (j, n) ++ e ∷ []) m.1 ∙ sym (part_spaced m.0 n e));
      first_text = record { whole = refl; above = m.2; below = m.3; ends_in = refl };
      back_text = record { first = (n, e); front = decimal n ++ e ∷ []; back = []; whole = refl; first_text = record { whole = refl; above = omega arith; below = num_below n parts.1; ends_in = h.ends_in }; back_text = (refl, refl) };
    })

part_parts : (m n e behind : ℕ) → 1 ≤ m → m ≤ most_times → n ≤ most → is_one_of (behind, 10) e ≡ true → PartParts behind ((pos m, n), e) ((decimal m ++ 58 ∷ []) ++ ((decimal n ++ e ∷ []) ++ []))
unfolding PartParts
part_parts m n e behind low high le ends = record {
  first = (m, 58);
  front = decimal m ++ 58 ∷ [];
  back = (decimal n ++ e ∷ []) ++ [];
  whole = refl;
  first_text = record { whole = refl; above = low; below = high; ends_in = refl };
  back_text = record { first = (n, e); front = decimal n ++ e ∷ []; back = []; whole = refl; first_text = record { whole = refl; above = omega arith; below = le; ends_in = ends }; back_text = (refl, refl) };
}

good_part : (behind : ℕ) → NoDigits (behind, 10) → is_one_of (behind, 10) behind ≡ true → Grammar (PartText behind) (read_part behind)
unfolding PartParts
good_part behind nod one =
    good_same (PartParts behind) (PartText behind) (read_part behind) (to_part behind) (from_part behind)
    (good_seq (NaturalEnd (58, 58) 1 most_times) (natural (58, 58) 1 most_times) (λ m. Dep (NaturalEnd (behind, 10) 0 most) (λ n. Done ((pos m.0, n.0), n.1))) (λ m. seq (natural (behind, 10) 0 most) (λ n. give ((pos m.0, n.0), n.1)))
    (good_natural (58, 58) 1 most_times (fit_times (58, 58) 1 colons refl (omega arith))) (λ m _ _.
    good_seq (NaturalEnd (behind, 10) 0 most) (natural (behind, 10) 0 most) (λ n. Done ((pos m.0, n.0), n.1)) (λ n. give ((pos m.0, n.0), n.1)) (good_natural (behind, 10) 0 most (fit_num (behind, 10) 0 nod one (omega arith))) (λ n _ _. good_done ((pos m.0, n.0), n.1))))

-- ---- sums

abbrev OnePart : ℕ → Lang (Turn (ℤ × ℕ) (ℤ × ℕ))
OnePart _ = Dep (PartText 32) (λ p. Done (part_turn p))

good_one_part : Grammar (OnePart 0) read_one_part
good_one_part = good_seq (PartText 32) (read_part 32) (λ p. Done (part_turn p)) (λ p. give (part_turn p)) (good_part 32 space_or_line refl) (λ p _ _. good_done (part_turn p))

abbrev pub Any : ℕ → Type 0
Any _ = Unit {0}

part_takes : (v : Turn (ℤ × ℕ) (ℤ × ℕ)) (t : List ℕ) → OnePart 0 v t → 0 < length t
part_takes v t h =
    let whole = h.first_text.whole in
    let sizes = ap length h.whole ∙ length-append h.front h.back in
    let front = ap length whole ∙ length-append (part_text h.first.0) (h.first.1 ∷ []) in
    let some = front_size h.first.0 in
    let one : length (32 ∷ h.front) ≡ suc (length h.front) = refl in
    omega arith
  where
    front_size : (p : ℤ × ℕ) → 1 ≤ length (part_text p)
    front_size p = let first : length (32 ∷ (int_bytes p.0 ++ (58 ∷ (int_bytes (pos p.1) ++ [])))) ≡ suc (length (int_bytes p.0 ++ (58 ∷ (int_bytes (pos p.1) ++ [])))) = refl in omega arith

part_ending : (b : ℤ × ℕ) × (t : List ℕ) × OnePart 0 (Last b) t
part_ending =
    let p : PartParts 32 ((pos 1, 0), 10) ((decimal 1 ++ 58 ∷ []) ++ ((decimal 0 ++ 10 ∷ []) ++ [])) = parts_end in
    ((pos 1, 0), (decimal 1 ++ 58 ∷ []) ++ ((decimal 0 ++ 10 ∷ []) ++ []), record { first = ((pos 1, 0), 10); front = (decimal 1 ++ 58 ∷ []) ++ ((decimal 0 ++ 10 ∷ []) ++ []); back = []; whole = sym (append-nil ((decimal 1 ++ 58 ∷ []) ++ ((decimal 0 ++ 10 ∷ []) ++ []))); first_text = to_part 32 ((pos 1, 0), 10) _ p; back_text = (refl, refl) })
  where
    parts_end : PartParts 32 ((pos 1, 0), 10) ((decimal 1 ++ 58 ∷ []) ++ ((decimal 0 ++ 10 ∷ []) ++ []))
    parts_end = part_parts 1 0 10 32 (omega arith) (lit≤ tt) (omega arith) refl

part_turns : Turns alike OnePart (λ _. read_one_part) Any
part_turns = record { plain = λ s. good_one_part.plain; good = λ s _. good_one_part; more = λ s a t _ _. tt; takes = λ s v t h. part_takes v t h; ending = λ s _. part_ending }

-- parts' text behind a space, and the line's end
pub record PartsText (ps : List (ℤ × ℕ)) (t : List ℕ) : Type 0 where
  pub some : 0 < length ps
  pub has : list_all part_has_text ps ≡ true
  pub whole : 32 ∷ t ≡ flat_map part_text ps ++ 10 ∷ []

turn_more : (b : Bool) (p : ℤ × ℕ) (a : ℤ × ℕ) → ◌≡◌ {A = Turn (ℤ × ℕ) (ℤ × ℕ)} (More a) (cond b (Last p) (More p)) → (b ≡ false) × (a ≡ p)
turn_more true p a h = absurd (cc)
turn_more false p a h = (refl, cc)

turn_last : (b : Bool) (p : ℤ × ℕ) (a : ℤ × ℕ) → ◌≡◌ {A = Turn (ℤ × ℕ) (ℤ × ℕ)} (Last a) (cond b (Last p) (More p)) → (b ≡ true) × (a ≡ p)
turn_last true p a h = (refl, cc)
turn_last false p a h = absurd (cc)

parts_to : (s : ℕ) (xs : List (ℤ × ℕ)) (b : ℤ × ℕ) (t : List ℕ) → Items alike OnePart s xs b t → PartsText (xs ++ b ∷ []) t
parts_to s [] b t h =
    let p = h.first_text in
    let m = turn_last (h.first.1 == 10) h.first.0 b h.back_text.0 in
    let line = eq_ten h.first.1 m.0 in
    subst (λ (q : ℤ × ℕ). PartsText (q ∷ []) t) (sym m.1) (record {
      some = omega arith;
      has = rw (p.has) refl;
      whole = ap (λ x. 32 ∷ x) (h.whole ∙ rw (h.back_text.1) (append-nil h.front)) ∙ p.whole ∙ ap (λ e. part_text h.first.0 ++ e ∷ []) line ∙ ap (λ x. x ++ 10 ∷ []) (sym (append-nil (part_text h.first.0)));
    })
parts_to s (x ∷ xs) b t h =
    let o = h.3 in
    let p = o.first_text in
    let m = turn_more (o.first.1 == 10) o.first.0 x o.back_text.0 in
    let space = either_is o.first.1 p.ends_in m.0 in
    let rest = parts_to 0 xs b h.1 h.4 in
    let front_is : 32 ∷ h.0 ≡ part_text o.first.0 ++ 32 ∷ [] = ap (λ y. 32 ∷ y) (o.whole ∙ rw (o.back_text.1) (append-nil o.front)) ∙ p.whole ∙ ap (λ e. part_text o.first.0 ++ e ∷ []) space in
    subst (λ (q : ℤ × ℕ). PartsText (q ∷ (xs ++ b ∷ [])) t) (sym m.1) (record {
      some = omega arith;
      has = rw (p.has, rest.has) refl;
      whole = ap (λ y. 32 ∷ y) h.2 ∙ ap (λ y. y ++ h.1) front_is ∙ append_assoc (part_text o.first.0) (32 ∷ []) h.1 ∙ ap (λ y. part_text o.first.0 ++ y) rest.whole ∙ sym (append_assoc (part_text o.first.0) (flat_map part_text (xs ++ b ∷ [])) (10 ∷ []));
    })

PartsParts : Lang (List (ℤ × ℕ))
PartsParts = Dep (Loop alike OnePart 0) (λ p. Done (p.0 ++ p.1 ∷ []))

to_parts : (ps : List (ℤ × ℕ)) (t : List ℕ) → PartsParts ps t → PartsText ps t
unfolding PartsParts
to_parts ps t h = subst (λ (qs : List (ℤ × ℕ)). PartsText qs t) (sym h.back_text.0) (subst (λ x. PartsText (h.first.0 ++ h.first.1 ∷ []) x) (sym (h.whole ∙ rw (h.back_text.1) (append-nil h.front))) (parts_to 0 h.first.0 h.first.1 h.front h.first_text))

-- parts that have a text, as items
record PartsItems (ps : List (ℤ × ℕ)) : Type 0 where
  pub items : List (ℤ × ℕ)
  pub last : ℤ × ℕ
  pub text : List ℕ
  pub same : items ++ last ∷ [] ≡ ps
  pub is_text : Items alike OnePart 0 items last text

one_text : (p : ℤ × ℕ) (e : ℕ) → part_has_text p ≡ true → is_one_of (32, 10) e ≡ true → (t : List ℕ) × OnePart 0 (part_turn (p, e)) t
one_text (k, n) e has ends =
    let parts = and_parts (is_above_zero k) (is_num n) has in
    let m = times_below k parts.0 in
    let text = (decimal m.0 ++ 58 ∷ []) ++ ((decimal n ++ e ∷ []) ++ []) in
    let p : PartParts 32 ((pos m.0, n), e) text = part_parts m.0 n e 32 m.2 m.3 (num_below n parts.1) ends in
    subst (λ (j : ℤ). (t : List ℕ) × OnePart 0 (part_turn ((j, n), e)) t) (sym m.1) (text, record { first = ((pos m.0, n), e); front = text; back = []; whole = sym (append-nil text); first_text = to_part 32 ((pos m.0, n), e) text p; back_text = (refl, refl) })

parts_items : (p : ℤ × ℕ) (ps : List (ℤ × ℕ)) → list_all part_has_text (p ∷ ps) ≡ true → PartsItems (p ∷ ps)
parts_items p [] h = let o = one_text p 10 (and_parts (part_has_text p) true h).0 refl in record { items = []; last = p; text = o.0; same = refl; is_text = o.1 }
parts_items p (q ∷ ps) h =
    let has = and_parts (part_has_text p) (list_all part_has_text (q ∷ ps)) h in
    let o = one_text p 32 has.0 refl in
    let rest = parts_items q ps has.1 in
    record { items = p ∷ rest.items; last = rest.last; text = o.0 ++ rest.text; same = ap (λ x. p ∷ x) rest.same; is_text = (o.0, rest.text, refl, o.1, rest.is_text) }

from_parts_text : (ps : List (ℤ × ℕ)) (t : List ℕ) → PartsText ps t → PartsParts ps t
unfolding PartsParts
from_parts_text [] t h = absurd (omega (arith, h.some))
from_parts_text (p ∷ ps) t h =
    let i = parts_items p ps h.has in
    let told = parts_to 0 i.items i.last i.text i.is_text in
    let text_is : t ≡ i.text = same_tail 32 t i.text (h.whole ∙ ap (λ (qs : List (ℤ × ℕ)). flat_map part_text qs ++ 10 ∷ []) (sym i.same) ∙ sym told.whole) in
    record { first = (i.items, i.last); front = i.text; back = []; whole = text_is ∙ sym (append-nil i.text); first_text = i.is_text; back_text = (sym i.same, refl) }

good_parts : Grammar PartsText read_parts
unfolding PartsParts
good_parts =
    good_same PartsParts PartsText read_parts to_parts from_parts_text
    (good_seq (Loop alike OnePart 0) (λ text. loop alike (λ _. read_one_part) (length text) 0 text) (λ p. Done (p.0 ++ p.1 ∷ [])) (λ p. give (p.0 ++ p.1 ∷ [])) (good_loop alike OnePart (λ _. read_one_part) Any 0 part_turns tt) (λ p _ _. good_done (p.0 ++ p.1 ∷ [])))

-- ---- steps, and what stands behind them

FactParts : Lang (Turn Step Bool)
FactParts = Dep (Word (codes "fact ")) (λ _. Dep (NaturalEnd (10, 10) 0 most) (λ n. Done (More (Fact n.0))))

SumParts : Lang (Turn Step Bool)
SumParts = Dep (Word (codes "sum ")) (λ _. Dep PartsText (λ ps. Done (More (Sum ps))))

CutParts : Lang (Turn Step Bool)
CutParts = Dep (Word (codes "ut ")) (λ _. Dep (PartText 10) (λ p. Done (More (Cut p.0.0 p.0.1))))

CaseParts : Lang (Turn Step Bool)
CaseParts = Dep (Word (codes "ase ")) (λ _. Done (Last false))

ClosedParts : Lang (Turn Step Bool)
ClosedParts = Dep (Word (codes "losed\n")) (λ _. Done (Last true))

BehindC : ℕ → Lang (Turn Step Bool)
BehindC zero = Either CutParts ClosedParts
BehindC (suc cases) = Either CutParts (Either CaseParts ClosedParts)

CParts : ℕ → Lang (Turn Step Bool)
CParts cases = Dep (Word (codes "c")) (λ _. BehindC cases)

StepParts : ℕ → Lang (Turn Step Bool)
StepParts cases = Either FactParts (Either SumParts (CParts cases))

good_fact : Grammar FactParts read_fact
unfolding FactParts
good_fact =
    good_seq (Word (codes "fact ")) (after_word (codes "fact ")) (λ _. Dep (NaturalEnd (10, 10) 0 most) (λ n. Done (More (Fact n.0)))) (λ _. seq (natural (10, 10) 0 most) (λ n. give (More (Fact n.0)))) (good_word (codes "fact ")) (λ _ _ _.
    good_seq (NaturalEnd (10, 10) 0 most) (natural (10, 10) 0 most) (λ n. Done (More (Fact n.0))) (λ n. give (More (Fact n.0))) (good_natural (10, 10) 0 most (fit_num (10, 10) 0 lines refl (omega arith))) (λ n _ _. good_done (More (Fact n.0))))

good_sum : Grammar SumParts read_sum
unfolding SumParts
good_sum =
    good_seq (Word (codes "sum ")) (after_word (codes "sum ")) (λ _. Dep PartsText (λ ps. Done (More (Sum ps)))) (λ _. seq read_parts (λ ps. give (More (Sum ps)))) (good_word (codes "sum ")) (λ _ _ _.
    good_seq PartsText read_parts (λ ps. Done (More (Sum ps))) (λ ps. give (More (Sum ps))) good_parts (λ ps _ _. good_done (More (Sum ps))))

good_cut : Grammar CutParts read_cut
unfolding CutParts
good_cut =
    good_seq (Word (codes "ut ")) (after_word (codes "ut ")) (λ _. Dep (PartText 10) (λ p. Done (More (Cut p.0.0 p.0.1)))) (λ _. seq (read_part 10) (λ p. give (More (Cut p.0.0 p.0.1)))) (good_word (codes "ut ")) (λ _ _ _.
    good_seq (PartText 10) (read_part 10) (λ p. Done (More (Cut p.0.0 p.0.1))) (λ p. give (More (Cut p.0.0 p.0.1))) (good_part 10 lines refl) (λ p _ _. good_done (More (Cut p.0.0 p.0.1))))

good_case : Grammar CaseParts read_case
unfolding CaseParts
good_case = good_seq (Word (codes "ase ")) (after_word (codes "ase ")) (λ _. Done (Last false)) (λ _. give (Last false)) (good_word (codes "ase ")) (λ _ _ _. good_done (Last false))

good_closed : Grammar ClosedParts read_closed
unfolding ClosedParts
good_closed = good_seq (Word (codes "losed\n")) (after_word (codes "losed\n")) (λ _. Done (Last true)) (λ _. give (Last true)) (good_word (codes "losed\n")) (λ _ _ _. good_done (Last true))

good_behind_c : (cases : ℕ) → Grammar (BehindC cases) (read_behind_c cases)
unfolding BehindC CutParts CaseParts ClosedParts
good_behind_c zero = good_either 117 CutParts ClosedParts read_cut read_closed (begins_word 117 (codes "t ") _) (avoids_word 117 108 (codes "osed\n") _ (λ e. omega arith)) good_cut good_closed
good_behind_c (suc cases) =
    good_either 117 CutParts (Either CaseParts ClosedParts) read_cut (either 97 read_case read_closed) (begins_word 117 (codes "t ") _)
    (avoids_either 117 CaseParts ClosedParts (avoids_word 117 97 (codes "se ") _ (λ e. omega arith)) (avoids_word 117 108 (codes "osed\n") _ (λ e. omega arith))) good_cut
    (good_either 97 CaseParts ClosedParts read_case read_closed (begins_word 97 (codes "se ") _) (avoids_word 97 108 (codes "osed\n") _ (λ e. omega arith)) good_case good_closed)

good_c : (cases : ℕ) → Grammar (CParts cases) (read_c cases)
unfolding CParts
good_c cases = good_seq (Word (codes "c")) (after_word (codes "c")) (λ _. BehindC cases) (λ _. read_behind_c cases) (good_word (codes "c")) (λ _ _ _. good_behind_c cases)

good_step_parts : (cases : ℕ) → Grammar (StepParts cases) (read_step cases)
unfolding StepParts FactParts SumParts CParts
good_step_parts cases =
    good_either 102 FactParts (Either SumParts (CParts cases)) read_fact (either 115 read_sum (read_c cases)) (begins_word 102 (codes "act ") _)
    (avoids_either 102 SumParts (CParts cases) (avoids_word 102 115 (codes "um ") _ (λ e. omega arith)) (avoids_word 102 99 [] _ (λ e. omega arith))) good_fact
    (good_either 115 SumParts (CParts cases) read_sum (read_c cases) (begins_word 115 (codes "um ") _) (avoids_word 115 99 [] _ (λ e. omega arith)) good_sum (good_c cases))

-- a step's text, and that of what ends the steps
TurnText : ℕ → Lang (Turn Step Bool)
TurnText cases (More step) t = (step_has_text step ≡ true) × (t ≡ step_text step)
TurnText cases (Last true) t = t ≡ codes "closed\n"
TurnText cases (Last false) t = (0 < cases) × (t ≡ codes "case ")

to_fact : (cases : ℕ) (v : Turn Step Bool) (t : List ℕ) → FactParts v t → TurnText cases v t
unfolding FactParts TurnText
to_fact cases v t h =
    let b = h.back_text in
    let n = b.first_text in
    subst (λ (w : Turn Step Bool). TurnText cases w t) (sym b.back_text.0) (num_is b.first.0 n.below, h.whole ∙ rw (h.first_text, b.whole, b.back_text.1, n.whole, line_is b.first.1 n.ends_in) (ap (λ x. codes "fact " ++ x) (append-nil (decimal b.first.0 ++ 10 ∷ []))))

to_sum : (cases : ℕ) (v : Turn Step Bool) (t : List ℕ) → SumParts v t → TurnText cases v t
unfolding SumParts TurnText
to_sum cases v t h =
    let b = h.back_text in
    let p = b.first_text in
    let many : nat_lt 0 (length b.first) ≡ true = let lt = p.some in grind (arith, nat_tests) in
    subst (λ (w : Turn Step Bool). TurnText cases w t) (sym b.back_text.0) (rw (many, p.has) refl, h.whole ∙ rw (h.first_text, b.whole, b.back_text.1) (ap (λ x. codes "sum " ++ x) (append-nil b.front) ∙ ap (λ x. codes "sum" ++ x) p.whole))

to_cut : (cases : ℕ) (v : Turn Step Bool) (t : List ℕ) → Dep (Word (codes "c")) (λ _. CutParts) v t → TurnText cases v t
unfolding CutParts TurnText
to_cut cases v t h =
    let c = h.back_text in
    let b = c.back_text in
    let p = b.first_text in
    subst (λ (w : Turn Step Bool). TurnText cases w t) (sym b.back_text.0) (p.has, h.whole ∙ rw (h.first_text, c.whole, c.first_text, b.whole, b.back_text.1) (ap (λ x. codes "cut " ++ x) (append-nil b.front) ∙ ap (λ x. codes "cut" ++ x) (p.whole ∙ ap (λ e. part_text b.first.0 ++ e ∷ []) (line_is b.first.1 p.ends_in))))

to_closed : (cases : ℕ) (v : Turn Step Bool) (t : List ℕ) → Dep (Word (codes "c")) (λ _. ClosedParts) v t → TurnText cases v t
unfolding ClosedParts TurnText
to_closed cases v t h = let c = h.back_text in subst (λ (w : Turn Step Bool). TurnText cases w t) (sym c.back_text.0) (h.whole ∙ rw (h.first_text, c.whole, c.first_text, c.back_text.1) refl)

to_case : (cases : ℕ) (v : Turn Step Bool) (t : List ℕ) → 0 < cases → Dep (Word (codes "c")) (λ _. CaseParts) v t → TurnText cases v t
unfolding CaseParts TurnText
to_case cases v t lt h = let c = h.back_text in subst (λ (w : Turn Step Bool). TurnText cases w t) (sym c.back_text.0) (lt, h.whole ∙ rw (h.first_text, c.whole, c.first_text, c.back_text.1) refl)

-- with another part behind
behind : {A : Type 0} (K M : Lang A) (v : A) (t : List ℕ) (h : Dep (Word (codes "c")) (λ _. K) v t) → M v h.back → Dep (Word (codes "c")) (λ _. M) v t
behind K M v t h m = record { first = tt; front = h.front; back = h.back; whole = h.whole; first_text = h.first_text; back_text = m }

to_c : (cases : ℕ) (v : Turn Step Bool) (t : List ℕ) → CParts cases v t → TurnText cases v t
unfolding CParts BehindC
to_c zero v t h = by_kind h.back_text
  where
    by_kind : Either CutParts ClosedParts v h.back → TurnText zero v t
    by_kind (inl k) = to_cut zero v t (behind (BehindC zero) CutParts v t h k)
    by_kind (inr k) = to_closed zero v t (behind (BehindC zero) ClosedParts v t h k)
to_c (suc cases) v t h = by_kind h.back_text
  where
    by_kind : Either CutParts (Either CaseParts ClosedParts) v h.back → TurnText (suc cases) v t
    by_kind (inl k) = to_cut (suc cases) v t (behind (BehindC (suc cases)) CutParts v t h k)
    by_kind (inr (inl k)) = to_case (suc cases) v t (omega arith) (behind (BehindC (suc cases)) CaseParts v t h k)
    by_kind (inr (inr k)) = to_closed (suc cases) v t (behind (BehindC (suc cases)) ClosedParts v t h k)

to_step : (cases : ℕ) (v : Turn Step Bool) (t : List ℕ) → StepParts cases v t → TurnText cases v t
unfolding StepParts
to_step cases v t (inl h) = to_fact cases v t h
to_step cases v t (inr (inl h)) = to_sum cases v t h
to_step cases v t (inr (inr h)) = to_c cases v t h

cut_in : (cases : ℕ) (v : Turn Step Bool) (t : List ℕ) → CutParts v t → BehindC cases v t
unfolding BehindC
cut_in zero v t h = inl h
cut_in (suc cases) v t h = inl h

closed_in : (cases : ℕ) (v : Turn Step Bool) (t : List ℕ) → ClosedParts v t → BehindC cases v t
unfolding BehindC
closed_in zero v t h = inr h
closed_in (suc cases) v t h = inr (inr h)

case_in : (cases : ℕ) (v : Turn Step Bool) (t : List ℕ) → 0 < cases → CaseParts v t → BehindC cases v t
unfolding BehindC
case_in zero v t lt h = absurd (omega arith)
case_in (suc cases) v t lt h = inr (inl h)

in_c : (cases : ℕ) (v : Turn Step Bool) (t back : List ℕ) → t ≡ codes "c" ++ back → BehindC cases v back → StepParts cases v t
unfolding StepParts CParts
in_c cases v t back whole h = inr (inr (record { first = tt; front = codes "c"; back = back; whole = whole; first_text = refl; back_text = h }))

from_step : (cases : ℕ) (v : Turn Step Bool) (t : List ℕ) → TurnText cases v t → StepParts cases v t
unfolding TurnText StepParts FactParts SumParts CutParts CaseParts ClosedParts
from_step cases (More (Fact n)) t h =
    inl (record { first = tt; front = codes "fact "; back = decimal n ++ 10 ∷ []; whole = h.1 ∙ ap (λ x. codes "fact " ++ x) refl; first_text = refl; back_text = record { first = (n, 10); front = decimal n ++ 10 ∷ []; back = []; whole = sym (append-nil (decimal n ++ 10 ∷ [])); first_text = record { whole = refl; above = omega arith; below = num_below n h.0; ends_in = refl }; back_text = (refl, refl) } })
from_step cases (More (Sum [])) t h = absurd (false≢true h.0)
from_step cases (More (Sum (p ∷ ps))) t h =
    let has = (and_parts (nat_lt 0 (length (p ∷ ps))) (list_all part_has_text (p ∷ ps)) h.0).1 in
    let o = parts_items p ps has in
    let told = parts_to 0 o.items o.last o.text o.is_text in
    let text : PartsText (p ∷ ps) o.text = subst (λ (qs : List (ℤ × ℕ)). PartsText qs o.text) o.same told in
    inr (inl (record { first = tt; front = codes "sum "; back = o.text; whole = h.1 ∙ ap (λ x. codes "sum" ++ x) (sym text.whole); first_text = refl; back_text = record { first = p ∷ ps; front = o.text; back = []; whole = sym (append-nil o.text); first_text = text; back_text = (refl, refl) } }))
from_step cases (More (Cut d n)) t h =
    let parts = and_parts (is_above_zero d) (is_num n) h.0 in
    let m = times_below d parts.0 in
    let text = (decimal m.0 ++ 58 ∷ []) ++ ((decimal n ++ 10 ∷ []) ++ []) in
    let p : PartText 10 ((d, n), 10) text = subst (λ (j : ℤ). PartText 10 ((j, n), 10) text) (sym m.1) (to_part 10 ((pos m.0, n), 10) text (part_parts m.0 n 10 10 m.2 m.3 (num_below n parts.1) refl)) in
    in_c cases (More (Cut d n)) t (codes "ut " ++ text) (h.1 ∙ ap (λ x. codes "cut" ++ x) (sym p.whole))
    (cut_in cases (More (Cut d n)) (codes "ut " ++ text) (record { first = tt; front = codes "ut "; back = text; whole = refl; first_text = refl; back_text = record { first = ((d, n), 10); front = text; back = []; whole = sym (append-nil text); first_text = p; back_text = (refl, refl) } }))
from_step cases (Last true) t h = in_c cases (Last true) t (codes "losed\n") h (closed_in cases (Last true) (codes "losed\n") (record { first = tt; front = codes "losed\n"; back = []; whole = refl; first_text = refl; back_text = (refl, refl) }))
from_step cases (Last false) t h = in_c cases (Last false) t (codes "ase ") h.1 (case_in cases (Last false) (codes "ase ") h.0 (record { first = tt; front = codes "ase "; back = []; whole = refl; first_text = refl; back_text = (refl, refl) }))

good_turn : (cases : ℕ) → Grammar (TurnText cases) (read_step cases)
good_turn cases = good_same (StepParts cases) (TurnText cases) (read_step cases) (to_step cases) (from_step cases) (good_step_parts cases)

-- ---- derivations

ending_word : Bool → List ℕ
ending_word true = codes "closed\n"
ending_word false = codes "case "

turn_takes : (cases : ℕ) (v : Turn Step Bool) (t : List ℕ) → TurnText cases v t → 0 < length t
unfolding TurnText
turn_takes cases (More (Fact n)) t h = subst (λ x. 0 < length x) (sym h.1) (omega (arith, length-append (codes "fact ") (int_bytes (pos n) ++ codes "\n")))
turn_takes cases (More (Sum ps)) t h = subst (λ x. 0 < length x) (sym h.1) (omega (arith, length-append (codes "sum") (flat_map part_text ps ++ codes "\n")))
turn_takes cases (More (Cut d n)) t h = subst (λ x. 0 < length x) (sym h.1) (omega (arith, length-append (codes "cut") (part_text (d, n) ++ codes "\n")))
turn_takes cases (Last true) t h = subst (λ x. 0 < length x) (sym h) (lit< tt)
turn_takes cases (Last false) t h = subst (λ x. 0 < length x) (sym h.1) (lit< tt)

closed_ending : (cases : ℕ) → TurnText cases (Last true) (codes "closed\n")
unfolding TurnText
closed_ending cases = refl

step_turns : (cases : ℕ) → Turns alike (λ _. TurnText cases) (λ _. read_step cases) Any
step_turns cases = record { plain = λ s. (good_turn cases).plain; good = λ s _. good_turn cases; more = λ s a t _ _. tt; takes = λ s v t h. turn_takes cases v t h; ending = λ s _. (true, codes "closed\n", closed_ending cases) }

abbrev StepsOf : ℕ → Lang (List Step × Bool)
StepsOf cases = Loop alike (λ _. TurnText cases) 0

good_steps : (cases : ℕ) → Grammar (StepsOf cases) (read_steps cases)
good_steps cases = good_loop alike (λ _. TurnText cases) (λ _. read_step cases) Any 0 (step_turns cases) tt

record StepsText (cases : ℕ) (steps : List Step) (b : Bool) (t : List ℕ) : Type 0 where
  pub has : list_all step_has_text steps ≡ true
  pub whole : t ≡ flat_map step_text steps ++ ending_word b
  pub deep : b ≡ false → 0 < cases

steps_to : (cases s : ℕ) (steps : List Step) (b : Bool) (t : List ℕ) → Items alike (λ _. TurnText cases) s steps b t → StepsText cases steps b t
unfolding TurnText ending_word
steps_to cases s [] true t h = record { has = refl; whole = h; deep = λ e. absurd (false≢true (sym e)) }
steps_to cases s [] false t h = record { has = refl; whole = h.1; deep = λ e. h.0 }
steps_to cases s (x ∷ xs) b t h =
    let rest = steps_to cases 0 xs b h.1 h.4 in
    record { has = rw (h.3.0, rest.has) refl; whole = h.2 ∙ rw (h.3.1, rest.whole) (sym (append_assoc (step_text x) (flat_map step_text xs) (ending_word b))); deep = rest.deep }

last_turn : (cases : ℕ) (b : Bool) → (b ≡ false → 0 < cases) → TurnText cases (Last b) (ending_word b)
unfolding TurnText ending_word
last_turn cases true h = refl
last_turn cases false h = (h refl, refl)

more_turn : (cases : ℕ) (x : Step) → step_has_text x ≡ true → TurnText cases (More x) (step_text x)
unfolding TurnText
more_turn cases x h = (h, refl)

steps_from : (cases s : ℕ) (steps : List Step) (b : Bool) → list_all step_has_text steps ≡ true → (b ≡ false → 0 < cases) → Items alike (λ _. TurnText cases) s steps b (flat_map step_text steps ++ ending_word b)
steps_from cases s [] b has deep = last_turn cases b deep
steps_from cases s (x ∷ xs) b has deep =
    let p = and_parts (step_has_text x) (list_all step_has_text xs) has in
    (step_text x, flat_map step_text xs ++ ending_word b, append_assoc (step_text x) (flat_map step_text xs) (ending_word b), more_turn cases x p.0, steps_from cases 0 xs b p.1 deep)

abbrev branched : Form → Derivation → Derivation → Ending
branched row first second = Cases (roll-Branch (record { row = row; first = first; second = second }))

text_closed : (steps : List Step) → derivation_text (derived steps Closed) ≡ flat_map step_text steps ++ codes "closed\n"
text_closed steps = search (rules, the_lemmas, fold-roll-Derivation, fold_out-Ending)

nested_steps : (steps : List Step) (last : Ending) → ◌≡◌ {A = Nested} (derivation_has_text (derived steps last)) (derivation_nested (record { steps = steps; last = ending_has_text last }))
nested_steps steps last = search (rules, the_lemmas, fold-roll-Derivation)

nested_closed : ◌≡◌ {A = Nested} (ending_has_text Closed) (ending_nested Ending-F.Closed)
nested_closed = search (rules, the_lemmas, fold_out-Ending)

nested_cases : (b : Branch) → ◌≡◌ {A = Nested} (ending_has_text (Cases b)) (branch_has_text b)
nested_cases b = search (rules, the_lemmas, fold_out-Ending)

nested_branch : (row : Form) (first second : Derivation) → ◌≡◌ {A = Nested} (branch_has_text (roll-Branch (record { row = row; first = first; second = second }))) (branch_nested (record { row = row; first = derivation_has_text first; second = derivation_has_text second }))
nested_branch row first second = search (rules, the_lemmas, fold-roll-Branch)

has_closed : (steps : List Step) (cases : ℕ) → derivation_has_text (derived steps Closed) cases ≡ (list_all step_has_text steps && true)
has_closed steps cases = ap (λ (f : Nested). f cases) (nested_steps steps Closed) ∙ ap (λ (f : Nested). list_all step_has_text steps && f cases) nested_closed

text_cases : (steps : List Step) (row : Form) (first second : Derivation)
    → derivation_text (derived steps (branched row first second)) ≡ flat_map step_text steps ++ concat (codes "case " ∷ row_bytes row ∷ codes "\n" ∷ derivation_text first ∷ derivation_text second ∷ [])
text_cases steps row first second = search (rules, the_lemmas, fold-roll-Derivation, fold-roll-Branch, fold_out-Ending)

has_cases : (steps : List Step) (row : Form) (first second : Derivation) (cases : ℕ)
    → derivation_has_text (derived steps (branched row first second)) cases ≡ (list_all step_has_text steps && (nat_lt 0 cases && row_has_text row && derivation_has_text first (cases - 1) && derivation_has_text second (cases - 1)))
has_cases steps row first second cases =
    ap (λ (f : Nested). f cases) (nested_steps steps (branched row first second))
    ∙ ap (λ (f : Nested). list_all step_has_text steps && f cases) (nested_cases (roll-Branch (record { row = row; first = first; second = second })) ∙ nested_branch row first second)

by_derivation : (P : Derivation → Type 0) → ((steps : List Step) → P (derived steps Closed)) → ((steps : List Step) (row : Form) (first second : Derivation) → P (derived steps (branched row first second))) → (d : Derivation) → P d
by_derivation P c k d = subst P (roll-out-Derivation d) (by_last (out-Derivation d).steps (out-Derivation d).last)
  where
    by_out : (steps : List Step) (e : Ending-F Ending Branch Derivation) → P (derived steps (roll-Ending e))
    by_out steps Ending-F.Closed = subst (λ e. P (derived steps e)) (sym rolls-Closed) (c steps)
    by_out steps (Ending-F.Cases b) =
        subst (λ e. P (derived steps e)) (sym (rolls-Cases b)) (subst (λ x. P (derived steps (Cases x))) (roll-out-Branch b) (k steps (out-Branch b).row (out-Branch b).first (out-Branch b).second))

    by_last : (steps : List Step) (last : Ending) → P (derived steps last)
    by_last steps last = subst (λ e. P (derived steps e)) (roll-out-Ending last) (by_out steps (out-Ending last))

-- a derivation in which at most so many cases enclose each other, and its text
pub record DerivationText (cases : ℕ) (d : Derivation) (t : List ℕ) : Type 0 where
  pub has : derivation_has_text d cases ≡ true
  pub whole : t ≡ derivation_text d

CasesOf : Lang Derivation → Lang Ending
CasesOf D = Dep (RowText false) (λ row. Dep D (λ first. Dep D (λ second. Done (branched row first second))))

EndingBy : Lang Derivation → Bool → List Step → Lang Derivation
EndingBy D true steps = Done (derived steps Closed)
EndingBy D false steps = Dep (CasesOf D) (λ last. Done (derived steps last))

good_cases : (D : Lang Derivation) (R : Reader Derivation) → Grammar D R → Grammar (CasesOf D) (read_cases R)
unfolding CasesOf
good_cases D R g =
    good_seq (RowText false) (read_row false) (λ row. Dep D (λ first. Dep D (λ second. Done (branched row first second)))) (λ row. seq R (λ first. seq R (λ second. give (branched row first second)))) (good_row false) (λ row _ _.
    good_seq D R (λ first. Dep D (λ second. Done (branched row first second))) (λ first. seq R (λ second. give (branched row first second))) g (λ first _ _.
    good_seq D R (λ second. Done (branched row first second)) (λ second. give (branched row first second)) g (λ second _ _. good_done (branched row first second))))

good_ending_by : (b : Bool) (D : Lang Derivation) (R : Reader Derivation) (steps : List Step) → Grammar D R
    → Grammar (EndingBy D b steps) (λ text. cond b (give (derived steps Closed) text) (seq (read_cases R) (λ last. give (derived steps last)) text))
unfolding EndingBy
good_ending_by true D R steps g = good_done (derived steps Closed)
good_ending_by false D R steps g = good_seq (CasesOf D) (read_cases R) (λ last. Done (derived steps last)) (λ last. give (derived steps last)) (good_cases D R g) (λ last _ _. good_done (derived steps last))

FlatParts : Lang Derivation
FlatParts = Dep (StepsOf 0) (λ p. Done (derived p.0 Closed))

DeepParts : ℕ → Lang Derivation
DeepParts cases = Dep (StepsOf (suc cases)) (λ p. EndingBy (DerivationText cases) p.1 p.0)

closed_text : (cases : ℕ) (steps : List Step) (front back t : List ℕ) (v : Derivation) → StepsText cases steps true front → t ≡ front ++ back → v ≡ derived steps Closed → back ≡ [] → DerivationText cases v t
unfolding ending_word
closed_text cases steps front back t v s whole is none =
    subst (λ (d : Derivation). DerivationText cases d t) (sym is) (record {
      has = has_closed steps cases ∙ rw s.has refl;
      whole = whole ∙ rw (none) (append-nil front) ∙ s.whole ∙ sym (text_closed steps);
    })

to_flat : (v : Derivation) (t : List ℕ) → FlatParts v t → DerivationText 0 v t
unfolding FlatParts
to_flat v t h = by_flag h.first.1 (steps_to 0 0 h.first.0 h.first.1 h.front h.first_text)
  where
    by_flag : (b : Bool) → StepsText 0 h.first.0 b h.front → DerivationText 0 v t
    by_flag true s = closed_text 0 h.first.0 h.front h.back t v s h.whole h.back_text.0 h.back_text.1
    by_flag false s = absurd (omega (arith, s.deep refl))

from_flat : (v : Derivation) (t : List ℕ) → DerivationText 0 v t → FlatParts v t
unfolding FlatParts ending_word
from_flat v t = by_derivation (λ d. DerivationText 0 d t → FlatParts d t) closes cases v
  where
    closes : (steps : List Step) → DerivationText 0 (derived steps Closed) t → FlatParts (derived steps Closed) t
    closes steps h =
        let has = and_parts (list_all step_has_text steps) true (sym (has_closed steps 0) ∙ h.has) in
        record { first = (steps, true); front = flat_map step_text steps ++ codes "closed\n"; back = []; whole = h.whole ∙ text_closed steps ∙ sym (append-nil (flat_map step_text steps ++ codes "closed\n")); first_text = steps_from 0 0 steps true has.0 (λ e. absurd (false≢true (sym e))); back_text = (refl, refl) }

    cases : (steps : List Step) (row : Form) (first second : Derivation) → DerivationText 0 (derived steps (branched row first second)) t → FlatParts (derived steps (branched row first second)) t
    cases steps row first second h =
        let has = and_parts (list_all step_has_text steps) _ (sym (has_cases steps row first second 0) ∙ h.has) in
        absurd (false≢true has.1)

cases_whole : (steps row first second : List ℕ) → (steps ++ codes "case ") ++ (((row ++ codes "\n") ++ (first ++ (second ++ []))) ++ []) ≡ steps ++ concat (codes "case " ∷ row ∷ codes "\n" ∷ first ∷ second ∷ [])
cases_whole steps row first second =
    append_assoc steps (codes "case ") (((row ++ codes "\n") ++ (first ++ (second ++ []))) ++ [])
    ∙ ap (λ x. steps ++ (codes "case " ++ x)) (append-nil ((row ++ codes "\n") ++ (first ++ (second ++ []))) ∙ append_assoc row (codes "\n") (first ++ (second ++ [])))

to_deep : (cases : ℕ) (v : Derivation) (t : List ℕ) → DeepParts cases v t → DerivationText (suc cases) v t
unfolding DeepParts EndingBy CasesOf ending_word
to_deep cases v t h = by_flag h.first.1 (steps_to (suc cases) 0 h.first.0 h.first.1 h.front h.first_text) h.back_text
  where
    by_flag : (b : Bool) → StepsText (suc cases) h.first.0 b h.front → EndingBy (DerivationText cases) b h.first.0 v h.back → DerivationText (suc cases) v t
    by_flag true s e = closed_text (suc cases) h.first.0 h.front h.back t v s h.whole e.0 e.1
    by_flag false s e =
        let steps = h.first.0 in
        let c = e.first_text in
        let row = c.first_text in
        let d = c.back_text in
        let first = d.first_text in
        let f = d.back_text in
        let second = f.first_text in
        let last : e.first ≡ branched c.first d.first f.first = f.back_text.0 in
        let is : v ≡ derived steps (branched c.first d.first f.first) = e.back_text.0 ∙ ap (λ x. derived steps x) last in
        let depth : suc cases - 1 ≡ cases = omega arith in
        let deep : nat_lt 0 (suc cases) ≡ true = let lt : 0 < suc cases = omega arith in grind (arith, nat_tests) in
        subst (λ (x : Derivation). DerivationText (suc cases) x t) (sym is) (record {
          has = has_cases steps c.first d.first f.first (suc cases) ∙ rw (s.has, deep, row.has, depth, first.has, second.has) refl;
          whole = h.whole ∙ rw (s.whole, e.whole, c.whole, d.whole, f.whole, e.back_text.1, f.back_text.1, row.whole, first.whole, second.whole) (cases_whole (flat_map step_text steps) (row_bytes c.first) (derivation_text d.first) (derivation_text f.first)) ∙ sym (text_cases steps c.first d.first f.first);
        })

from_deep : (cases : ℕ) (v : Derivation) (t : List ℕ) → DerivationText (suc cases) v t → DeepParts cases v t
unfolding DeepParts EndingBy CasesOf ending_word
from_deep cases v t = by_derivation (λ d. DerivationText (suc cases) d t → DeepParts cases d t) closes splits v
  where
    closes : (steps : List Step) → DerivationText (suc cases) (derived steps Closed) t → DeepParts cases (derived steps Closed) t
    closes steps h =
        let has = and_parts (list_all step_has_text steps) true (sym (has_closed steps (suc cases)) ∙ h.has) in
        record { first = (steps, true); front = flat_map step_text steps ++ codes "closed\n"; back = []; whole = h.whole ∙ text_closed steps ∙ sym (append-nil (flat_map step_text steps ++ codes "closed\n")); first_text = steps_from (suc cases) 0 steps true has.0 (λ e. absurd (false≢true (sym e))); back_text = (refl, refl) }

    splits : (steps : List Step) (row : Form) (first second : Derivation) → DerivationText (suc cases) (derived steps (branched row first second)) t → DeepParts cases (derived steps (branched row first second)) t
    splits steps row first second h =
        let depth : suc cases - 1 ≡ cases = omega arith in
        let has = and_parts (list_all step_has_text steps) _ (sym (has_cases steps row first second (suc cases)) ∙ h.has) in
        let a = and_parts (nat_lt 0 (suc cases) && row_has_text row && derivation_has_text first (suc cases - 1)) (derivation_has_text second (suc cases - 1)) has.1 in
        let b = and_parts (nat_lt 0 (suc cases) && row_has_text row) (derivation_has_text first (suc cases - 1)) a.0 in
        let r = and_parts (nat_lt 0 (suc cases)) (row_has_text row) b.0 in
        let first_has : derivation_has_text first cases ≡ true = ap (derivation_has_text first) (sym depth) ∙ b.1 in
        let second_has : derivation_has_text second cases ≡ true = ap (derivation_has_text second) (sym depth) ∙ a.1 in
        let ft = derivation_text first in
        let st = derivation_text second in
        let rt = row_bytes row ++ codes "\n" in
        record {
          first = (steps, false);
          front = flat_map step_text steps ++ codes "case ";
          back = (rt ++ (ft ++ (st ++ []))) ++ [];
          whole = h.whole ∙ text_cases steps row first second ∙ sym (cases_whole (flat_map step_text steps) (row_bytes row) ft st);
          first_text = steps_from (suc cases) 0 steps false has.0 (λ e. omega arith);
          back_text = record {
            first = branched row first second;
            front = rt ++ (ft ++ (st ++ []));
            back = [];
            whole = refl;
            first_text = record {
              first = row;
              front = rt;
              back = ft ++ (st ++ []);
              whole = refl;
              first_text = record { has = r.1; whole = refl };
              back_text = record {
                first = first;
                front = ft;
                back = st ++ [];
                whole = refl;
                first_text = record { has = first_has; whole = refl };
                back_text = record { first = second; front = st; back = []; whole = refl; first_text = record { has = second_has; whole = refl }; back_text = (refl, refl) };
              };
            };
            back_text = (refl, refl);
          };
        }

pub good_derivation : (cases : ℕ) → Grammar (DerivationText cases) (read_derivation cases)
unfolding read_derivation FlatParts DeepParts
good_derivation zero =
    good_same FlatParts (DerivationText 0) (read_derivation 0) to_flat from_flat
    (good_seq (StepsOf 0) (read_steps 0) (λ p. Done (derived p.0 Closed)) (λ p. give (derived p.0 Closed)) (good_steps 0) (λ p _ _. good_done (derived p.0 Closed)))
good_derivation (suc cases) =
    good_same (DeepParts cases) (DerivationText (suc cases)) (read_derivation (suc cases)) (to_deep cases) (from_deep cases)
    (good_seq (StepsOf (suc cases)) (read_steps (suc cases)) (λ p. EndingBy (DerivationText cases) p.1 p.0) (read_ending (read_derivation cases)) (good_steps (suc cases)) (λ p _ _. good_ending_by p.1 (DerivationText cases) (read_derivation cases) p.0 (good_derivation cases)))
