-- A history with a floor or an answer more.
use Rattle.std.proofs.Common.{◌≡◌, ℕ, zero, suc, ◌+◌, ◌≤◌, ◌==◌, nat_le, Bool, true, false, not, ◌&&◌, ◌||◌, List, [], ◌∷◌, ◌++◌, length, take, Option, Some, None, pos, refl, sym, ◌∙◌, ap, subst, arith, append_assoc, length-append}
use Rattle.std.specs.Prelude.{slice_get, is_none}
use Rattle.std.specs.Option.{option_map_or}
use Rattle.std.specs.List.{list_any}
use Rattle.std.specs.Int.Signed.{lt_z}
use Rattle.std.proofs.lemmas.List.Folds.{list_any-append}
use Rattle.std.proofs.lemmas.Bool.{and_parts, or_left, or_right}
use Rattle.std.proofs.lemmas.Bool.Decides.{nat_tests}
use Rattle.std.proofs.lemmas.Option.{same_Some}
use Rattle.lin_proof.specs.Form.{Form}
use Rattle.lin_proof.specs.declared.derivation.Answer.{Answer}
use Rattle.lin_proof.specs.Derivations.{are_declared, first_fault}
use Rattle.cert_semantics.specs.Axes.{axis_count}
use Rattle.cert_semantics.specs.Paths.{def}
use Rattle.cert_semantics.specs.Facts.{step_facts}
use Rattle.cert_semantics.specs.Shapes.{has_variable, has_remainders, same_row}
use Rattle.cert_semantics.proofs.FitDefs.{decides_same_row}
use Rattle.sym_calc.specs.declared.floors.Floor.{Floor}
use Rattle.sym_calc.specs.declared.troubles.Trouble.{Trouble}
use Rattle.sym_calc.specs.declared.troubles.Trouble.TheVariants.{Line, Differs, Short}
use Rattle.sym_calc.specs.Floors.{same_floor}
use Rattle.sym_calc.specs.Knowledge.{contrary}
use Rattle.sym_calc.specs.Troubles.{first_of}
use Rattle.sym_calc.specs.History.{facts_from, is_fit, are_fit, fault_below, any_up_to, are_right, is_wrong, is_to_another, is_accounted}

-- ---- tests up to a number

pub record IsMet (n : ℕ) (test : ℕ → Bool) : Type 0 where
  pub at : ℕ
  pub most : at ≤ n
  pub met : test at ≡ true

pub any_met : (n : ℕ) (test : ℕ → Bool) → any_up_to n test ≡ true → IsMet n test
unfolding any_up_to
any_met zero test e = record { at = 0; most = omega arith; met = e }
any_met (suc n) test e = by_test (any_met n test) (test (suc n)) refl e
  where
    by_test : (any_up_to n test ≡ true → IsMet n test) → (b : Bool) → test (suc n) ≡ b → (b || any_up_to n test) ≡ true → IsMet (suc n) test
    by_test below true is e = record { at = suc n; most = omega arith; met = is }
    by_test below false is e = let h = below e in record { at = h.at; most = let m = h.most in omega arith; met = h.met }

pub met_any : (n : ℕ) (test : ℕ → Bool) → IsMet n test → any_up_to n test ≡ true
unfolding any_up_to
met_any zero test h = let none : h.at ≡ 0 = let m = h.most in omega arith in ap test (sym none) ∙ h.met
met_any (suc n) test h = by_test (met_any n test) (h.at == suc n) refl
  where
    by_test : (IsMet n test → any_up_to n test ≡ true) → (b : Bool) → (h.at == suc n) ≡ b → (test (suc n) || any_up_to n test) ≡ true
    by_test lower true e =
        let last : h.at ≡ suc n = grind (arith, nat_tests) in
        or_left (test (suc n)) (any_up_to n test) (ap test (sym last) ∙ h.met)
    by_test lower false e =
        let below : h.at ≤ n = let m = h.most in grind (arith, nat_tests) in
        or_right (test (suc n)) (any_up_to n test) (lower (record { at = h.at; most = below; met = h.met }))

-- ---- answers

-- some answer is right below so many of the own floors
pub record IsRightAt (form : ℕ) (facts : List Form) (along own : List Floor) (n : ℕ) (a : Answer) (answers : List Answer) : Type 0 where
  pub at : ℕ
  pub least : n ≤ at
  pub most : at ≤ length own
  pub right : fault_below form facts along (take at own) a ≡ None
  pub rest : are_right form facts along own at answers ≡ true

none_is : {A : Type 0} (o : Option A) → is_none o ≡ true → o ≡ None
none_is None e = refl
none_is (Some x) e = absurd (cc)

pub first_right : (form : ℕ) (facts : List Form) (along own : List Floor) (n : ℕ) (a : Answer) (answers : List Answer) → are_right form facts along own n (a ∷ answers) ≡ true → IsRightAt form facts along own n a answers
unfolding are_right
first_right form facts along own n a answers e =
    let h = any_met (length own) (λ m. nat_le n m && (is_none (fault_below form facts along (take m own) a) && are_right form facts along own m answers)) e in
    let both = and_parts (nat_le n h.at) (is_none (fault_below form facts along (take h.at own) a) && are_right form facts along own h.at answers) h.met in
    let later = and_parts (is_none (fault_below form facts along (take h.at own) a)) (are_right form facts along own h.at answers) both.1 in
    record { at = h.at; least = grind (arith, nat_tests); most = h.most; right = none_is (fault_below form facts along (take h.at own) a) later.0; rest = later.1 }

pub right_first : (form : ℕ) (facts : List Form) (along own : List Floor) (n : ℕ) (a : Answer) (answers : List Answer) → IsRightAt form facts along own n a answers → are_right form facts along own n (a ∷ answers) ≡ true
unfolding are_right
right_first form facts along own n a answers h =
    let least : nat_le n h.at ≡ true = let l = h.least in grind (arith, nat_tests) in
    let right : is_none (fault_below form facts along (take h.at own) a) ≡ true = ap is_none h.right in
    let rest = h.rest in
    met_any (length own) (λ m. nat_le n m && (is_none (fault_below form facts along (take m own) a) && are_right form facts along own m answers))
    (record { at = h.at; most = h.most; met = λ i. least i && (right i && rest i) })

take_front : (own : List Floor) (f : Floor) (n : ℕ) → n ≤ length own → take n (own ++ f ∷ []) ≡ take n own
take_front [] f zero less = refl
take_front [] f (suc n) less = absurd (omega arith)
take_front (g ∷ gs) f zero less = refl
take_front (g ∷ gs) f (suc n) less = ap (λ fs. g ∷ fs) (take_front gs f n (omega arith))

take_whole : (own : List Floor) → take (length own) own ≡ own
take_whole [] = refl
take_whole (g ∷ gs) = ap (λ fs. g ∷ fs) (take_whole gs)

module _ (form : ℕ) (facts : List Form) (along own : List Floor) where
  right_made : (f : Floor) (n : ℕ) (answers : List Answer) → are_right form facts along own n answers ≡ true → are_right form facts along (own ++ f ∷ []) n answers ≡ true
  unfolding are_right
  right_made f n [] e = refl
  right_made f n (a ∷ answers) e =
      let h = first_right form facts along own n a answers e in
      right_first form facts along (own ++ f ∷ []) n a answers (record {
        at = h.at;
        least = h.least;
        most = let m = h.most in omega (arith, length-append own (f ∷ []));
        right = ap (λ fs. fault_below form facts along fs a) (take_front own f h.at h.most) ∙ h.right;
        rest = right_made f h.at answers h.rest;
      })

  right_took : (n : ℕ) (answers : List Answer) (a : Answer) → n ≤ length own → fault_below form facts along own a ≡ None → are_right form facts along own n answers ≡ true → are_right form facts along own n (answers ++ a ∷ []) ≡ true
  unfolding are_right
  right_took n [] a less right e =
      right_first form facts along own n a [] (record {
        at = length own;
        least = less;
        most = omega arith;
        right = ap (λ fs. fault_below form facts along fs a) (take_whole own) ∙ right;
        rest = refl;
      })
  right_took n (b ∷ bs) a less right e =
      let h = first_right form facts along own n b bs e in
      right_first form facts along own n b (bs ++ a ∷ []) (record {
        at = h.at;
        least = h.least;
        most = h.most;
        right = h.right;
        rest = right_took h.at bs a h.most right h.rest;
      })

  wrong_made : (f : Floor) (line : ℕ) (a : Answer) → is_wrong form facts along own line a ≡ true → is_wrong form facts along (own ++ f ∷ []) line a ≡ true
  unfolding is_wrong
  wrong_made f line a e =
      let h = any_met (length own) (λ m. option_map_or (λ wrong. wrong == line) (fault_below form facts along (take m own) a) false) e in
      met_any (length (own ++ f ∷ [])) (λ m. option_map_or (λ wrong. wrong == line) (fault_below form facts along (take m (own ++ f ∷ [])) a) false) (record {
        at = h.at;
        most = let m = h.most in omega (arith, length-append own (f ∷ []));
        met = ap (λ fs. option_map_or (λ wrong. wrong == line) (fault_below form facts along fs a) false) (take_front own f h.at h.most) ∙ h.met;
      })

  wrong_now : (line : ℕ) (a : Answer) → fault_below form facts along own a ≡ Some line → is_wrong form facts along own line a ≡ true
  unfolding is_wrong
  wrong_now line a e =
      let same : (line == line) ≡ true = grind (arith, nat_tests) in
      met_any (length own) (λ m. option_map_or (λ wrong. wrong == line) (fault_below form facts along (take m own) a) false) (record {
        at = length own;
        most = omega arith;
        met = ap (λ fs. option_map_or (λ wrong. wrong == line) (fault_below form facts along fs a) false) (take_whole own)
            ∙ ap (λ o. option_map_or (λ wrong. wrong == line) o false) e ∙ same;
      })

  wrong_made_at : (f : Floor) (line : ℕ) (o : Option Answer) → option_map_or (is_wrong form facts along own line) o false ≡ true → option_map_or (is_wrong form facts along (own ++ f ∷ []) line) o false ≡ true
  wrong_made_at f line None e = e
  wrong_made_at f line (Some a) e = wrong_made f line a e

-- ---- floors

pub fit_by : (form : ℕ) (along own : List Floor) (f : Floor) → are_declared (length (along ++ own) + axis_count form) f.row.terms ≡ true → has_variable f.row ≡ true → lt_z (pos 1) f.by ≡ true
    → has_remainders f.by f.row ≡ true → list_any (same_floor f) along ≡ false → list_any (same_floor f) own ≡ false → is_fit form (along ++ own) f ≡ true
fit_by form along own f declared some number rests before behind =
    let new = list_any-append (same_floor f) along own ∙ (λ i. before i || behind i) in
    λ i. declared i && some i && number i && rests i && not (new i)

pub fit_push : (form : ℕ) (before own : List Floor) (f : Floor) → are_fit form before own ≡ true → is_fit form (before ++ own) f ≡ true → are_fit form before (own ++ f ∷ []) ≡ true
unfolding are_fit
fit_push form before [] f e fit =
    let here : is_fit form before f ≡ true = subst (λ fs. is_fit form fs f ≡ true) (nil before) fit in
    λ i. here i && true
  where
    nil : (fs : List Floor) → fs ++ [] ≡ fs
    nil [] = refl
    nil (g ∷ gs) = ap (λ hs. g ∷ hs) (nil gs)
fit_push form before (g ∷ gs) f e fit =
    let both = and_parts (is_fit form before g) (are_fit form (before ++ g ∷ []) gs) e in
    let here = both.0 in
    let later = fit_push form (before ++ g ∷ []) gs f both.1 (subst (λ fs. is_fit form fs f ≡ true) (sym (append_assoc before (g ∷ []) gs)) fit) in
    λ i. here i && later i

pub fit_none : (form : ℕ) (before : List Floor) → are_fit form before [] ≡ true
unfolding are_fit
fit_none form before = refl

-- ---- what is accounted

taken_more : (tape : List Answer) (n : ℕ) (a : Answer) → slice_get tape n ≡ Some a → take (n + 1) tape ≡ take n tape ++ a ∷ []
taken_more [] n a is = absurd (cc)
taken_more (x ∷ xs) zero a is = let same = same_Some x a is in ap (λ y. y ∷ []) same
taken_more (x ∷ xs) (suc n) a is =
    let next : suc n + 1 ≡ suc (n + 1) = omega arith in
    ap (λ m. take m (x ∷ xs)) next ∙ ap (λ ys. x ∷ ys) (taken_more xs n a is)

taken_all : (tape : List Answer) (n : ℕ) → slice_get tape n ≡ None → take n tape ≡ tape
taken_all [] zero none = refl
taken_all [] (suc n) none = refl
taken_all (x ∷ xs) zero none = absurd (cc)
taken_all (x ∷ xs) (suc n) none = ap (λ ys. x ∷ ys) (taken_all xs n none)

pub accounted_none : (form : ℕ) (facts : List Form) (along : List Floor) (tape : List Answer) → is_accounted form facts along [] tape 0 None ≡ true
unfolding is_accounted are_right
accounted_none form facts along tape = refl

module _ (form : ℕ) (facts : List Form) (along own : List Floor) (tape : List Answer) (taken : ℕ) where
  pub accounted_made : (f : Floor) (trouble : Option Trouble) → is_accounted form facts along own tape taken trouble ≡ true → is_accounted form facts along (own ++ f ∷ []) tape taken trouble ≡ true
  unfolding is_accounted
  accounted_made f None e = right_made form facts along own f 0 (take taken tape) e
  accounted_made f (Some (Line number line)) e =
      let both = and_parts (are_right form facts along own 0 (take number tape)) (option_map_or (is_wrong form facts along own line) (slice_get tape number) false) e in
      let before = right_made form facts along own f 0 (take number tape) both.0 in
      let wrong = wrong_made_at form facts along own f line (slice_get tape number) both.1 in
      λ i. before i && wrong i
  accounted_made f (Some (Differs number ours theirs)) e =
      let both = and_parts (are_right form facts along own 0 (take number tape)) (option_map_or (is_to_another ours theirs) (slice_get tape number) false) e in
      let before = right_made form facts along own f 0 (take number tape) both.0 in
      let other = both.1 in
      λ i. before i && other i
  accounted_made f (Some Short) e = right_made form facts along own f 0 tape e

  pub accounted_took : (a : Answer) → slice_get tape taken ≡ Some a → fault_below form facts along own a ≡ None → (trouble : Option Trouble) → is_accounted form facts along own tape taken trouble ≡ true
      → is_accounted form facts along own tape (taken + 1) trouble ≡ true
  unfolding is_accounted
  accounted_took a is right None e =
      ap (are_right form facts along own 0) (taken_more tape taken a is) ∙ right_took form facts along own 0 (take taken tape) a (omega arith) right e
  accounted_took a is right (Some (Line number line)) e = e
  accounted_took a is right (Some (Differs number ours theirs)) e = e
  accounted_took a is right (Some Short) e = e

  -- of two troubles the first stays
  accounted_first : (next : ℕ) (later : Trouble) → (is_accounted form facts along own tape taken None ≡ true → is_accounted form facts along own tape next (Some later) ≡ true)
      → (trouble : Option Trouble) → is_accounted form facts along own tape taken trouble ≡ true → is_accounted form facts along own tape next (first_of trouble (Some later)) ≡ true
  unfolding is_accounted
  accounted_first next later f None e = f e
  accounted_first next later f (Some (Line number line)) e = e
  accounted_first next later f (Some (Differs number ours theirs)) e = e
  accounted_first next later f (Some Short) e = e

  short_now : slice_get tape taken ≡ None → is_accounted form facts along own tape taken None ≡ true → is_accounted form facts along own tape taken (Some Short) ≡ true
  unfolding is_accounted
  short_now none e = ap (are_right form facts along own 0) (sym (taken_all tape taken none)) ∙ e

  pub accounted_short : (trouble : Option Trouble) → slice_get tape taken ≡ None → is_accounted form facts along own tape taken trouble ≡ true
      → is_accounted form facts along own tape taken (first_of trouble (Some Short)) ≡ true
  accounted_short trouble none e = accounted_first taken Short (short_now none) trouble e

  differs_now : (next : ℕ) (a : Answer) (ours : Form) → slice_get tape taken ≡ Some a → same_row ours a.row ≡ false
      → is_accounted form facts along own tape taken None ≡ true → is_accounted form facts along own tape next (Some (Differs taken ours a.row)) ≡ true
  unfolding is_accounted
  differs_now next a ours is other e =
      let same = (decides_same_row a.row a.row).1 refl in
      let here : option_map_or (is_to_another ours a.row) (slice_get tape taken) false ≡ true = ap (λ o. option_map_or (is_to_another ours a.row) o false) is ∙ (λ i. same i && not (other i)) in
      λ i. e i && here i

  pub accounted_differs : (next : ℕ) (a : Answer) (ours : Form) (trouble : Option Trouble) → slice_get tape taken ≡ Some a → same_row ours a.row ≡ false
      → is_accounted form facts along own tape taken trouble ≡ true → is_accounted form facts along own tape next (first_of trouble (Some (Differs taken ours a.row))) ≡ true
  accounted_differs next a ours trouble is other e = accounted_first next (Differs taken ours a.row) (differs_now next a ours is other) trouble e

  line_now : (next : ℕ) (a : Answer) (line : ℕ) → slice_get tape taken ≡ Some a → fault_below form facts along own a ≡ Some line
      → is_accounted form facts along own tape taken None ≡ true → is_accounted form facts along own tape next (Some (Line taken line)) ≡ true
  unfolding is_accounted
  line_now next a line is wrong e =
      let here : option_map_or (is_wrong form facts along own line) (slice_get tape taken) false ≡ true = ap (λ o. option_map_or (is_wrong form facts along own line) o false) is ∙ wrong_now form facts along own line a wrong in
      λ i. e i && here i

  pub accounted_line : (next : ℕ) (a : Answer) (line : ℕ) (trouble : Option Trouble) → slice_get tape taken ≡ Some a → fault_below form facts along own a ≡ Some line
      → is_accounted form facts along own tape taken trouble ≡ true → is_accounted form facts along own tape next (first_of trouble (Some (Line taken line))) ≡ true
  accounted_line next a line trouble is wrong e = accounted_first next (Line taken line) (line_now next a line is wrong) trouble e

-- ---- facts of floors

facts_from-push : (x : ℕ) (fs : List Floor) (f : Floor) → facts_from x (fs ++ f ∷ []) ≡ facts_from x fs ++ step_facts (length fs + x) (def f.row f.by)
facts_from-push x [] f = let here : x ≡ 0 + x = omega arith in ap (λ n. step_facts n (def f.row f.by)) here
facts_from-push x (g ∷ fs) f =
    let here : length fs + (x + 1) ≡ length (g ∷ fs) + x = omega arith in
    ap (λ more. step_facts x (def g.row g.by) ++ more) (facts_from-push (x + 1) fs f ∙ ap (λ n. facts_from (x + 1) fs ++ step_facts n (def f.row f.by)) here)
    ∙ sym (append_assoc (step_facts x (def g.row g.by)) (facts_from (x + 1) fs) (step_facts (length (g ∷ fs) + x) (def f.row f.by)))

pub made_push : (form : ℕ) (along own now : List Floor) (rows after : List Form) (f : Floor) (x : ℕ) → x ≡ length (along ++ own) + axis_count form → now ≡ own ++ f ∷ []
    → rows ≡ facts_from (length along + axis_count form) own → after ≡ rows ++ step_facts x (def f.row f.by) → after ≡ facts_from (length along + axis_count form) now
made_push form along own now rows after f x at floors old new =
    let here : x ≡ length own + (length along + axis_count form) = omega (arith, at, length-append along own) in
    new ∙ (λ i. old i ++ step_facts (here i) (def f.row f.by)) ∙ sym (facts_from-push (length along + axis_count form) own f) ∙ ap (facts_from (length along + axis_count form)) (sym floors)

-- ---- the derivation of an answer to the row that was asked for

pub fault_is : (form : ℕ) (facts rows : List Form) (along own : List Floor) (row other : Form) (a : Answer) (line : Option ℕ) → rows ≡ facts_from (length along + axis_count form) own
    → same_row row a.row ≡ true → other ≡ contrary a.yes row → line ≡ first_fault (facts ++ rows ++ other ∷ []) (length (along ++ own) + axis_count form) a.why
    → fault_below form facts along own a ≡ line
fault_is form facts rows along own row other a line made same is found =
    let as_asked = (decides_same_row row a.row).0 same in
    let denial : contrary a.yes a.row ≡ other = ap (contrary a.yes) (sym as_asked) ∙ sym is in
    (λ i. first_fault (facts ++ sym made i ++ denial i ∷ []) (length (along ++ own) + axis_count form) a.why) ∙ sym found

-- ---- answers of a tape by number

pub none_past : (tape : List Answer) (n : ℕ) → length tape ≤ n → slice_get tape n ≡ None
none_past [] zero less = refl
none_past [] (suc n) less = refl
none_past (x ∷ xs) zero less = absurd (omega arith)
none_past (x ∷ xs) (suc n) less = none_past xs n (omega arith)
