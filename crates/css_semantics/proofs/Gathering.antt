-- Lists that are read one item after another.
use Rattle.std.proofs.Common.{◌≡◌, ℕ, zero, suc, ◌+◌, ◌-◌, ◌<◌, ◌≤◌, List, [], ◌∷◌, ◌++◌, length, take, drop, refl, sym, ◌∙◌, ap, subst, inl, inr, arith, length-drop, append_assoc, Option, Some, None}
use Rattle.std.specs.Option.{option_to_list}
use Rattle.std.proofs.Math.Seq.{drop-nil}
use Rattle.std.proofs.lemmas.List.{drop_all, append-nil}
use Rattle.std.proofs.lemmas.Bool.{cases_lt}
use Rattle.std.proofs.lemmas.Slice.{between_to_end}
use Rattle.css_semantics.specs.Pieces.{Token}
use Rattle.css_semantics.specs.SheetsReading.{gathered}
use Rattle.css_semantics.specs.steps.Sheets.{at_head}

-- r is the end of ts
abbrev pub IsTail : List Token → List Token → Type 0
IsTail r ts = (n : ℕ) × (r ≡ drop n ts)

suc-sum : (m n : ℕ) → suc (n + m) ≡ suc n + m
suc-sum m n = omega arith

zero-sum : (m : ℕ) → m ≡ 0 + m
zero-sum m = omega arith

pub drop-drop : (m n : ℕ) (ts : List Token) → drop m (drop n ts) ≡ drop (n + m) ts
drop-drop m zero ts = ap (λ k. drop k ts) (zero-sum m)
drop-drop m (suc n) [] = drop-nil m ∙ sym (drop-nil (suc n + m))
drop-drop m (suc n) (t ∷ ts) = drop-drop m n ts ∙ ap (λ k. drop k (t ∷ ts)) (suc-sum m n)

pub tail_all : (ts : List Token) → IsTail ts ts
tail_all ts = (0, refl)

pub tail_nil : (ts : List Token) → IsTail [] ts
tail_nil ts = (length ts, sym (drop_all (length ts) ts (omega arith)))

pub tail_drop : (n : ℕ) (r ts : List Token) → IsTail r ts → IsTail (drop n r) ts
tail_drop n r ts h = (h.0 + n, ap (drop n) h.1 ∙ drop-drop n h.0 ts)

pub tail_tail : (t : Token) (r ts : List Token) → IsTail (t ∷ r) ts → IsTail r ts
tail_tail t r ts h = tail_drop 1 (t ∷ r) ts h

pub tail_trans : (r s t : List Token) → IsTail r s → IsTail s t → IsTail r t
tail_trans r s t h k = (k.0 + h.0, h.1 ∙ ap (drop h.0) k.1 ∙ drop-drop h.0 k.0 t)

pub tail_cons : (t : Token) (r ts : List Token) → IsTail r ts → IsTail r (t ∷ ts)
tail_cons t r ts h = (suc h.0, h.1)

pub length-tail : (r ts : List Token) → IsTail r ts → length r ≤ length ts
length-tail r ts h = omega (arith, ap length h.1, length-drop h.0 ts)

drop_back : (n : ℕ) (ts : List Token) → drop (length ts - length (drop n ts)) ts ≡ drop n ts
drop_back n ts = elim (cases_lt n (length ts)) [
  | inl h ↦ ap (λ k. drop k ts) (omega (arith, length-drop n ts))
  | inr h ↦ drop_all _ ts (omega (arith, length-drop n ts)) ∙ sym (drop_all n ts h)
]

pub tail_is : (r ts : List Token) → IsTail r ts → drop (length ts - length r) ts ≡ r
tail_is r ts h = subst (λ x. drop (length ts - length x) ts ≡ x) (sym h.1) (drop_back h.0 ts)

-- ---- gathering

abbrev pub HasTails : (Token → List Token → List Token) → Type 0
HasTails after = (t : Token) (ts : List Token) → IsTail (after t ts) ts

pub gathered_past : {A : Type 0} (item : Token → List Token → List A) (after : Token → List Token → List Token) (n : ℕ) (ts : List Token) → gathered item after n ts ≡ gathered item after 0 (drop n ts)
gathered_past item after zero ts = refl
gathered_past item after (suc n) [] = refl
gathered_past item after (suc n) (t ∷ ts) = gathered_past item after n ts

pub gathered_cons : {A : Type 0} (item : Token → List Token → List A) (after : Token → List Token → List Token) (tails : HasTails after) (t : Token) (ts : List Token) → gathered item after 0 (t ∷ ts) ≡ item t ts ++ gathered item after 0 (after t ts)
gathered_cons item after tails t ts =
    ap (λ x. item t ts ++ x) (gathered_past item after (length ts - length (after t ts)) ts ∙ ap (gathered item after 0) (tail_is (after t ts) ts (tails t ts)))

pub gathered_head : {A : Type 0} (item : Token → List Token → List A) (after : Token → List Token → List Token) (tails : HasTails after) (ts : List Token) → gathered item after 0 ts ≡ at_head item ts ++ gathered item after 0 (at_head after ts)
gathered_head item after tails [] = refl
gathered_head item after tails (t ∷ ts) = gathered_cons item after tails t ts

pub tail_head : (after : Token → List Token → List Token) (tails : HasTails after) (ts : List Token) → IsTail (at_head after ts) ts
tail_head after tails [] = (0, refl)
tail_head after tails (t ∷ ts) = tail_cons t (after t ts) ts (tails t ts)

pub length-head : (after : Token → List Token → List Token) (tails : HasTails after) (ts : List Token) → 0 < length ts → length (at_head after ts) < length ts
length-head after tails [] h = absurd (omega arith)
length-head after tails (t ∷ ts) h = omega (arith, length-tail (after t ts) ts (tails t ts))

-- ---- one turn of a loop that reads from the place `at` on, where r is what follows the item there

pub left_of : (all : List Token) (at : ℕ) → take (length all - at) (drop at all) ≡ drop at all
left_of all at = between_to_end all at (length all) (omega arith)

module _ (after : Token → List Token → List Token) (tails : HasTails after) (all : List Token) (at : ℕ) (r : List Token) (follows : r ≡ at_head after (take (length all - at) (drop at all))) where
  follows_drop : r ≡ at_head after (drop at all)
  follows_drop = follows ∙ ap (at_head after) (left_of all at)

  tail_turn : IsTail r all
  tail_turn = subst (λ x. IsTail x all) (sym follows_drop) (tail_trans _ _ _ (tail_head after tails (drop at all)) (tail_drop at all all (tail_all all)))

  pub turn_rest : length r ≤ length all
  turn_rest = length-tail r all tail_turn

  pub turn_smaller : at < length all → length all - (length all - length r) < length all - at
  turn_smaller h =
      let some : 0 < length (drop at all) = omega (arith, length-drop at all) in
      let shorter : length r < length (drop at all) = subst (λ x. length x < length (drop at all)) (sym follows_drop) (length-head after tails (drop at all) some) in
      let within : length r ≤ length all = turn_rest in
      omega (arith, length-drop at all)

  pub turn_gathered : {A : Type 0} (item : Token → List Token → List A) (xs : List A) → xs ≡ at_head item (take (length all - at) (drop at all)) → gathered item after 0 (drop at all) ≡ xs ++ gathered item after 0 (drop (length all - length r) all)
  turn_gathered item xs e =
      let given : xs ≡ at_head item (drop at all) = e ∙ ap (at_head item) (left_of all at) in
      gathered_head item after tails (drop at all) ∙ ap (λ x. x ++ gathered item after 0 (at_head after (drop at all))) (sym given)
      ∙ ap (λ x. xs ++ gathered item after 0 x) (sym follows_drop ∙ sym (tail_is r all tail_turn))

-- the list of what is read so far
pub gathered_more : {A : Type 0} (done more xs g h total : List A) → done ++ g ≡ total → g ≡ xs ++ h → more ≡ done ++ xs → more ++ h ≡ total
gathered_more done more xs g h total e f m = ap (λ x. x ++ h) m ∙ append_assoc done xs h ∙ ap (λ x. done ++ x) (sym f) ∙ e

pub pushed_some : {A : Type 0} (done more : List A) (o : Option A) (x : A) → o ≡ Some x → more ≡ done ++ x ∷ [] → more ≡ done ++ option_to_list o
pushed_some done more o x e m = m ∙ ap (λ p. done ++ option_to_list p) (sym e)

pub pushed_none : {A : Type 0} (done more : List A) (o : Option A) → o ≡ None → more ≡ done → more ≡ done ++ option_to_list o
pushed_none done more o e m = m ∙ sym (append-nil done) ∙ ap (λ p. done ++ option_to_list p) (sym e)
