-- Reading a digest: 32 bytes of two hex digits each.
use Rattle.std.proofs.Common.{◌≡◌, ℕ, zero, suc, ◌+◌, ◌-◌, ◌*◌, ◌/◌, ◌%◌, ◌<◌, ◌≤◌, ◌&&◌, ◌==◌, nat_lt, nat_le, Bool, true, false, cond, List, [], ◌∷◌, length, slice_index, Option, Some, None, refl, sym, ◌∙◌, ap, subst, arith}
use Rattle.std.specs.List.{AllByRecursion}
use Rattle.std.proofs.lemmas.List.{append-nil}
use Rattle.std.proofs.lemmas.Bool.{agree_below_at, eqb-true}
use Rattle.std.proofs.lemmas.Bool.Decides.{nat_tests}
use Rattle.std.proofs.lemmas.Option.{same_Some}
use Rattle.hex.specs.Hex.{lower_digits, encode_with, encode_lower}
use Rattle.cert_text.specs.steps.Read.{lower_value, answer_hex, read_hex, read_bytes}
use Rattle.cert_text.specs.steps.Readers.{give, seq}
use Rattle.cert_text.proofs.Language.{Lang, Agree, Leaves, IsPlain, IsRead, Dep, Done}
use Rattle.cert_text.proofs.Grammars.{Grammar, good_done, good_seq, good_same}

-- the digit at each place of the table
lower_code : ℕ → ℕ
lower_code v = cond (nat_lt v 10) (48 + v) (87 + v)

lower_at : (v : ℕ) → v < 16 → slice_index lower_digits v ≡ lower_code v
unfolding lower_code
lower_at v lt = eqb-true (slice_index lower_digits v) (lower_code v) (agree_below_at (λ k. slice_index lower_digits k == lower_code k) (λ k. true) 16 v refl lt)

-- a digit's value, or a number that no digit has
at_value : (v : ℕ) → v < 16 → lower_value (slice_index lower_digits v) ≡ Some v
at_value v lt = told (lower_value (slice_index lower_digits v)) (agree_below_at (λ k. tells (lower_value (slice_index lower_digits k)) k) (λ k. true) 16 v refl lt)
  where
    tells : Option ℕ → ℕ → Bool
    tells None k = false
    tells (Some n) k = n == k

    told : (o : Option ℕ) → tells o v ≡ true → o ≡ Some v
    told None e = absurd (cc)
    told (Some n) e = ap Some (eqb-true n v e)

code_low : (v : ℕ) → v < 10 → lower_code v ≡ 48 + v
unfolding lower_code
code_low v lt = grind (arith, nat_tests)

code_high : (v : ℕ) → 10 ≤ v → lower_code v ≡ 87 + v
unfolding lower_code
code_high v le = grind (arith, nat_tests)

value_by : (a b : Bool) (c v : ℕ) → (a ≡ true → (48 ≤ c) × (c ≤ 57)) → (b ≡ true → (97 ≤ c) × (c ≤ 102)) → cond a (Some (c - 48)) (cond b (Some (c - 97 + 10)) None) ≡ Some v
    → (v < 16) × (slice_index lower_digits v ≡ c)
value_by true b c v low high is =
    let same : c - 48 ≡ v = same_Some (c - 48) v is in
    let bound = low refl in
    let small : v < 16 = omega arith in
    (small, lower_at v small ∙ code_low v (omega arith) ∙ omega arith)
value_by false true c v low high is =
    let same : c - 97 + 10 ≡ v = same_Some (c - 97 + 10) v is in
    let bound = high refl in
    let small : v < 16 = omega arith in
    (small, lower_at v small ∙ code_high v (omega arith) ∙ omega arith)
value_by false false c v low high is = absurd (cc)

value_at : (c v : ℕ) → lower_value c ≡ Some v → (v < 16) × (slice_index lower_digits v ≡ c)
value_at c v is = value_by (nat_le 48 c && nat_le c 57) (nat_le 97 c && nat_le c 102) c v (λ h. grind (arith, nat_tests)) (λ h. grind (arith, nat_tests)) is

-- one digit
abbrev HexText : Lang ℕ
HexText v t = (v < 16) × (t ≡ slice_index lower_digits v ∷ [])

hex_by : (o : Option ℕ) (c : ℕ) (cs : List ℕ) → lower_value c ≡ o → IsRead HexText (c ∷ cs) (answer_hex o c cs)
hex_by (Some v) c cs is = let at = value_at c v is in record { read = c ∷ []; whole = refl; is_text = (at.0, ap (λ x. x ∷ []) (sym at.1)) }
hex_by None c cs is = record {
  read = [];
  whole = refl;
  value = 0;
  more = 48 ∷ [];
  begins = (omega arith, refl);
  leaves = λ v t h. subst (λ x. Leaves x [] (c ∷ cs)) (sym h.1) (λ same. let told : Some v ≡ None = sym (at_value v h.0) ∙ ap lower_value same ∙ is in absurd (cc));
}

read_hex-right : (text : List ℕ) → IsRead HexText text (read_hex text)
read_hex-right [] = record { read = []; whole = refl; value = 0; more = 48 ∷ []; begins = (omega arith, refl); leaves = λ v t h. subst (λ x. Leaves x [] []) (sym h.1) tt }
read_hex-right (c ∷ cs) = hex_by (lower_value c) c cs refl

plain_hex : IsPlain HexText
plain_hex v w s t h k =
    subst (λ x. Agree (v ≡ w) x t) (sym h.1) (subst (λ y. Agree (v ≡ w) (slice_index lower_digits v ∷ []) y) (sym k.1) (λ same.
    same_Some v w (sym (at_value v h.0) ∙ ap lower_value same ∙ at_value w k.0)))

good_hex : Grammar HexText read_hex
good_hex = record { plain = plain_hex; some = record { value = 0; text = 48 ∷ []; is_text = (omega arith, refl) }; read = read_hex-right }

-- bytes, two digits each
abbrev pub BytesText : ℕ → Lang (List ℕ)
BytesText k job t = (length job ≡ k) × AllByRecursion (λ b. b < 256) job × (t ≡ encode_lower job)

-- the other bytes behind two digits, the second digit with them, and all
abbrev Others : ℕ → ℕ → ℕ → Lang (List ℕ)
Others k high low = Dep (BytesText k) (λ others. Done ((16 * high + low) ∷ others))

abbrev Low : ℕ → ℕ → Lang (List ℕ)
Low k high = Dep HexText (Others k high)

abbrev Pair : ℕ → Lang (List ℕ)
Pair k = Dep HexText (Low k)

from_pair : (k : ℕ) (job t : List ℕ) → Pair k job t → BytesText (suc k) job t
unfolding encode_with
from_pair k job t h =
    let high = h.first in
    let l = h.back_text in
    let low = l.first in
    let o = l.back_text in
    let others = o.first in
    let high_small = h.first_text.0 in
    let low_small = l.first_text.0 in
    let top : (16 * high + low) / 16 ≡ high = omega arith in
    let bottom : (16 * high + low) % 16 ≡ low = omega arith in
    let text : t ≡ encode_lower ((16 * high + low) ∷ others) = h.whole ∙ rw (h.first_text.1, l.whole, l.first_text.1, o.whole, o.first_text.2, o.back_text.1, top, bottom) (ap (λ x. slice_index lower_digits high ∷ slice_index lower_digits low ∷ x) (append-nil (encode_lower others))) in
    subst (λ j. BytesText (suc k) j t) (sym o.back_text.0) (ap suc o.first_text.0, (omega arith, o.first_text.1), text)

pair_from : (k : ℕ) (job t : List ℕ) → BytesText (suc k) job t → Pair k job t
unfolding encode_with
pair_from k [] t h = absurd (omega (arith, h.0))
pair_from k (b ∷ others) t h =
    let small : b < 256 = h.1.0 in
    let high_small : b / 16 < 16 = omega arith in
    let low_small : b % 16 < 16 = omega arith in
    let same : b ≡ 16 * (b / 16) + b % 16 = omega arith in
    let sized : length others ≡ k = omega (arith, h.0) in
    record {
      first = b / 16;
      front = slice_index lower_digits (b / 16) ∷ [];
      back = slice_index lower_digits (b % 16) ∷ encode_lower others;
      whole = h.2;
      first_text = (high_small, refl);
      back_text = record {
        first = b % 16;
        front = slice_index lower_digits (b % 16) ∷ [];
        back = encode_lower others;
        whole = refl;
        first_text = (low_small, refl);
        back_text = record {
          first = others;
          front = encode_lower others;
          back = [];
          whole = sym (append-nil (encode_lower others));
          first_text = (sized, h.1.1, refl);
          back_text = (ap (λ x. x ∷ others) same, refl);
        };
      };
    }

nothing : (job t : List ℕ) → BytesText 0 job t → (job ≡ []) × (t ≡ [])
unfolding encode_with
nothing [] t h = (refl, h.2)
nothing (b ∷ others) t h = absurd (omega (arith, h.0))

no_bytes : BytesText 0 [] []
unfolding encode_with
no_bytes = (refl, tt, refl)

plain_none : IsPlain (BytesText 0)
plain_none v w s t h k =
    let a = nothing v s h in
    let b = nothing w t k in
    subst (λ x. Agree (v ≡ w) x t) (sym a.1) (subst (λ y. Agree (v ≡ w) [] y) (sym b.1) (a.0 ∙ sym b.0))

pub good_bytes : (k : ℕ) → Grammar (BytesText k) (read_bytes k)
unfolding read_bytes
good_bytes zero = record { plain = plain_none; some = record { value = []; text = []; is_text = no_bytes }; read = λ text. record { read = []; whole = refl; is_text = no_bytes } }
good_bytes (suc k) =
    good_same (Pair k) (BytesText (suc k)) (read_bytes (suc k)) (from_pair k) (pair_from k)
    (good_seq HexText read_hex (Low k) (λ high. seq read_hex (λ low. seq (read_bytes k) (λ others. give ((16 * high + low) ∷ others)))) good_hex (λ high _ _.
    good_seq HexText read_hex (Others k high) (λ low. seq (read_bytes k) (λ others. give ((16 * high + low) ∷ others))) good_hex (λ low _ _.
    good_seq (BytesText k) (read_bytes k) (λ others. Done ((16 * high + low) ∷ others)) (λ others. give ((16 * high + low) ∷ others)) (good_bytes k) (λ others _ _. good_done ((16 * high + low) ∷ others)))))
