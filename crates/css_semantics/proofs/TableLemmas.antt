-- Values of one part by the rows of the table.
use Rattle.std.proofs.Common.{◌≡◌, ℕ, ℤ, pos, negsuc, ◌≤ℤ◌, Bool, true, false, cond, List, [], Option, Some, None, Result, Ok, Err, refl, subst, arith}
use Rattle.std.specs.List.{list_any, position}
use Rattle.std.proofs.lemmas.Int.{ints}
use Rattle.std.proofs.lemmas.List.Quantifiers.{position-Some}
use Rattle.viz_base.specs.declared.settings.Prop.{Prop}
use Rattle.viz_base.specs.declared.settings.Value.{Value}
use Rattle.viz_base.specs.declared.settings.Value.TheVariants as value
use Rattle.viz_base.proofs.Sameness.{same_Ok}
use Rattle.css_semantics.specs.declared.parts.Part.{Part}
use Rattle.css_semantics.specs.declared.parts.Part.TheVariants as part
use Rattle.css_semantics.specs.declared.parts.Refusal.{Refusal}
use Rattle.css_semantics.specs.declared.parts.Refusal.TheVariants.{Ignored, Unsupported}
use Rattle.css_semantics.specs.declared.parts.Takes.{Takes}
use Rattle.css_semantics.specs.declared.parts.Takes.TheVariants.{Nothing, All, NotNegative, ZeroAlone}
use Rattle.css_semantics.specs.Names.{same_name}
use Rattle.css_semantics.specs.Properties.{row}
use Rattle.css_semantics.specs.Values.{half, is_negative, is_zero, judged, number_value, part_value, placed}
use Rattle.css_semantics.specs.ValuesLaws.{Admits, HasValue}

refused : {A : Type 0} (refusal : Refusal) (x : A) → Err refusal ≡ Ok x → ⊥
refused refusal x e = cc

from_else : (b : Bool) (refusal : Refusal) (v w : Value) → cond b (Err refusal) (Ok v) ≡ Ok w → (b ≡ false) × (v ≡ w)
from_else true refusal v w e = absurd (refused refusal w e)
from_else false refusal v w e = (refl, same_Ok e)

from_then : (b : Bool) (refusal : Refusal) (v w : Value) → cond b (Ok v) (Err refusal) ≡ Ok w → (b ≡ true) × (v ≡ w)
from_then true refusal v w e = (refl, same_Ok e)
from_then false refusal v w e = absurd (refused refusal w e)

from_test : (b : Bool) (r : Result Value Refusal) (refusal : Refusal) (w : Value) → cond b r (Err refusal) ≡ Ok w → (b ≡ true) × (r ≡ Ok w)
from_test true r refusal w e = (refl, e)
from_test false r refusal w e = absurd (refused refusal w e)

above : (n : ℤ) → is_negative n ≡ false → pos 0 ≤ℤ n
above (pos n) e = omega (arith, ints)
above (negsuc n) e = cc

zero_is : (n : ℤ) → is_zero n ≡ true → n ≡ pos 0
zero_is (pos n) e = grind arith
zero_is (negsuc n) e = cc

half_above : (n : ℤ) → is_negative n ≡ false → is_negative (half n) ≡ false
half_above (pos n) e = refl
half_above (negsuc n) e = cc

judged_admits : (p : Prop) (t : Takes) (written n : ℤ) (v w : Value) → (is_negative written ≡ false → is_negative n ≡ false) → judged p t written n v ≡ Ok w → (v ≡ w) × Admits t n
judged_admits p Nothing written n v w h e = absurd (refused Ignored w e)
judged_admits p All written n v w h e = (same_Ok e, tt)
judged_admits p NotNegative written n v w h e = let k = from_else (is_negative written) Ignored v w e in (k.1, above n (h k.0))
judged_admits p ZeroAlone written n v w h e = let k = from_then (is_zero n) (Unsupported p) v w e in (k.1, zero_is n k.0)

number_has : (p : Prop) (t : Takes) (n : ℤ) (v : Value) → t ≡ (row p).numbers → number_value p t n ≡ Ok v → HasValue (row p) v
number_has p Nothing n v s e =
    let k = from_test (is_zero n) (judged p (row p).lengths n n (value.Px n)) Ignored v e in
    let j = judged_admits p (row p).lengths n n (value.Px n) v (λ h. h) k.1 in
    subst (HasValue (row p)) j.0 j.1
number_has p All n v s e = let j = judged_admits p All n n (value.Number n) v (λ h. h) e in subst (HasValue (row p)) j.0 (subst (λ t. Admits t n) s j.1)
number_has p NotNegative n v s e = let j = judged_admits p NotNegative n n (value.Number n) v (λ h. h) e in subst (HasValue (row p)) j.0 (subst (λ t. Admits t n) s j.1)
number_has p ZeroAlone n v s e = let j = judged_admits p ZeroAlone n n (value.Number n) v (λ h. h) e in subst (HasValue (row p)) j.0 (subst (λ t. Admits t n) s j.1)

refused_both : (b : Bool) (r s : Refusal) (w : Value) → cond b (Err r) (Err s) ≡ Ok w → ⊥
refused_both true r s w e = refused r w e
refused_both false r s w e = refused s w e

word_has : (p : Prop) (word : List ℕ) (o : Option ℕ) (v : Value) → position (same_name word) (row p).words ≡ o → placed p word o ≡ Ok v → HasValue (row p) v
word_has p word (Some place) v s e = subst (HasValue (row p)) (same_Ok e) ((position-Some (same_name word) (row p).words place [] s).0)
word_has p word None v s e = absurd (refused_both (list_any (same_name word) (row p).refused) (Unsupported p) Ignored v e)

pub part_has : (p : Prop) (a : Part) (v : Value) → part_value p a ≡ Ok v → HasValue (row p) v
part_has p (part.Word word) v e = word_has p word _ v refl e
part_has p (part.Number n) v e = number_has p (row p).numbers n v refl e
part_has p (part.Percentage n) v e = let j = judged_admits p (row p).percentages n n (value.Pct n) v (λ h. h) e in subst (HasValue (row p)) j.0 j.1
part_has p (part.Px n) v e = let j = judged_admits p (row p).lengths n n (value.Px n) v (λ h. h) e in subst (HasValue (row p)) j.0 j.1
part_has p (part.Em n) v e = let j = judged_admits p (row p).lengths n n (value.Em n) v (λ h. h) e in subst (HasValue (row p)) j.0 j.1
part_has p (part.Ex n) v e = let j = judged_admits p (row p).lengths n (half n) (value.Em (half n)) v (half_above n) e in subst (HasValue (row p)) j.0 j.1
part_has p (part.Quoted text) v e = absurd (refused Ignored v e)
part_has p part.Comma v e = absurd (refused Ignored v e)
part_has p part.Solidus v e = absurd (refused Ignored v e)
part_has p part.Colour v e = absurd (refused Ignored v e)
part_has p (part.Function matched) v e = absurd (refused Ignored v e)
part_has p part.Uri v e = absurd (refused Ignored v e)
part_has p part.Other v e = absurd (refused Ignored v e)
