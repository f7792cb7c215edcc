-- Comparisons of whole numbers as truth values, and the greatest and the least of a list when one number goes first.
use Rattle.std.proofs.Common.{◌≡◌, ℤ, Bool, true, false, ◌&&◌, int_le, IsTrue, List, [], ◌∷◌, refl, sym, ap, ◌∙◌, arith}
use Rattle.std.specs.Int.{int_max, int_min}
use Rattle.std.proofs.lemmas.Int.{ints, clamps}
use Rattle.viz_base.specs.declared.styles.Side.{Side}
use Rattle.viz_base.specs.declared.styles.Side.TheVariants as of_side
use Rattle.layout_semantics.specs.Extremes.{greatest_from, least_from}
use Rattle.layout_laws.proofs.Truths.{le, is_le, left_of, right_of, both_of}
use Rattle.lay_float.specs.steps.Shelves.{opposite, innermost, reaches_to}

pub same_truth : (a b : Bool) → (IsTrue a → IsTrue b) → (IsTrue b → IsTrue a) → a ≡ b
same_truth true true f g = refl
same_truth true false f g = sym (f refl)
same_truth false true f g = g refl
same_truth false false f g = refl

le_min : (x a b : ℤ) → int_le x (int_min a b) ≡ int_le x a && int_le x b
le_min x a b = same_truth _ _
    (λ h. let t = le x (int_min a b) h in both_of (int_le x a) (int_le x b) (is_le x a (omega (arith, ints, clamps))) (is_le x b (omega (arith, ints, clamps))))
    (λ h. let p = le x a (left_of (int_le x a) (int_le x b) h) in let q = le x b (right_of (int_le x a) (int_le x b) h) in is_le x (int_min a b) (omega (arith, ints, clamps)))

max_le : (x a b : ℤ) → int_le (int_max a b) x ≡ int_le a x && int_le b x
max_le x a b = same_truth _ _
    (λ h. let t = le (int_max a b) x h in both_of (int_le a x) (int_le b x) (is_le a x (omega (arith, ints, clamps))) (is_le b x (omega (arith, ints, clamps))))
    (λ h. let p = le a x (left_of (int_le a x) (int_le b x) h) in let q = le b x (right_of (int_le a x) (int_le b x) h) in is_le (int_max a b) x (omega (arith, ints, clamps)))

-- what stays within both of two limits stays within the tighter one
pub within_both : (side : Side) (x a b : ℤ) → reaches_to side x (innermost (opposite side) a b) ≡ reaches_to side x a && reaches_to side x b
within_both of_side.Left x a b = le_min x a b
within_both of_side.Right x a b = max_le x a b

pub greatest-first : (m a : ℤ) (xs : List ℤ) → greatest_from (int_max m a) xs ≡ int_max m (greatest_from a xs)
greatest-first m a [] = refl
greatest-first m a (x ∷ xs) = ap (int_max x) (greatest-first m a xs) ∙ omega (arith, ints, clamps)

pub least-first : (m a : ℤ) (xs : List ℤ) → least_from (int_min m a) xs ≡ int_min m (least_from a xs)
least-first m a [] = refl
least-first m a (x ∷ xs) = ap (int_min x) (least-first m a xs) ∙ omega (arith, ints, clamps)
