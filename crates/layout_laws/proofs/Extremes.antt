-- The greatest and the least of a number and of a list.
use Rattle.std.proofs.Common.{◌≡◌, ℤ, ◌≤ℤ◌, Bool, true, false, cond, int_lt, List, [], ◌∷◌, Contains, refl, sym, ◌∙◌, subst, inl, inr, ◌⊎◌, ⊎_elim, arith}
use Rattle.std.specs.Int.{int_max, int_min}
use Rattle.std.proofs.lemmas.Int.{ints, clamps}
use Rattle.viz_base.proofs.ListLemmas.{later_member}
use Rattle.layout_semantics.specs.Extremes.{greatest_from, least_from}
use Rattle.layout_laws.proofs.Members.{no_member, first_member, first_or_later}

pub below_greatest : (a : ℤ) (xs : List ℤ) (x : ℤ) → Contains xs x → x ≤ℤ greatest_from a xs
below_greatest a [] x i = no_member i
below_greatest a (y ∷ ys) x i =
    ⊎_elim (λ e. omega (arith, ints, clamps, e)) (λ j. let rest = below_greatest a ys x j in omega (arith, ints, clamps)) (first_or_later y ys x i)

pub start_below_greatest : (a : ℤ) (xs : List ℤ) → a ≤ℤ greatest_from a xs
start_below_greatest a [] = omega (arith, ints)
start_below_greatest a (x ∷ xs) = let rest = start_below_greatest a xs in omega (arith, ints, clamps)

pub greatest_at_most : (a : ℤ) (xs : List ℤ) (most : ℤ) → a ≤ℤ most → ((x : ℤ) → Contains xs x → x ≤ℤ most) → greatest_from a xs ≤ℤ most
greatest_at_most a [] most l each = l
greatest_at_most a (x ∷ xs) most l each = let rest = greatest_at_most a xs most l (λ y i. each y (later_member xs i)) in let here = each x (first_member xs refl) in omega (arith, ints, clamps)

either : (x y : ℤ) (b : Bool) → (cond b x y ≡ x) ⊎ (cond b x y ≡ y)
either x y true = inl refl
either x y false = inr refl

pub greatest_is_one : (a : ℤ) (xs : List ℤ) → (greatest_from a xs ≡ a) ⊎ Contains xs (greatest_from a xs)
greatest_is_one a [] = inl refl
greatest_is_one a (x ∷ xs) = by (either x (greatest_from a xs) (int_lt (greatest_from a xs) x)) (greatest_is_one a xs)
  where
    by : ((int_max x (greatest_from a xs) ≡ x) ⊎ (int_max x (greatest_from a xs) ≡ greatest_from a xs)) → ((greatest_from a xs ≡ a) ⊎ Contains xs (greatest_from a xs))
        → (int_max x (greatest_from a xs) ≡ a) ⊎ Contains (x ∷ xs) (int_max x (greatest_from a xs))
    by (inl e) rest = inr (first_member xs (sym e))
    by (inr e) (inl same) = inl (e ∙ same)
    by (inr e) (inr i) = inr (later_member xs (subst (λ (m : ℤ). Contains xs m) (sym e) i))

pub above_least : (a : ℤ) (xs : List ℤ) (x : ℤ) → Contains xs x → least_from a xs ≤ℤ x
above_least a [] x i = no_member i
above_least a (y ∷ ys) x i =
    ⊎_elim (λ e. omega (arith, ints, clamps, e)) (λ j. let rest = above_least a ys x j in omega (arith, ints, clamps)) (first_or_later y ys x i)

pub start_above_least : (a : ℤ) (xs : List ℤ) → least_from a xs ≤ℤ a
start_above_least a [] = omega (arith, ints)
start_above_least a (x ∷ xs) = let rest = start_above_least a xs in omega (arith, ints, clamps)

pub least_at_least : (a : ℤ) (xs : List ℤ) (low : ℤ) → low ≤ℤ a → ((x : ℤ) → Contains xs x → low ≤ℤ x) → low ≤ℤ least_from a xs
least_at_least a [] low l each = l
least_at_least a (x ∷ xs) low l each = let rest = least_at_least a xs low l (λ y i. each y (later_member xs i)) in let here = each x (first_member xs refl) in omega (arith, ints, clamps)

pub least_is_one : (a : ℤ) (xs : List ℤ) → (least_from a xs ≡ a) ⊎ Contains xs (least_from a xs)
least_is_one a [] = inl refl
least_is_one a (x ∷ xs) = by (either (least_from a xs) x (int_lt (least_from a xs) x)) (least_is_one a xs)
  where
    by : ((int_min x (least_from a xs) ≡ least_from a xs) ⊎ (int_min x (least_from a xs) ≡ x)) → ((least_from a xs ≡ a) ⊎ Contains xs (least_from a xs))
        → (int_min x (least_from a xs) ≡ a) ⊎ Contains (x ∷ xs) (int_min x (least_from a xs))
    by (inr e) rest = inr (first_member xs (sym e))
    by (inl e) (inl same) = inl (e ∙ same)
    by (inl e) (inr i) = inr (later_member xs (subst (λ (m : ℤ). Contains xs m) (sym e) i))
