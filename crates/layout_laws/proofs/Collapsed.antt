use Rattle.std.proofs.Common.{◌≡◌, ℤ, pos, ◌≤ℤ◌, List, Contains, inl, inr, ◌⊎◌, sym, subst, arith}
use Rattle.std.proofs.lemmas.Int.{ints}
use Rattle.layout_semantics.specs.Extremes.{greatest_from, least_from}
use Rattle.layout_laws.specs.Margins.{IsGreatestPositive, IsLeastNegative}
use Rattle.layout_laws.proofs.Extremes.{below_greatest, start_below_greatest, greatest_at_most, greatest_is_one, above_least, start_above_least, least_at_least, least_is_one}

-- a member's bound, or 0's
reaches : (xs : List ℤ) (m : ℤ) (P : ℤ → Type 0) → P (pos 0) → ((x : ℤ) → Contains xs x → P x) → ((m ≡ pos 0) ⊎ Contains xs m) → P m
reaches xs m P zero_bound each (inl e) = subst P (sym e) zero_bound
reaches xs m P zero_bound each (inr i) = each m i

pub most_is : (xs : List ℤ) (m : ℤ) → IsGreatestPositive xs m → greatest_from (pos 0) xs ≡ m
most_is xs m h =
    let up = greatest_at_most (pos 0) xs m h.not_negative h.bound in
    let down = reaches xs m (λ x. x ≤ℤ greatest_from (pos 0) xs) (start_below_greatest (pos 0) xs) (below_greatest (pos 0) xs) h.reached in
    omega (arith, ints)

pub least_is : (xs : List ℤ) (m : ℤ) → IsLeastNegative xs m → least_from (pos 0) xs ≡ m
least_is xs m h =
    let down = least_at_least (pos 0) xs m h.not_positive h.bound in
    let up = reaches xs m (λ x. least_from (pos 0) xs ≤ℤ x) (start_above_least (pos 0) xs) (above_least (pos 0) xs) h.reached in
    omega (arith, ints)

pub has_most : (xs : List ℤ) → (m : ℤ) × IsGreatestPositive xs m
has_most xs = (
  greatest_from (pos 0) xs,
  record {
    not_negative = start_below_greatest (pos 0) xs;
    bound = below_greatest (pos 0) xs;
    reached = greatest_is_one (pos 0) xs;
  },
)

pub has_least : (xs : List ℤ) → (m : ℤ) × IsLeastNegative xs m
has_least xs = (
  least_from (pos 0) xs,
  record {
    not_positive = start_above_least (pos 0) xs;
    bound = above_least (pos 0) xs;
    reached = least_is_one (pos 0) xs;
  },
)
