-- The halves of a rectangle: they lie within it, cover it, and each has at least a third of its worlds.
use Rattle.std.proofs.Common.{◌≡◌, ℕ, zero, suc, ◌+◌, ◌-◌, ◌*◌, ◌/◌, ◌^◌, ◌<◌, ◌≤◌, ℤ, pos, neg_ℤ, ◌-ℤ◌, Bool, true, false, cond, nat_lt, nat_le, refl, ap, ◌∙◌, arith, inl, inr}
use Rattle.std.specs.Prelude.{◌⊎◌}
use Rattle.std.specs.Int.{int_max, int_min}
use Rattle.std.proofs.lemmas.Int.{ints}
use Rattle.std.proofs.Math.Nat.{add-mul, mul-le-mul_left, pow-succ'}
use Rattle.std.proofs.lemmas.Bool.Decides.{nat_tests}
use Rattle.viz_base.specs.declared.worlds.World.{World}
use Rattle.viz_base.specs.declared.worlds.Axis.{Axis}
use Rattle.viz_base.specs.declared.worlds.Axis.TheVariants.{Width, Size, Height}
use Rattle.viz_base.specs.declared.worlds.Span.{Span}
use Rattle.viz_base.specs.declared.worlds.Rect.{Rect}
use Rattle.viz_base.specs.Worlds.{along, side_of, with_side, span_count, world_count, IsInRange}
use Rattle.lin_proof.specs.Form.{denied}
use Rattle.cert_semantics.specs.Axes.{variable_of, axis_count}
use Rattle.cert_semantics.specs.Rectangles.{Side, whole, left_by}
use Rattle.viz_base.specs.Rectangles.{IsWithin, IsProper}
use Rattle.viz_base.specs.declared.halves.Halves.{Halves}
use Rattle.viz_base.specs.Halves.{middle, up_to, above, halves_at, halves_of, length_on, longer_of, longest_axis}
use Rattle.cert_semantics.specs.Units.{row_up_to}
use Rattle.prove_search.specs.steps.Finds.{HasLevels}

-- ---- a side

-- a number in the middle of others
pub record IsMiddle (side : Span) (m : ℕ) : Type 0 where
  pub low : side.least ≤ m
  pub high : m < side.most
  pub count : span_count (up_to side m) + span_count (above side m) ≡ span_count side
  pub first_third : span_count side ≤ 3 * span_count (up_to side m)
  pub second_third : span_count side ≤ 3 * span_count (above side m)
  pub first_half : 2 * span_count (up_to side m) ≤ span_count side + 1
  pub second_half : 2 * span_count (above side m) ≤ span_count side

middle_by : (side : Span) (m q : ℕ) → side.least < side.most → m ≡ side.least + q → 2 * q ≤ side.most - side.least → side.most - side.least ≤ 2 * q + 1
    → IsMiddle side m
middle_by side m q lt is low high = record {
  low = omega arith;
  high = omega arith;
  count = omega arith;
  first_third = omega arith;
  second_third = omega arith;
  first_half = omega arith;
  second_half = omega arith;
}

pub middle_is : (side : Span) → side.least < side.most → IsMiddle side (middle side.least side.most)
middle_is side lt =
    middle_by side (middle side.least side.most) ((side.most - side.least) / 2) lt refl (omega arith) (omega arith)

-- ---- a rectangle with other numbers on one axis

-- how many worlds it has for each number on the axis
abbrev rest : Axis → Rect → ℕ
rest Width r = span_count (side_of Size r) * span_count (side_of Height r)
rest Size r = span_count (side_of Width r) * span_count (side_of Height r)
rest Height r = span_count (side_of Width r) * span_count (side_of Size r)

counted : (axis : Axis) (r : Rect) (t : Span) → world_count (with_side axis r t) ≡ span_count t * rest axis r
counted Width r t = omega arith
counted Size r t = omega arith
counted Height r t = omega arith

counted_whole : (axis : Axis) (r : Rect) → world_count r ≡ span_count (side_of axis r) * rest axis r
counted_whole Width r = omega arith
counted_whole Size r = omega arith
counted_whole Height r = omega arith

proper_by : (axis : Axis) (r : Rect) (t : Span) → IsProper r → t.least ≤ t.most → IsProper (with_side axis r t)
proper_by Width r t proper le = record { widths = le; sizes = proper.sizes; heights = proper.heights }
proper_by Size r t proper le = record { widths = proper.widths; sizes = le; heights = proper.heights }
proper_by Height r t proper le = record { widths = proper.widths; sizes = proper.sizes; heights = le }

-- the inner span is a part of the outer one
record IsSpanIn (outer inner : Span) : Type 0 where
  pub least : outer.least ≤ inner.least
  pub most : inner.most ≤ outer.most

same_span : (side : Span) → IsSpanIn side side
same_span side = record { least = omega arith; most = omega arith }

within_of : (r part : Rect) → ((axis : Axis) → IsSpanIn (side_of axis r) (side_of axis part)) → IsWithin r part
within_of r part h = record {
  width_least = (h Width).least;
  width_most = (h Width).most;
  size_least = (h Size).least;
  size_most = (h Size).most;
  height_least = (h Height).least;
  height_most = (h Height).most;
}

within_by : (axis : Axis) (r : Rect) (t : Span) → IsSpanIn (side_of axis r) t → IsWithin r (with_side axis r t)
within_by axis r t h = within_of r (with_side axis r t) (λ other. at axis other h)
  where
    at : (axis other : Axis) → IsSpanIn (side_of axis r) t → IsSpanIn (side_of other r) (side_of other (with_side axis r t))
    at Width Width h = h
    at Width Size h = same_span (side_of Size r)
    at Width Height h = same_span (side_of Height r)
    at Size Width h = same_span (side_of Width r)
    at Size Size h = h
    at Size Height h = same_span (side_of Height r)
    at Height Width h = same_span (side_of Width r)
    at Height Size h = same_span (side_of Size r)
    at Height Height h = h

in_by : (axis : Axis) (r : Rect) (t : Span) (world : World) → IsInRange r world → t.least ≤ along axis world → along axis world ≤ t.most
    → IsInRange (with_side axis r t) world
in_by Width r t world i low high = record {
  width_least = low;
  width_most = high;
  size_least = i.size_least;
  size_most = i.size_most;
  height_least = i.height_least;
  height_most = i.height_most;
}
in_by Size r t world i low high = record {
  width_least = i.width_least;
  width_most = i.width_most;
  size_least = low;
  size_most = high;
  height_least = i.height_least;
  height_most = i.height_most;
}
in_by Height r t world i low high = record {
  width_least = i.width_least;
  width_most = i.width_most;
  size_least = i.size_least;
  size_most = i.size_most;
  height_least = low;
  height_most = high;
}

-- ---- cuts by a row

-- the axis has a variable in a job of the form
abbrev pub IsOfForm : ℕ → Axis → Type 0
IsOfForm form axis = nat_lt (variable_of axis) (axis_count form) ≡ true

-- a bound within a side
up_to_bound : (m u : ℕ) → m < u → int_min (pos m) (pos u) ≡ pos m
up_to_bound m u high = grind (arith, ints, nat_tests)

above_bound : (l m : ℕ) → l ≤ m → int_max (neg_ℤ (neg_ℤ (pos m) -ℤ pos 1)) (pos l) ≡ pos (m + 1)
above_bound l m low =
    let back : neg_ℤ (neg_ℤ (pos m) -ℤ pos 1) ≡ pos (m + 1) = omega (arith, ints) in
    ap (λ k. int_max k (pos l)) back ∙ grind (arith, ints, nat_tests)

abbrev side_between : ℤ → ℤ → Side
side_between least most = record { least = least; most = most }

first_left : (form : ℕ) (axis : Axis) (r : Rect) (m : ℕ) → IsOfForm form axis → IsMiddle (side_of axis r) m
    → left_by form (row_up_to axis m) (whole r) ≡ whole (halves_at axis r m).first
first_left form axis r m has mid = λ i other. at axis other has mid i
  where
    at : (axis other : Axis) → IsOfForm form axis → IsMiddle (side_of axis r) m
        → left_by form (row_up_to axis m) (whole r) other ≡ whole (halves_at axis r m).first other
    at Width Width has mid = rw has (ap (λ most. side_between (pos r.wl) most) (up_to_bound m r.wh mid.high))
    at Width Size has mid = rw has refl
    at Width Height has mid = rw has refl
    at Size Width has mid = rw has refl
    at Size Size has mid = rw has (ap (λ most. side_between (pos r.sl) most) (up_to_bound m r.sh mid.high))
    at Size Height has mid = rw has refl
    at Height Width has mid = rw has refl
    at Height Size has mid = rw has refl
    at Height Height has mid = rw has (ap (λ most. side_between (pos r.hl) most) (up_to_bound m r.hh mid.high))

second_left : (form : ℕ) (axis : Axis) (r : Rect) (m : ℕ) → IsOfForm form axis → IsMiddle (side_of axis r) m
    → left_by form (denied (row_up_to axis m)) (whole r) ≡ whole (halves_at axis r m).second
second_left form axis r m has mid = λ i other. at axis other has mid i
  where
    at : (axis other : Axis) → IsOfForm form axis → IsMiddle (side_of axis r) m
        → left_by form (denied (row_up_to axis m)) (whole r) other ≡ whole (halves_at axis r m).second other
    at Width Width has mid = rw has (ap (λ least. side_between least (pos r.wh)) (above_bound r.wl m mid.low))
    at Width Size has mid = rw has refl
    at Width Height has mid = rw has refl
    at Size Width has mid = rw has refl
    at Size Size has mid = rw has (ap (λ least. side_between least (pos r.sh)) (above_bound r.sl m mid.low))
    at Size Height has mid = rw has refl
    at Height Width has mid = rw has refl
    at Height Size has mid = rw has refl
    at Height Height has mid = rw has (ap (λ least. side_between least (pos r.hh)) (above_bound r.hl m mid.low))

-- ---- halvings

-- the halves have a halving less to go
pub record Shrinks (levels : ℕ) (first second : Rect) : Type 0 where
  pub less : ℕ
  pub step : levels ≡ suc less
  pub first_has : HasLevels less first
  pub second_has : HasLevels less second

pub record IsHalving (r : Rect) (h : Halves) : Type 0 where
  pub first_left : (form : ℕ) → IsOfForm form h.axis → left_by form (row_up_to h.axis h.middle) (whole r) ≡ whole h.first
  pub second_left : (form : ℕ) → IsOfForm form h.axis → left_by form (denied (row_up_to h.axis h.middle)) (whole r) ≡ whole h.second
  pub first_proper : IsProper h.first
  pub second_proper : IsProper h.second
  pub first_within : IsWithin r h.first
  pub second_within : IsWithin r h.second
  pub covers : (world : World) → IsInRange r world → IsInRange h.first world ⊎ IsInRange h.second world
  pub count : world_count h.first + world_count h.second ≡ world_count r
  pub first_third : world_count r ≤ 3 * world_count h.first
  pub second_third : world_count r ≤ 3 * world_count h.second
  pub levels : (levels : ℕ) → HasLevels levels r → Shrinks levels h.first h.second
  -- the middle stands between two numbers of the axis
  pub low : (side_of h.axis r).least ≤ h.middle
  pub high : h.middle < (side_of h.axis r).most

below_or_above : (x m : ℕ) → (x ≤ m) ⊎ (m + 1 ≤ x)
below_or_above x m = by_test (nat_le x m) refl
  where
    by_test : (b : Bool) → nat_le x m ≡ b → (x ≤ m) ⊎ (m + 1 ≤ x)
    by_test true e = inl (grind (arith, nat_tests))
    by_test false e = inr (grind (arith, nat_tests))

-- a side that is halved takes a halving less
halved : (n a i : ℕ) → 2 ≤ n → n ≤ 2 ^ i → 2 * a ≤ n + 1 → a ≤ 2 ^ (i - 1)
halved n a zero some fits half = absurd (omega arith)
halved n a (suc i) some fits half =
    let twice : 2 ^ suc i ≡ 2 * 2 ^ i = pow-succ' 2 i in
    let back : suc i - 1 ≡ i = omega arith in
    rw back (omega arith)

some_level : (n i : ℕ) → 2 ≤ n → n ≤ 2 ^ i → 1 ≤ i
some_level n zero some fits = absurd (omega arith)
some_level n (suc i) some fits = omega arith

shrinks : (axis : Axis) (r : Rect) (m : ℕ) → IsMiddle (side_of axis r) m → (levels : ℕ) → HasLevels levels r
    → Shrinks levels (halves_at axis r m).first (halves_at axis r m).second
shrinks Width r m mid levels h =
    let low = mid.low in
    let high = mid.high in
    let half = mid.second_half in
    let whole = h.whole in
    let some = some_level (span_count (side_of Width r)) h.of_width (omega arith) h.widths in
    record {
      less = levels - 1;
      step = omega arith;
      first_has = record {
        of_width = h.of_width - 1;
        of_size = h.of_size;
        of_height = h.of_height;
        whole = omega arith;
        widths = halved _ _ h.of_width (omega arith) h.widths mid.first_half;
        sizes = h.sizes;
        heights = h.heights;
      };
      second_has = record {
        of_width = h.of_width - 1;
        of_size = h.of_size;
        of_height = h.of_height;
        whole = omega arith;
        widths = halved _ _ h.of_width (omega arith) h.widths (omega arith);
        sizes = h.sizes;
        heights = h.heights;
      };
    }
shrinks Size r m mid levels h =
    let low = mid.low in
    let high = mid.high in
    let half = mid.second_half in
    let whole = h.whole in
    let some = some_level (span_count (side_of Size r)) h.of_size (omega arith) h.sizes in
    record {
      less = levels - 1;
      step = omega arith;
      first_has = record {
        of_width = h.of_width;
        of_size = h.of_size - 1;
        of_height = h.of_height;
        whole = omega arith;
        widths = h.widths;
        sizes = halved _ _ h.of_size (omega arith) h.sizes mid.first_half;
        heights = h.heights;
      };
      second_has = record {
        of_width = h.of_width;
        of_size = h.of_size - 1;
        of_height = h.of_height;
        whole = omega arith;
        widths = h.widths;
        sizes = halved _ _ h.of_size (omega arith) h.sizes (omega arith);
        heights = h.heights;
      };
    }
shrinks Height r m mid levels h =
    let low = mid.low in
    let high = mid.high in
    let half = mid.second_half in
    let whole = h.whole in
    let some = some_level (span_count (side_of Height r)) h.of_height (omega arith) h.heights in
    record {
      less = levels - 1;
      step = omega arith;
      first_has = record {
        of_width = h.of_width;
        of_size = h.of_size;
        of_height = h.of_height - 1;
        whole = omega arith;
        widths = h.widths;
        sizes = h.sizes;
        heights = halved _ _ h.of_height (omega arith) h.heights mid.first_half;
      };
      second_has = record {
        of_width = h.of_width;
        of_size = h.of_size;
        of_height = h.of_height - 1;
        whole = omega arith;
        widths = h.widths;
        sizes = h.sizes;
        heights = halved _ _ h.of_height (omega arith) h.heights (omega arith);
      };
    }

third : (c a s : ℕ) → c ≤ 3 * a → c * s ≤ 3 * (a * s)
third c a s le = omega (arith, mul-le-mul_left s le)

third_of : (axis : Axis) (r : Rect) (t : Span) → span_count (side_of axis r) ≤ 3 * span_count t → world_count r ≤ 3 * world_count (with_side axis r t)
third_of axis r t le =
    let whole = counted_whole axis r in
    let part = counted axis r t in
    let few = third (span_count (side_of axis r)) (span_count t) (rest axis r) le in
    omega arith

sum_of : (axis : Axis) (r : Rect) (t u : Span) → span_count t + span_count u ≡ span_count (side_of axis r)
    → world_count (with_side axis r t) + world_count (with_side axis r u) ≡ world_count r
sum_of axis r t u sum =
    let first = counted axis r t in
    let second = counted axis r u in
    let whole = counted_whole axis r in
    let both = add-mul (span_count t) (span_count u) (rest axis r) in
    let by_sum = ap (λ n. n * rest axis r) sum in
    omega arith

at_axis : (axis : Axis) (r : Rect) (m : ℕ) → IsProper r → IsMiddle (side_of axis r) m → IsHalving r (halves_at axis r m)
at_axis axis r m proper mid =
    let side = side_of axis r in
    let low = mid.low in
    let high = mid.high in
    record {
      first_left = λ form has. first_left form axis r m has mid;
      second_left = λ form has. second_left form axis r m has mid;
      first_proper = proper_by axis r (up_to side m) proper low;
      second_proper = proper_by axis r (above side m) proper (omega arith);
      first_within = within_by axis r (up_to side m) (record { least = omega arith; most = omega arith });
      second_within = within_by axis r (above side m) (record { least = omega arith; most = omega arith });
      covers = λ world i. place world i (below_or_above (along axis world) m);
      count = sum_of axis r (up_to side m) (above side m) mid.count;
      first_third = third_of axis r (up_to side m) mid.first_third;
      second_third = third_of axis r (above side m) mid.second_third;
      levels = λ levels h. shrinks axis r m mid levels h;
      low = low;
      high = high;
    }
  where
    ends : (axis : Axis) (world : World) → IsInRange r world → ((side_of axis r).least ≤ along axis world) × (along axis world ≤ (side_of axis r).most)
    ends Width world i = (i.width_least, i.width_most)
    ends Size world i = (i.size_least, i.size_most)
    ends Height world i = (i.height_least, i.height_most)

    place : (world : World) → IsInRange r world → (along axis world ≤ m) ⊎ (m + 1 ≤ along axis world)
        → IsInRange (halves_at axis r m).first world ⊎ IsInRange (halves_at axis r m).second world
    place world i (inl le) = inl (in_by axis r (up_to (side_of axis r) m) world i (ends axis world i).0 le)
    place world i (inr le) = inr (in_by axis r (above (side_of axis r) m) world i le (ends axis world i).1)

-- ---- a longest side

-- of many worlds some side has two numbers, and so has the longest
long_side : (w s h : ℕ) → w ≤ 1 → s ≤ 1 → h ≤ 1 → w * s * h ≤ 1
long_side zero s h a b c = omega arith
long_side (suc zero) zero h a b c = omega arith
long_side (suc zero) (suc zero) h a b c = omega arith
long_side (suc zero) (suc (suc s)) h a b c = absurd (omega arith)
long_side (suc (suc w)) s h a b c = absurd (omega arith)

is_longer : (r : Rect) (first second : Axis) → (length_on r first ≤ length_on r (longer_of r first second)) × (length_on r second ≤ length_on r (longer_of r first second))
is_longer r first second = by_test (nat_le (length_on r second) (length_on r first)) refl
  where
    by_test : (b : Bool) → nat_le (length_on r second) (length_on r first) ≡ b
        → (length_on r first ≤ length_on r (cond b first second)) × (length_on r second ≤ length_on r (cond b first second))
    by_test true e = (omega arith, grind (arith, nat_tests))
    by_test false e = (grind (arith, nat_tests), omega arith)

longest : (r : Rect) (axis : Axis) → length_on r axis ≤ length_on r (longest_axis r)
longest r Width =
    let a = (is_longer r Width Size).0 in
    let b = (is_longer r (longer_of r Width Size) Height).0 in
    omega arith
longest r Size =
    let a = (is_longer r Width Size).1 in
    let b = (is_longer r (longer_of r Width Size) Height).0 in
    omega arith
longest r Height = (is_longer r (longer_of r Width Size) Height).1

longest_has_two : (r : Rect) → IsProper r → 64 < world_count r → 1 ≤ length_on r (longest_axis r)
longest_has_two r proper many = by_length (length_on r (longest_axis r)) refl
  where
    by_length : (n : ℕ) → n ≡ length_on r (longest_axis r) → 1 ≤ n
    by_length (suc n) is = omega arith
    by_length zero is =
        let a = longest r Width in
        let b = longest r Size in
        let c = longest r Height in
        let widths = proper.widths in
        let sizes = proper.sizes in
        let heights = proper.heights in
        let few = long_side (span_count (side_of Width r)) (span_count (side_of Size r)) (span_count (side_of Height r)) (omega arith) (omega arith) (omega arith) in
        absurd (omega arith)

pub halves_are : (r : Rect) → IsProper r → 64 < world_count r → IsHalving r (halves_of r)
halves_are r proper many =
    let axis = longest_axis r in
    let side = side_of axis r in
    let two = longest_has_two r proper many in
    at_axis axis r (middle side.least side.most) proper (middle_is side (omega arith))
