-- Which places of floats are allowed, and which is the highest.
use Rattle.std.proofs.Common.{◌≡◌, ℤ, ◌+ℤ◌, ◌≤ℤ◌, Bool, true, false, not, ◌&&◌, ◌||◌, int_le, int_lt, IsTrue, List, Contains, map, filter, refl, sym, subst, inl, inr, ◌⊎◌, arith}
use Rattle.std.specs.List.{list_all}
use Rattle.std.proofs.lemmas.Int.{ints}
use Rattle.viz_base.specs.declared.layouts.Band.{Band}
use Rattle.viz_base.specs.declared.layouts.Spot.{Spot}
use Rattle.viz_base.specs.declared.styles.Side.{Side}
use Rattle.viz_base.specs.declared.styles.Side.TheVariants as of_side
use Rattle.viz_base.proofs.ListLemmas.{later_member}
use Rattle.layout_semantics.specs.Extremes.{greatest_from}
use Rattle.layout_semantics.specs.Floats.{FloatBox, is_left, left_ones, right_ones, beside, is_next_to, fits_beside, is_inside, is_allowed, farthest_at, highest_top, candidate_tops, below_all, highest_free}
use Rattle.layout_laws.specs.FloatRules.{IsNextTo, IsLowEnough, LeftObeys, RightObeys, ObeysRules, IsNoFarther}
use Rattle.layout_laws.proofs.Beside.{rights, lefts, room_after, room_before}
use Rattle.layout_laws.proofs.Truths.{le, is_le, lt, is_lt, left_of, right_of, both_of, implied, implies, on_true, on_false, by_cond}
use Rattle.layout_laws.proofs.Members.{first_member, all_in, all_from, from_filter, to_filter, to_map, from_map}
use Rattle.layout_laws.proofs.Extremes.{below_greatest, start_below_greatest, greatest_at_most, greatest_is_one, above_least, start_above_least, least_at_least, least_is_one}

-- ---- the rules

next_to : (y : ℤ) (f : FloatBox) → IsNextTo y f → IsTrue (is_next_to y f)
next_to y f n = both_of (int_le f.box.top y) (int_lt y f.box.bottom) (is_le f.box.top y n.from) (is_lt y f.box.bottom n.to)

is_next : (y : ℤ) (f : FloatBox) → IsTrue (is_next_to y f) → IsNextTo y f
is_next y f h = record { from = le f.box.top y (left_of (int_le f.box.top y) (int_lt y f.box.bottom) h); to = lt y f.box.bottom (right_of (int_le f.box.top y) (int_lt y f.box.bottom) h) }

module _ (floats : List FloatBox) (width : ℤ) (cb : Band ℤ) (top : ℤ) (at : Spot ℤ) where
  low : Bool
  low = int_le top at.y

  tops : Bool
  tops = list_all (λ (f : FloatBox). int_le f.box.top at.y) floats

  fits : Side → FloatBox → Bool
  fits side f = not (is_next_to at.y f) || fits_beside side cb at.x (at.x +ℤ width) f

  within : Side → Bool
  within side = is_inside side cb at.x (at.x +ℤ width)

  all_fit : Side → Bool
  all_fit side = list_all (fits side) floats

  pub fits_next : (side : Side) → IsTrue (is_allowed floats side width cb top at) → (f : FloatBox) → Contains floats f → IsTrue (is_next_to at.y f) → IsTrue (fits_beside side cb at.x (at.x +ℤ width) f)
  unfolding low tops fits within all_fit
  fits_next side h f i n = implied (is_next_to at.y f) (fits_beside side cb at.x (at.x +ℤ width) f) n
      (all_in (fits side) floats f (right_of (low && tops && within side) (all_fit side) h) i)

  pub is_low_enough : (side : Side) → IsTrue (is_allowed floats side width cb top at) → IsLowEnough floats top at
  unfolding low tops fits within all_fit
  is_low_enough side h = record {
    below_top = le top at.y (left_of low tops (left_of (low && tops) (within side) (left_of (low && tops && within side) (all_fit side) h)));
    below_floats = λ f i. le f.box.top at.y (all_in (λ (f : FloatBox). int_le f.box.top at.y) floats f (right_of low tops (left_of (low && tops) (within side) (left_of (low && tops && within side) (all_fit side) h))) i);
  }

  pub inside : (side : Side) → IsTrue (is_allowed floats side width cb top at) → IsTrue (is_inside side cb at.x (at.x +ℤ width))
  unfolding low tops fits within all_fit
  inside side h = right_of (low && tops) (within side) (left_of (low && tops && within side) (all_fit side) h)

  pub to_rules : (side : Side) → IsTrue (is_allowed floats side width cb top at) → ObeysRules floats side width cb top at
  to_rules of_side.Left h = record {
    low_enough = is_low_enough of_side.Left h;
    inside = le cb.left at.x (inside of_side.Left h);
    right_of_left_ones = λ f i l n. le f.box.right at.x (left_of (int_le f.box.right at.x) (int_le (at.x +ℤ width) cb.right) (on_true (is_left f) _ (int_le (at.x +ℤ width) f.box.left) l (fits_next of_side.Left h f i (next_to at.y f n))));
    left_of_right_ones = λ f i l n. le (at.x +ℤ width) f.box.left (on_false (is_left f) (int_le f.box.right at.x && int_le (at.x +ℤ width) cb.right) _ l (fits_next of_side.Left h f i (next_to at.y f n)));
    not_sticking_out = λ f i l n. le (at.x +ℤ width) cb.right (right_of (int_le f.box.right at.x) (int_le (at.x +ℤ width) cb.right) (on_true (is_left f) _ (int_le (at.x +ℤ width) f.box.left) l (fits_next of_side.Left h f i (next_to at.y f n))));
  }
  to_rules of_side.Right h = record {
    low_enough = is_low_enough of_side.Right h;
    inside = le (at.x +ℤ width) cb.right (inside of_side.Right h);
    left_of_right_ones = λ f i l n. le (at.x +ℤ width) f.box.left (left_of (int_le (at.x +ℤ width) f.box.left) (int_le cb.left at.x) (on_false (is_left f) (int_le f.box.right at.x) _ l (fits_next of_side.Right h f i (next_to at.y f n))));
    right_of_left_ones = λ f i l n. le f.box.right at.x (on_true (is_left f) _ (int_le (at.x +ℤ width) f.box.left && int_le cb.left at.x) l (fits_next of_side.Right h f i (next_to at.y f n)));
    not_sticking_out = λ f i l n. le cb.left at.x (right_of (int_le (at.x +ℤ width) f.box.left) (int_le cb.left at.x) (on_false (is_left f) (int_le f.box.right at.x) _ l (fits_next of_side.Right h f i (next_to at.y f n))));
  }

  pub allowed : (side : Side) → IsLowEnough floats top at → IsTrue (is_inside side cb at.x (at.x +ℤ width))
      → ((f : FloatBox) → Contains floats f → IsTrue (is_next_to at.y f) → IsTrue (fits_beside side cb at.x (at.x +ℤ width) f)) → IsTrue (is_allowed floats side width cb top at)
  unfolding low tops fits within all_fit
  allowed side lo ins each = both_of (low && tops && within side) (all_fit side)
      (both_of (low && tops) (within side)
      (both_of low tops (is_le top at.y lo.below_top) (all_from (λ (f : FloatBox). int_le f.box.top at.y) floats (λ f i. is_le f.box.top at.y (lo.below_floats f i)))) ins)
      (all_from (fits side) floats (λ f i. implies (is_next_to at.y f) (fits_beside side cb at.x (at.x +ℤ width) f) (each f i)))

  pub of_rules : (side : Side) → ObeysRules floats side width cb top at → IsTrue (is_allowed floats side width cb top at)
  of_rules of_side.Left h = allowed of_side.Left h.low_enough (is_le cb.left at.x h.inside) (λ f i n. by_cond (is_left f) _ _
      (λ l. both_of (int_le f.box.right at.x) (int_le (at.x +ℤ width) cb.right) (is_le f.box.right at.x (h.right_of_left_ones f i l (is_next at.y f n))) (is_le (at.x +ℤ width) cb.right (h.not_sticking_out f i l (is_next at.y f n))))
      (λ r. is_le (at.x +ℤ width) f.box.left (h.left_of_right_ones f i r (is_next at.y f n))))
  of_rules of_side.Right h = allowed of_side.Right h.low_enough (is_le (at.x +ℤ width) cb.right h.inside) (λ f i n. by_cond (is_left f) _ _
      (λ l. is_le f.box.right at.x (h.right_of_left_ones f i l (is_next at.y f n)))
      (λ r. both_of (int_le (at.x +ℤ width) f.box.left) (int_le cb.left at.x) (is_le (at.x +ℤ width) f.box.left (h.left_of_right_ones f i r (is_next at.y f n))) (is_le cb.left at.x (h.not_sticking_out f i r (is_next at.y f n)))))

-- ---- the place farthest to its side

module _ (floats : List FloatBox) (cb : Band ℤ) (y : ℤ) where
  abbrev near : List FloatBox
  near = filter (is_next_to y) floats

  module _ (width : ℤ) (top : ℤ) (at : Spot ℤ) (as_near : (f : FloatBox) → Contains floats f → IsTrue (is_next_to y f) → IsNextTo at.y f) where
    pub not_before : LeftObeys floats width cb top at → (beside near cb).left ≤ℤ at.x
    not_before h = greatest_at_most cb.left (map (λ (f : FloatBox). f.box.right) (left_ones near)) at.x h.inside
        (λ x i. let f = rights floats cb (is_next_to y) x i in subst (λ (z : ℤ). z ≤ℤ at.x) f.4 (h.right_of_left_ones f.0 f.1 f.3 (as_near f.0 f.1 f.2)))

    pub not_after : RightObeys floats width cb top at → (at.x +ℤ width) ≤ℤ (beside near cb).right
    not_after h = least_at_least cb.right (map (λ (f : FloatBox). f.box.left) (right_ones near)) (at.x +ℤ width) h.inside
        (λ x i. let f = lefts floats cb (is_next_to y) x i in subst (λ (z : ℤ). (at.x +ℤ width) ≤ℤ z) f.4 (h.left_of_right_ones f.0 f.1 f.3 (as_near f.0 f.1 f.2)))

    -- where some place is allowed beside as many floats, so is the farthest one
    pub farthest_obeys : (side : Side) → IsLowEnough floats top (farthest_at floats side width cb y) → ObeysRules floats side width cb top at → ObeysRules floats side width cb top (farthest_at floats side width cb y)
    farthest_obeys of_side.Left lo h =
        let far = not_before h in record {
          low_enough = lo;
          inside = start_below_greatest cb.left (map (λ (f : FloatBox). f.box.right) (left_ones near));
          right_of_left_ones = λ f i l n. room_after floats cb (is_next_to y) f i (next_to y f n) l;
          left_of_right_ones = λ f i l n. let t = h.left_of_right_ones f i l (as_near f i (next_to y f n)) in omega (arith, ints);
          not_sticking_out = λ f i l n. let t = h.not_sticking_out f i l (as_near f i (next_to y f n)) in omega (arith, ints);
        }
    farthest_obeys of_side.Right lo h =
        let far = not_after h in record {
          low_enough = lo;
          inside = let t = start_above_least cb.right (map (λ (f : FloatBox). f.box.left) (right_ones near)) in omega (arith, ints);
          left_of_right_ones = λ f i l n. let t = room_before floats cb (is_next_to y) f i (next_to y f n) l in omega (arith, ints);
          right_of_left_ones = λ f i l n. let t = h.right_of_left_ones f i l (as_near f i (next_to y f n)) in omega (arith, ints);
          not_sticking_out = λ f i l n. let t = h.not_sticking_out f i l (as_near f i (next_to y f n)) in omega (arith, ints);
        }

  -- where no float is near, it is allowed
  pub free_obeys : (width : ℤ) (top : ℤ) (none : (f : FloatBox) → Contains floats f → IsTrue (is_next_to y f) → ⊥) → (side : Side) → IsLowEnough floats top (farthest_at floats side width cb y) → ObeysRules floats side width cb top (farthest_at floats side width cb y)
  free_obeys width top none of_side.Left lo = record {
    low_enough = lo;
    inside = start_below_greatest cb.left (map (λ (f : FloatBox). f.box.right) (left_ones near));
    right_of_left_ones = λ f i l n. absurd (none f i (next_to y f n));
    left_of_right_ones = λ f i l n. absurd (none f i (next_to y f n));
    not_sticking_out = λ f i l n. absurd (none f i (next_to y f n));
  }
  free_obeys width top none of_side.Right lo = record {
    low_enough = lo;
    inside = let t = start_above_least cb.right (map (λ (f : FloatBox). f.box.left) (right_ones near)) in omega (arith, ints);
    left_of_right_ones = λ f i l n. absurd (none f i (next_to y f n));
    right_of_left_ones = λ f i l n. absurd (none f i (next_to y f n));
    not_sticking_out = λ f i l n. absurd (none f i (next_to y f n));
  }

-- ---- the highest place

module _ (floats : List FloatBox) (width : ℤ) (cb : Band ℤ) (top : ℤ) where
  abbrev high : ℤ
  high = highest_top floats top

  abbrev bottoms : List ℤ
  bottoms = map (λ (f : FloatBox). f.box.bottom) floats

  abbrev free : Side → ℤ → Bool
  free side y = is_allowed floats side width cb top (farthest_at floats side width cb y)

  below_high : (f : FloatBox) → Contains floats f → f.box.top ≤ℤ high
  below_high f i = below_greatest top (map (λ (f : FloatBox). f.box.top) floats) f.box.top (to_map (λ (f : FloatBox). f.box.top) floats f i)

  low_from : (side : Side) (y : ℤ) → high ≤ℤ y → IsLowEnough floats top (farthest_at floats side width cb y)
  low_from of_side.Left y h = record { below_top = let t = start_below_greatest top (map (λ (f : FloatBox). f.box.top) floats) in omega (arith, ints); below_floats = λ f i. let t = below_high f i in omega (arith, ints) }
  low_from of_side.Right y h = record { below_top = let t = start_below_greatest top (map (λ (f : FloatBox). f.box.top) floats) in omega (arith, ints); below_floats = λ f i. let t = below_high f i in omega (arith, ints) }

  below_all_obeys : (side : Side) → ObeysRules floats side width cb top (farthest_at floats side width cb (below_all floats high))
  below_all_obeys side = free_obeys floats cb (below_all floats high) width top none side (low_from side (below_all floats high) (start_below_greatest high bottoms))
    where
      none : (f : FloatBox) → Contains floats f → IsTrue (is_next_to (below_all floats high) f) → ⊥
      none f i n = let b = below_greatest high bottoms f.box.bottom (to_map (λ (f : FloatBox). f.box.bottom) floats f i) in let t = (is_next (below_all floats high) f n).to in omega (arith, ints)

  pub highest_obeys : (side : Side) → ObeysRules floats side width cb top (farthest_at floats side width cb (highest_free floats side width cb top high))
  highest_obeys side = by (least_is_one (below_all floats high) (filter (free side) (candidate_tops floats high)))
    where
      by : ((highest_free floats side width cb top high ≡ below_all floats high) ⊎ Contains (filter (free side) (candidate_tops floats high)) (highest_free floats side width cb top high))
          → ObeysRules floats side width cb top (farthest_at floats side width cb (highest_free floats side width cb top high))
      by (inl e) = subst (λ (y : ℤ). ObeysRules floats side width cb top (farthest_at floats side width cb y)) (sym e) (below_all_obeys side)
      by (inr i) = to_rules floats width cb top (farthest_at floats side width cb (highest_free floats side width cb top high)) side
          (from_filter (free side) (candidate_tops floats high) (highest_free floats side width cb top high) i).1

  -- the lowest candidate that is not below an allowed place
  module _ (side : Side) (at : Spot ℤ) (h : ObeysRules floats side width cb top at) where
    low_at : (s : Side) → ObeysRules floats s width cb top at → IsLowEnough floats top at
    low_at of_side.Left o = o.low_enough
    low_at of_side.Right o = o.low_enough

    abbrev above_at : List ℤ
    above_at = filter (λ b. int_le b at.y) bottoms

    abbrev start : ℤ
    start = greatest_from high above_at

    high_above : high ≤ℤ at.y
    high_above = greatest_at_most top (map (λ (f : FloatBox). f.box.top) floats) at.y (low_at side h).below_top
        (λ x i. let f = from_map (λ (f : FloatBox). f.box.top) floats x i in subst (λ (z : ℤ). z ≤ℤ at.y) f.2 ((low_at side h).below_floats f.0 f.1))

    start_above : start ≤ℤ at.y
    start_above = greatest_at_most high above_at at.y high_above (λ x i. le x at.y (from_filter (λ b. int_le b at.y) bottoms x i).1)

    start_from_high : high ≤ℤ start
    start_from_high = start_below_greatest high above_at

    start_is_candidate : Contains (candidate_tops floats high) start
    start_is_candidate = by (greatest_is_one high above_at)
      where
        decide : (b : Bool) → int_lt high start ≡ b → Contains bottoms start → Contains (candidate_tops floats high) start
        decide true e i = later_member (filter (int_lt high) bottoms) (to_filter (int_lt high) bottoms start i e)
        decide false e i = first_member (filter (int_lt high) bottoms) (let l = start_from_high in grind (arith, ints))

        by : ((start ≡ high) ⊎ Contains above_at start) → Contains (candidate_tops floats high) start
        by (inl e) = first_member (filter (int_lt high) bottoms) (sym e)
        by (inr i) = decide (int_lt high start) refl (from_filter (λ b. int_le b at.y) bottoms start i).0

    as_near : (f : FloatBox) → Contains floats f → IsTrue (is_next_to start f) → IsNextTo at.y f
    as_near f i n = decide (int_le f.box.bottom at.y) refl
      where
        decide : (b : Bool) → int_le f.box.bottom at.y ≡ b → IsNextTo at.y f
        decide true e = absurd (
            let below = below_greatest high above_at f.box.bottom (to_filter (λ b. int_le b at.y) bottoms f.box.bottom (to_map (λ (f : FloatBox). f.box.bottom) floats f i) e) in
            let t = (is_next start f n).to in omega (arith, ints))
        decide false e = record { from = (low_at side h).below_floats f i; to = grind (arith, ints) }

    pub none_higher : highest_free floats side width cb top high ≤ℤ at.y
    none_higher =
        let obeys = farthest_obeys floats cb start width top at as_near side (low_from side start start_from_high) h in
        let least = above_least (below_all floats high) (filter (free side) (candidate_tops floats high)) start
        (to_filter (free side) (candidate_tops floats high) start start_is_candidate (of_rules floats width cb top (farthest_at floats side width cb start) side obeys)) in
        let above = start_above in
        omega (arith, ints)

-- ---- none as high is farther to the side

module _ (floats : List FloatBox) (width : ℤ) (cb : Band ℤ) (top y : ℤ) (at : Spot ℤ) (as_high : at.y ≡ y) where
  near_too : (f : FloatBox) → Contains floats f → IsTrue (is_next_to y f) → IsNextTo at.y f
  near_too f i n = subst (λ (z : ℤ). IsNextTo z f) (sym as_high) (is_next y f n)

  pub none_farther : (side : Side) → ObeysRules floats side width cb top at → IsNoFarther side at (farthest_at floats side width cb y)
  none_farther of_side.Left h = not_before floats cb y width top at near_too h
  none_farther of_side.Right h = let t = not_after floats cb y width top at near_too h in omega (arith, ints)
