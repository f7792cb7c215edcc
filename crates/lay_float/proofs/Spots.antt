-- The place that the search gives is the one that the rules ask for, and its numbers are small.
use Rattle.std.proofs.Common.{◌≡◌, ℕ, ◌+◌, ◌-◌, ◌<◌, ◌≤◌, ℤ, ◌+ℤ◌, ◌-ℤ◌, ◌≤ℤ◌, Bool, true, false, suc, int_lt, List, [], ◌∷◌, length, map, filter, Contains, Some, None, IsTrue, refl, sym, ap, ◌∙◌, subst, inl, inr, ◌⊎◌, arith}
use Rattle.std.proofs.lemmas.Int.{ints}
use Rattle.viz_base.specs.declared.layouts.Band.{Band}
use Rattle.viz_base.specs.declared.layouts.Extent.{Extent}
use Rattle.viz_base.specs.declared.layouts.Spot.{Spot}
use Rattle.viz_base.specs.declared.styles.Side.{Side}
use Rattle.viz_base.specs.declared.styles.Side.TheVariants as of_side
use Rattle.viz_calc.specs.State.{IsSmall, AllSmall}
use Rattle.layout_semantics.specs.Floats.{FloatBox, is_left, beside, farthest_at, highest_top, candidate_tops, below_all, highest_free, float_at, is_allowed}
use Rattle.layout_laws.proofs.Members.{by_member, from_filter, to_map, from_map}
use Rattle.layout_laws.proofs.Beside.{left_edge, right_edge}
use Rattle.layout_laws.proofs.Extremes.{below_greatest, greatest_is_one, least_is_one}
use Rattle.lay_float.specs.Limits.{IsHalf, AllHalf, AreHalf}
use Rattle.lay_float.specs.steps.Shelves.{shelf_on, is_free, far_edge, side_edge, stand, next_top, free_top, Place, place_on, spot_on, open_from}
use Rattle.lay_float.proofs.Shelved.{ends_below, edge_is}
use Rattle.lay_float.proofs.Allowed.{next_ones}
use Rattle.lay_float.proofs.Search.{free_top_is, free_top_low, at_most}
use Rattle.lay_float.proofs.Skipped.{half_skips, few_skip, top_skips, place_skips}

-- ---- from top to top, in a loop

pub found-here : (n k : ℕ) (fs : List FloatBox) (side : Side) (width : ℤ) (cb : Band ℤ) (y z t : ℤ) → k < n → Some z ≡ stand fs side width cb y → free_top (n - k) fs side width cb y ≡ t
    → record { top = y; edge = z } ≡ place_on fs side cb t
unfolding free_top
found-here n k fs side width cb y z t lt at top = by (is_free side width cb (shelf_on fs side cb y)) refl
  where
    by : (b : Bool) → is_free side width cb (shelf_on fs side cb y) ≡ b → record { top = y; edge = z } ≡ place_on fs side cb t
    by true e =
        let more : n - k ≡ suc (n - (k + 1)) = omega arith in
        let here : y ≡ t = (rw (more, e) at top) in
        let edge : Some z ≡ Some (shelf_on fs side cb y).edge = (rw e at at) in
        let same : z ≡ (shelf_on fs side cb y).edge = cc in
        ap (λ x. record { top = y; edge = x }) same ∙ ap (λ x. place_on fs side cb x) here
    by false e = let none : Some z ≡ None = (rw e at at) in absurd (cc)

pub not-here : (n k : ℕ) (fs : List FloatBox) (side : Side) (width : ℤ) (cb : Band ℤ) (y : ℤ) → k < n → None ≡ stand fs side width cb y
    → free_top (n - (k + 1)) fs side width cb (next_top fs y) ≡ free_top (n - k) fs side width cb y
unfolding free_top
not-here n k fs side width cb y lt at = by (is_free side width cb (shelf_on fs side cb y)) refl
  where
    by : (b : Bool) → is_free side width cb (shelf_on fs side cb y) ≡ b → free_top (n - (k + 1)) fs side width cb (next_top fs y) ≡ free_top (n - k) fs side width cb y
    by true e = let some : None ≡ Some (shelf_on fs side cb y).edge = (rw e at at) in absurd (cc)
    by false e = let more : n - k ≡ suc (n - (k + 1)) = omega arith in rw (more, e) refl

pub at-end : (n k : ℕ) (fs : List FloatBox) (side : Side) (width : ℤ) (cb : Band ℤ) (y : ℤ) → n ≤ k → free_top (n - k) fs side width cb y ≡ y
unfolding free_top
at-end n k fs side width cb y le = let none : n - k ≡ 0 = omega arith in rw none refl

-- ---- the place

farthest_is : (fs : List FloatBox) (side : Side) (width : ℤ) (cb : Band ℤ) (y : ℤ) → ((f : FloatBox) → Contains fs f → f.box.top ≤ℤ y) → spot_on side width (place_on fs side cb y) ≡ farthest_at fs side width cb y
farthest_is fs of_side.Left width cb y low = ap (λ x. record { x = x; y = y }) (edge_is of_side.Left cb y fs ∙ ap (λ near. (beside near cb).left) (next_ones y fs low))
farthest_is fs of_side.Right width cb y low = ap (λ x. record { x = x -ℤ width; y = y }) (edge_is of_side.Right cb y fs ∙ ap (λ near. (beside near cb).right) (next_ones y fs low))

-- the place that is found among the floats that may be open at the highest top
pub found_is : (n : ℕ) (fs : List FloatBox) (side : Side) (width : ℤ) (cb : Band ℤ) (top : ℤ) → n ≡ length (open_from (highest_top fs top) fs)
    → place_on (open_from (highest_top fs top) fs) side cb (free_top n (open_from (highest_top fs top) fs) side width cb (highest_top fs top))
    ≡ place_on fs side cb (highest_free fs side width cb top (highest_top fs top))
found_is n fs side width cb top e =
    let few = subst (λ (m : ℕ). length (filter (ends_below (highest_top fs top)) fs) ≤ m) (sym e) (few_skip (highest_top fs top) fs) in
    ap (place_on (open_from (highest_top fs top) fs) side cb) (top_skips side width cb (highest_top fs top) fs n (highest_top fs top) (omega (arith, ints)))
    ∙ place_skips side width cb (highest_top fs top) fs (free_top n fs side width cb (highest_top fs top)) (free_top_low fs side width cb top n few)
    ∙ ap (place_on fs side cb) (free_top_is fs side width cb top n few)

high_low : (fs : List FloatBox) (side : Side) (width : ℤ) (cb : Band ℤ) (top : ℤ) → highest_top fs top ≤ℤ highest_free fs side width cb top (highest_top fs top)
high_low fs side width cb top =
    subst (λ (y : ℤ). highest_top fs top ≤ℤ y) (free_top_is fs side width cb top (length fs) (at_most (highest_top fs top) fs))
    (free_top_low fs side width cb top (length fs) (at_most (highest_top fs top) fs))

spot_is : (fs : List FloatBox) (side : Side) (size : Extent ℤ) (cb : Band ℤ) (top : ℤ)
    → spot_on side size.width (place_on fs side cb (highest_free fs side size.width cb top (highest_top fs top))) ≡ float_at fs side size cb top
spot_is fs side size cb top =
    farthest_is fs side size.width cb (highest_free fs side size.width cb top (highest_top fs top))
    (λ f i.
    let low = high_low fs side size.width cb top in
    let t = below_greatest top (map (λ (f : FloatBox). f.box.top) fs) f.box.top (to_map (λ (f : FloatBox). f.box.top) fs f i) in
    omega (arith, ints))

-- it is not above the highest top
pub spot_low : (fs : List FloatBox) (side : Side) (size : Extent ℤ) (cb : Band ℤ) (top : ℤ) → highest_top fs top ≤ℤ (float_at fs side size cb top).y
spot_low fs of_side.Left size cb top = high_low fs of_side.Left size.width cb top
spot_low fs of_side.Right size cb top = high_low fs of_side.Right size.width cb top

-- ---- sizes

half_sum : (a b : ℤ) → IsHalf a → IsHalf b → IsSmall (a +ℤ b)
half_sum a b p q = omega (arith, ints)

half_difference : (a b : ℤ) → IsHalf a → IsHalf b → IsSmall (a -ℤ b)
half_difference a b p q = omega (arith, ints)

pub half_small : (a : ℤ) → IsHalf a → IsSmall a
half_small a p = omega (arith, ints)

-- the edges of what floats leave of a stretch
room_half : (fs : List FloatBox) (cb : Band ℤ) (test : FloatBox → Bool) → ((f : FloatBox) → Contains fs f → AllHalf (f.box.left ∷ f.box.top ∷ f.box.right ∷ f.box.bottom ∷ [])) → IsHalf cb.left → IsHalf cb.right
    → IsHalf (beside (filter test fs) cb).left × IsHalf (beside (filter test fs) cb).right
room_half fs cb test half l r = (on_left (left_edge fs cb test), on_right (right_edge fs cb test))
  where
    on_left : (((beside (filter test fs) cb).left ≡ cb.left) ⊎ ((f : FloatBox) × Contains fs f × IsTrue (test f) × IsTrue (is_left f) × (f.box.right ≡ (beside (filter test fs) cb).left))) → IsHalf (beside (filter test fs) cb).left
    on_left (inl e) = subst IsHalf (sym e) l
    on_left (inr f) = subst IsHalf f.4 (half f.0 f.1).1.1.0

    on_right : (((beside (filter test fs) cb).right ≡ cb.right) ⊎ ((f : FloatBox) × Contains fs f × IsTrue (test f) × (is_left f ≡ false) × (f.box.left ≡ (beside (filter test fs) cb).right))) → IsHalf (beside (filter test fs) cb).right
    on_right (inl e) = subst IsHalf (sym e) r
    on_right (inr f) = subst IsHalf f.4 (half f.0 f.1).0

side_half : (side : Side) (b : Band ℤ) → IsHalf b.left × IsHalf b.right → IsHalf (side_edge side b)
side_half of_side.Left b h = h.0
side_half of_side.Right b h = h.1

far_small : (side : Side) (edge width : ℤ) → IsHalf edge → IsHalf width → IsSmall (far_edge side edge width)
far_small of_side.Left edge width e w = half_sum edge width e w
far_small of_side.Right edge width e w = half_difference edge width e w

module _ (fs : List FloatBox) (side : Side) (width : ℤ) (cb : Band ℤ) (top : ℤ) (half : AreHalf fs (width ∷ cb.left ∷ cb.right ∷ top ∷ [])) where
  edge_half : (y : ℤ) → IsHalf (shelf_on fs side cb y).edge
  edge_half y = subst IsHalf (sym (edge_is side cb y fs)) (side_half side (beside (filter (ends_below y) fs) cb) (room_half fs cb (ends_below y) half.edges half.numbers.1.0 half.numbers.1.1.0))

  fits_anywhere : (y : ℤ) → IsSmall (far_edge side (shelf_on fs side cb y).edge width)
  fits_anywhere y = far_small side (shelf_on fs side cb y).edge width (edge_half y) half.numbers.0

  high_half : IsHalf (highest_top fs top)
  high_half = by (greatest_is_one top (map (λ (f : FloatBox). f.box.top) fs))
    where
      by : (highest_top fs top ≡ top) ⊎ Contains (map (λ (f : FloatBox). f.box.top) fs) (highest_top fs top) → IsHalf (highest_top fs top)
      by (inl e) = subst IsHalf (sym e) half.numbers.1.1.1.0
      by (inr i) = let f = from_map (λ (f : FloatBox). f.box.top) fs (highest_top fs top) i in subst IsHalf f.2 (half.edges f.0 f.1).1.0

  bottom_half : (y : ℤ) → Contains (map (λ (f : FloatBox). f.box.bottom) fs) y → IsHalf y
  bottom_half y i = let f = from_map (λ (f : FloatBox). f.box.bottom) fs y i in subst IsHalf f.2 (half.edges f.0 f.1).1.1.1.0

  top_half : IsHalf (highest_free fs side width cb top (highest_top fs top))
  top_half = by (least_is_one (below_all fs (highest_top fs top)) (filter free (candidate_tops fs (highest_top fs top))))
    where
      free : ℤ → Bool
      free y = is_allowed fs side width cb top (farthest_at fs side width cb y)

      below : (below_all fs (highest_top fs top) ≡ highest_top fs top) ⊎ Contains (map (λ (f : FloatBox). f.box.bottom) fs) (below_all fs (highest_top fs top)) → IsHalf (below_all fs (highest_top fs top))
      below (inl e) = subst IsHalf (sym e) high_half
      below (inr i) = bottom_half (below_all fs (highest_top fs top)) i

      candidate : (y : ℤ) → Contains (candidate_tops fs (highest_top fs top)) y → IsHalf y
      candidate y i = by_member IsHalf (highest_top fs top) (filter (int_lt (highest_top fs top)) (map (λ (f : FloatBox). f.box.bottom) fs)) y i high_half
          (λ j. bottom_half y (from_filter (int_lt (highest_top fs top)) (map (λ (f : FloatBox). f.box.bottom) fs) y j).0)

      by : (highest_free fs side width cb top (highest_top fs top) ≡ below_all fs (highest_top fs top)) ⊎ Contains (filter free (candidate_tops fs (highest_top fs top))) (highest_free fs side width cb top (highest_top fs top))
          → IsHalf (highest_free fs side width cb top (highest_top fs top))
      by (inl e) = subst IsHalf (sym e) (below (greatest_is_one (highest_top fs top) (map (λ (f : FloatBox). f.box.bottom) fs)))
      by (inr i) = candidate (highest_free fs side width cb top (highest_top fs top)) (from_filter free (candidate_tops fs (highest_top fs top)) (highest_free fs side width cb top (highest_top fs top)) i).0

  -- the corner of the float that is placed
  corner_small : IsSmall (spot_on side width (place_on fs side cb (highest_free fs side width cb top (highest_top fs top)))).x
  corner_small = by side (edge_half (highest_free fs side width cb top (highest_top fs top)))
    where
      by : (s : Side) → IsHalf (shelf_on fs side cb (highest_free fs side width cb top (highest_top fs top))).edge
          → IsSmall (spot_on s width (place_on fs side cb (highest_free fs side width cb top (highest_top fs top)))).x
      by of_side.Left h = half_small (shelf_on fs side cb (highest_free fs side width cb top (highest_top fs top))).edge h
      by of_side.Right h = half_difference (shelf_on fs side cb (highest_free fs side width cb top (highest_top fs top))).edge width h half.numbers.0

  -- and its other edge
  other_small : IsSmall ((spot_on side width (place_on fs side cb (highest_free fs side width cb top (highest_top fs top)))).x +ℤ width)
  other_small = by side (edge_half (highest_free fs side width cb top (highest_top fs top)))
    where
      by : (s : Side) → IsHalf (shelf_on fs side cb (highest_free fs side width cb top (highest_top fs top))).edge
          → IsSmall ((spot_on s width (place_on fs side cb (highest_free fs side width cb top (highest_top fs top)))).x +ℤ width)
      by of_side.Left h = half_sum (shelf_on fs side cb (highest_free fs side width cb top (highest_top fs top))).edge width h half.numbers.0
      by of_side.Right h = let w = half.numbers.0 in omega (arith, ints)

pub placed_small : (fs : List FloatBox) (side : Side) (size : Extent ℤ) (cb : Band ℤ) (top : ℤ) → AreHalf fs (size.width ∷ size.height ∷ cb.left ∷ cb.right ∷ top ∷ [])
    → AllSmall ((float_at fs side size cb top).x ∷ (float_at fs side size cb top).y ∷ ((float_at fs side size cb top).x +ℤ size.width) ∷ ((float_at fs side size cb top).y +ℤ size.height) ∷ [])
placed_small fs side size cb top half =
    subst (λ (s : Spot ℤ). AllSmall (s.x ∷ s.y ∷ (s.x +ℤ size.width) ∷ (s.y +ℤ size.height) ∷ [])) (spot_is fs side size cb top)
    (corner_small fs side size.width cb top without, (down.0, (other_small fs side size.width cb top without, (down.1, tt))))
  where
    without : AreHalf fs (size.width ∷ cb.left ∷ cb.right ∷ top ∷ [])
    without = record { edges = half.edges; numbers = (half.numbers.0, half.numbers.1.1) }

    down : IsSmall (spot_on side size.width (place_on fs side cb (highest_free fs side size.width cb top (highest_top fs top)))).y
        × IsSmall ((spot_on side size.width (place_on fs side cb (highest_free fs side size.width cb top (highest_top fs top)))).y +ℤ size.height)
    down = by side (top_half fs side size.width cb top without)
      where
        by : (s : Side) → IsHalf (highest_free fs side size.width cb top (highest_top fs top))
            → IsSmall (spot_on s size.width (place_on fs side cb (highest_free fs side size.width cb top (highest_top fs top)))).y
            × IsSmall ((spot_on s size.width (place_on fs side cb (highest_free fs side size.width cb top (highest_top fs top)))).y +ℤ size.height)
        by of_side.Left h = (half_small (highest_free fs side size.width cb top (highest_top fs top)) h, half_sum (highest_free fs side size.width cb top (highest_top fs top)) size.height h half.numbers.1.0)
        by of_side.Right h = (half_small (highest_free fs side size.width cb top (highest_top fs top)) h, half_sum (highest_free fs side size.width cb top (highest_top fs top)) size.height h half.numbers.1.0)

-- ---- as the engine has them

pub spot_found : (n : ℕ) (fs rest : List FloatBox) (side : Side) (size : Extent ℤ) (cb : Band ℤ) (top : ℤ) → rest ≡ open_from (highest_top fs top) fs → n ≡ length rest
    → spot_on side size.width (place_on rest side cb (free_top n rest side size.width cb (highest_top fs top))) ≡ float_at fs side size cb top
spot_found n fs rest side size cb top is e =
    ap (λ l. spot_on side size.width (place_on l side cb (free_top n l side size.width cb (highest_top fs top)))) is
    ∙ ap (spot_on side size.width) (found_is n fs side size.width cb top (e ∙ ap length is))
    ∙ spot_is fs side size cb top

pub spot_fits : (n : ℕ) (fs rest : List FloatBox) (side : Side) (width : ℤ) (cb : Band ℤ) (top : ℤ) (p : Place) → AreHalf fs (width ∷ cb.left ∷ cb.right ∷ top ∷ []) → rest ≡ open_from (highest_top fs top) fs
    → n ≡ length rest → p ≡ place_on rest side cb (free_top n rest side width cb (highest_top fs top)) → AllSmall ((spot_on side width p).x ∷ p.top ∷ [])
spot_fits n fs rest side width cb top p half is e at =
    subst (λ (q : Place). AllSmall ((spot_on side width q).x ∷ q.top ∷ []))
    (sym (at ∙ ap (λ l. place_on l side cb (free_top n l side width cb (highest_top fs top))) is ∙ found_is n fs side width cb top (e ∙ ap length is)))
    (corner_small fs side width cb top half, (half_small (highest_free fs side width cb top (highest_top fs top)) (top_half fs side width cb top half), tt))

pub shelf_fits : (fs rest : List FloatBox) (side : Side) (width : ℤ) (cb : Band ℤ) (top h : ℤ) → AreHalf fs (width ∷ cb.left ∷ cb.right ∷ top ∷ []) → rest ≡ open_from h fs
    → (y : ℤ) → IsSmall (far_edge side (shelf_on rest side cb y).edge width)
shelf_fits fs rest side width cb top h half is y =
    subst (λ (l : List FloatBox). IsSmall (far_edge side (shelf_on l side cb y).edge width)) (sym is)
    (fits_anywhere (open_from h fs) side width cb top (half_skips h fs (width ∷ cb.left ∷ cb.right ∷ top ∷ []) half) y)

pub edges_fit : (fs : List FloatBox) (f : FloatBox) → AreHalf fs [] → Contains fs f → AllSmall (f.box.left ∷ f.box.top ∷ f.box.right ∷ f.box.bottom ∷ [])
edges_fit fs f half i =
    let h = half.edges f i in
    (half_small f.box.left h.0, (half_small f.box.top h.1.0, (half_small f.box.right h.1.1.0, (half_small f.box.bottom h.1.1.1.0, tt))))

pub sum_fits : (a b : ℤ) → IsHalf a → IsHalf b → AllSmall ((a +ℤ b) ∷ [])
sum_fits a b p q = (half_sum a b p q, tt)

pub room_fits : (fs : List FloatBox) (cb : Band ℤ) (test : FloatBox → Bool) (room : Band ℤ) → ((f : FloatBox) → Contains fs f → AllHalf (f.box.left ∷ f.box.top ∷ f.box.right ∷ f.box.bottom ∷ []))
    → IsHalf cb.left → IsHalf cb.right → room ≡ beside (filter test fs) cb → AllSmall (room.left ∷ []) × AllSmall (room.right ∷ [])
room_fits fs cb test room half l r e =
    let edges = room_half fs cb test half l r in
    subst (λ (b : Band ℤ). AllSmall (b.left ∷ []) × AllSmall (b.right ∷ [])) (sym e)
    ((half_small (beside (filter test fs) cb).left edges.0, tt), (half_small (beside (filter test fs) cb).right edges.1, tt))
