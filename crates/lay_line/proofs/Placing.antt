-- How far floats of lines can come to stand.
use Rattle.std.proofs.Common.{◌≡◌, ℕ, ◌+◌, ◌≤◌, ◌^◌, ℤ, ◌+ℤ◌, ◌-ℤ◌, Bool, true, false, cond, int_lt, unsigned_abs, List, [], ◌∷◌, ◌++◌, map, filter, None, Some, IsTrue, sym, subst, inl, inr, ◌⊎◌, arith, Contains}
use Rattle.std.specs.Prelude.{unwrap_or}
use Rattle.std.specs.Int.{int_max}
use Rattle.std.proofs.lemmas.Int.{ints, clamps}
use Rattle.viz_base.specs.declared.layouts.Band.{Band}
use Rattle.viz_base.specs.declared.layouts.Extent.{Extent}
use Rattle.viz_base.specs.declared.layouts.Spot.{Spot}
use Rattle.viz_base.specs.declared.styles.Clear.{Clear}
use Rattle.viz_base.specs.declared.styles.Side.{Side}
use Rattle.viz_base.specs.declared.styles.Side.TheVariants as of_side
use Rattle.layout_semantics.specs.Floats.{FloatBox, is_left, beside, is_next_to, highest_top, candidate_tops, below_all, highest_free, farthest_at, float_at, is_allowed, float_top, placed_float, band_at, meets}
use Rattle.std.proofs.lemmas.List.Elements.{Contains-append_cases}
use Rattle.layout_laws.proofs.Members.{only_member, by_member, from_filter, from_map}
use Rattle.layout_laws.proofs.Beside.{left_edge, right_edge}
use Rattle.layout_laws.proofs.Extremes.{greatest_is_one, least_is_one}
use Rattle.viz_base.specs.declared.styles.Clear.TheVariants as of_clear
use Rattle.viz_base.specs.declared.styles.Style.{Style}
use Rattle.layout_semantics.specs.Lengths.{own}
use Rattle.layout_semantics.specs.LineFilling.{Met, float_size, none_waits, with_waiting}
use Rattle.layout_semantics.specs.LineHeights.{InlineContext}
use Rattle.lay_float.specs.Limits.{IsHalf, AllHalf, AreHalf}
use Rattle.lay_float.proofs.Rooms.{top_has}
use Rattle.lay_float.proofs.Spots.{half_small}
use Rattle.viz_calc.specs.State.{IsSmall, AllSmall}
use Rattle.lay_line.specs.Limits.{AllWithin, FloatsWithin, PlacesFit, RoomFits, float_reach, floats_reach}
use Rattle.lay_line.specs.steps.Meeting.{Slot, kept_at, placed_next, met_at_spot, met_next, leaves}
use Rattle.lay_line.specs.steps.Words.{size_in, spot_in, floats_with, room_in}

abbrev pub Within : ℕ → ℤ → Type 0
Within m z = unsigned_abs z ≤ m

pub max_within : (m : ℕ) (a b : ℤ) → Within m a → Within m b → Within m (int_max a b)
max_within m a b p q = omega (arith, ints, clamps)

module _ (m : ℕ) (fs : List FloatBox) (edges : FloatsWithin m fs) where
  pub bottom_within : (y : ℤ) → Contains (map (λ (f : FloatBox). f.box.bottom) fs) y → Within m y
  bottom_within y i = let f = from_map (λ (f : FloatBox). f.box.bottom) fs y i in subst (Within m) f.2 (edges f.0 f.1).1.1.1.0

  -- the edges of what floats leave of a segment
  pub room_within : (cb : Band ℤ) (test : FloatBox → Bool) → Within m cb.left → Within m cb.right → Within m (beside (filter test fs) cb).left × Within m (beside (filter test fs) cb).right
  room_within cb test l r = (on_left (left_edge fs cb test), on_right (right_edge fs cb test))
    where
      on_left : (((beside (filter test fs) cb).left ≡ cb.left) ⊎ ((f : FloatBox) × Contains fs f × IsTrue (test f) × IsTrue (is_left f) × (f.box.right ≡ (beside (filter test fs) cb).left))) → Within m (beside (filter test fs) cb).left
      on_left (inl e) = subst (Within m) (sym e) l
      on_left (inr f) = subst (Within m) f.4 (edges f.0 f.1).1.1.0

      on_right : (((beside (filter test fs) cb).right ≡ cb.right) ⊎ ((f : FloatBox) × Contains fs f × IsTrue (test f) × (is_left f ≡ false) × (f.box.left ≡ (beside (filter test fs) cb).right))) → Within m (beside (filter test fs) cb).right
      on_right (inr f) = subst (Within m) f.4 (edges f.0 f.1).0
      on_right (inl e) = subst (Within m) (sym e) r

  high_within : (top : ℤ) → Within m top → Within m (highest_top fs top)
  high_within top t = by (greatest_is_one top (map (λ (f : FloatBox). f.box.top) fs))
    where
      by : (highest_top fs top ≡ top) ⊎ Contains (map (λ (f : FloatBox). f.box.top) fs) (highest_top fs top) → Within m (highest_top fs top)
      by (inl e) = subst (Within m) (sym e) t
      by (inr i) = let f = from_map (λ (f : FloatBox). f.box.top) fs (highest_top fs top) i in subst (Within m) f.2 (edges f.0 f.1).1.0

  free_within : (side : Side) (width : ℤ) (cb : Band ℤ) (top : ℤ) → Within m top → Within m (highest_free fs side width cb top (highest_top fs top))
  free_within side width cb top t = by (least_is_one (below_all fs (highest_top fs top)) (filter free (candidate_tops fs (highest_top fs top))))
    where
      free : ℤ → Bool
      free y = is_allowed fs side width cb top (farthest_at fs side width cb y)

      below : (below_all fs (highest_top fs top) ≡ highest_top fs top) ⊎ Contains (map (λ (f : FloatBox). f.box.bottom) fs) (below_all fs (highest_top fs top)) → Within m (below_all fs (highest_top fs top))
      below (inl e) = subst (Within m) (sym e) (high_within top t)
      below (inr i) = bottom_within (below_all fs (highest_top fs top)) i

      candidate : (y : ℤ) → Contains (candidate_tops fs (highest_top fs top)) y → Within m y
      candidate y i = by_member (Within m) (highest_top fs top) (filter (int_lt (highest_top fs top)) (map (λ (f : FloatBox). f.box.bottom) fs)) y i (high_within top t)
          (λ j. bottom_within y (from_filter (int_lt (highest_top fs top)) (map (λ (f : FloatBox). f.box.bottom) fs) y j).0)

      by : (highest_free fs side width cb top (highest_top fs top) ≡ below_all fs (highest_top fs top)) ⊎ Contains (filter free (candidate_tops fs (highest_top fs top))) (highest_free fs side width cb top (highest_top fs top))
          → Within m (highest_free fs side width cb top (highest_top fs top))
      by (inl e) = subst (Within m) (sym e) (below (greatest_is_one (highest_top fs top) (map (λ (f : FloatBox). f.box.bottom) fs)))
      by (inr i) = candidate (highest_free fs side width cb top (highest_top fs top)) (from_filter free (candidate_tops fs (highest_top fs top)) (highest_free fs side width cb top (highest_top fs top)) i).0

-- a float's corner, and its other edge
pub record IsNear (m : ℕ) (width : ℤ) (spot : Spot ℤ) : Type 0 where
  pub x : Within (m + unsigned_abs width) spot.x
  pub far : Within (m + unsigned_abs width) (spot.x +ℤ width)
  pub y : Within m spot.y

pub spot_near : (m : ℕ) (fs : List FloatBox) (side : Side) (size : Extent ℤ) (cb : Band ℤ) (top : ℤ) → FloatsWithin m fs → Within m cb.left → Within m cb.right → Within m top → IsNear m size.width (float_at fs side size cb top)
spot_near m fs side size cb top edges l r t =
    by side (highest_free fs side size.width cb top (highest_top fs top)) (free_within m fs edges side size.width cb top t)
    (room_within m fs edges cb (is_next_to (highest_free fs side size.width cb top (highest_top fs top))) l r)
  where
    by : (s : Side) (y : ℤ) → Within m y → Within m (beside (filter (is_next_to y) fs) cb).left × Within m (beside (filter (is_next_to y) fs) cb).right → IsNear m size.width (farthest_at fs s size.width cb y)
    by of_side.Left y w room = let left = room.0 in record { x = omega (arith, ints); far = omega (arith, ints); y = w }
    by of_side.Right y w room = let right = room.1 in record { x = omega (arith, ints); far = omega (arith, ints); y = w }

-- ---- one float more

pub more_within : (m n : ℕ) (zs : List ℤ) → m ≤ n → AllWithin m zs → AllWithin n zs
more_within m n [] le w = tt
more_within m n (z ∷ zs) le w = let one = w.0 in (omega arith, more_within m n zs le w.1)

pub grown_within : (m : ℕ) (fs : List FloatBox) (side : Side) (size : Extent ℤ) (spot : Spot ℤ) → FloatsWithin m fs → IsNear m size.width spot
    → FloatsWithin (m + (unsigned_abs size.width + unsigned_abs size.height)) (fs ++ placed_float side size spot ∷ [])
grown_within m fs side size spot edges near f i = by (Contains-append_cases fs (placed_float side size spot ∷ []) f i)
  where
    new : AllWithin (m + (unsigned_abs size.width + unsigned_abs size.height)) (spot.x ∷ spot.y ∷ (spot.x +ℤ size.width) ∷ (spot.y +ℤ size.height) ∷ [])
    new = let x = near.x in let far = near.far in let y = near.y in (omega (arith, ints), (omega (arith, ints), (omega (arith, ints), (omega (arith, ints), tt))))

    by : Contains fs f ⊎ Contains (placed_float side size spot ∷ []) f → AllWithin (m + (unsigned_abs size.width + unsigned_abs size.height)) (f.box.left ∷ f.box.top ∷ f.box.right ∷ f.box.bottom ∷ [])
    by (inl j) = more_within m (m + (unsigned_abs size.width + unsigned_abs size.height)) (f.box.left ∷ f.box.top ∷ f.box.right ∷ f.box.bottom ∷ []) (omega arith) (edges f j)
    by (inr j) = subst (λ (g : FloatBox). AllWithin (m + (unsigned_abs size.width + unsigned_abs size.height)) (g.box.left ∷ g.box.top ∷ g.box.right ∷ g.box.bottom ∷ [])) (only_member (placed_float side size spot) f j) new

pub top_within : (m : ℕ) (fs : List FloatBox) (clear : Clear) (least y : ℤ) → FloatsWithin m fs → Within m least → Within m y → Within m (float_top clear fs (Some least) y)
top_within m fs clear least y edges l w = top_has (Within m) clear fs (Some least) y (λ f i. (edges f i).1.1.1.0) w (l, tt)

-- ---- as the clauses have it

fewer : (m r rs n : ℕ) → m + (r + rs) ≤ n → m + (r + 0) ≤ n
fewer m r rs n le = omega arith

later : (m r rs n : ℕ) → m + (r + rs) ≤ n → m + r + rs ≤ n
later m r rs n le = omega arith

half : (m r n : ℕ) → m + r ≤ n → m ≤ n
half m r n le = omega arith

pub all_half : (m : ℕ) (zs : List ℤ) → m ≤ 2 ^ 99 → AllWithin m zs → AllHalf zs
all_half m [] le w = tt
all_half m (z ∷ zs) le w = (at_most (unsigned_abs z) m (2 ^ 99) w.0 le, all_half m zs le w.1)
  where
    at_most : (a b c : ℕ) → a ≤ b → b ≤ c → a ≤ c
    at_most a b c p q = omega arith

module _ (c : InlineContext) (fs : List FloatBox) (least y : ℤ) where
  pub are_half : (boxes : List ℕ) (others : List ℤ) → (p : PlacesFit c fs least y boxes) → AllHalf others → AreHalf fs others
  are_half boxes others p h =
      record { edges = λ f i. all_half p.most (f.box.left ∷ f.box.top ∷ f.box.right ∷ f.box.bottom ∷ []) (half p.most (floats_reach c boxes) (2 ^ 99) p.room) (p.floats_within f i); numbers = h }

  pub first_place : (at : ℕ) (boxes : List ℕ) → PlacesFit c fs least y (at ∷ boxes) → PlacesFit c fs least y (at ∷ [])
  first_place at boxes p =
      record { most = p.most; floats_within = p.floats_within; numbers = p.numbers; room = fewer p.most (float_reach c at) (floats_reach c boxes) (2 ^ 99) p.room }

  pub next_places : (at : ℕ) (boxes : List ℕ) → PlacesFit c fs least y (at ∷ boxes) → PlacesFit c (floats_with c fs at (spot_in c fs least y at)) least y boxes
  unfolding spot_in floats_with size_in
  next_places at boxes p = record {
    most = p.most + float_reach c at;
    floats_within = grown_within p.most fs side size (float_at fs side size c.cb top) p.floats_within (spot_near p.most fs side size c.cb top p.floats_within p.numbers.0 p.numbers.1.0 top_is);
    numbers = more_within p.most (p.most + float_reach c at) (c.cb.left ∷ c.cb.right ∷ least ∷ y ∷ []) (omega arith) p.numbers;
    room = later p.most (float_reach c at) (floats_reach c boxes) (2 ^ 99) p.room;
  }
    where
      side : Side
      side = unwrap_or (own c.tree at (λ (s : Style). s.float) None) of_side.Left

      clear : Clear
      clear = own c.tree at (λ (s : Style). s.clear) of_clear.Nothing

      size : Extent ℤ
      size = float_size c at

      top : ℤ
      top = float_top clear fs (Some least) y

      top_is : Within p.most top
      top_is = top_within p.most fs clear least y p.floats_within p.numbers.1.1.0 p.numbers.1.1.1.0

  pub skip_place : (at : ℕ) (boxes : List ℕ) → PlacesFit c fs least y (at ∷ boxes) → PlacesFit c fs least y boxes
  skip_place at boxes p =
      record { most = p.most; floats_within = p.floats_within; numbers = p.numbers; room = skipped p.most (float_reach c at) (floats_reach c boxes) (2 ^ 99) p.room }
    where
      skipped : (m r rs n : ℕ) → m + (r + rs) ≤ n → m + rs ≤ n
      skipped m r rs n le = omega arith

  numbers_half : (boxes : List ℕ) → PlacesFit c fs least y boxes → AllHalf (c.cb.left ∷ c.cb.right ∷ least ∷ y ∷ [])
  numbers_half boxes p = all_half p.most (c.cb.left ∷ c.cb.right ∷ least ∷ y ∷ []) (half p.most (floats_reach c boxes) (2 ^ 99) p.room) p.numbers

  pub room_fits : (tall : ℤ) (boxes : List ℕ) → PlacesFit c fs least y boxes → IsHalf tall → RoomFits c fs y tall
  room_fits tall boxes p t = let h = numbers_half boxes p in are_half boxes (c.cb.left ∷ c.cb.right ∷ y ∷ tall ∷ []) p (h.0, (h.1.0, (h.1.1.1.0, (t, tt))))

  pub size_half : (at : ℕ) → PlacesFit c fs least y (at ∷ []) → IsHalf (size_in c at).width × IsHalf (size_in c at).height
  size_half at p = (first p.most (unsigned_abs (size_in c at).width) (unsigned_abs (size_in c at).height) (2 ^ 99) p.room, second p.most (unsigned_abs (size_in c at).width) (unsigned_abs (size_in c at).height) (2 ^ 99) p.room)
    where
      first : (m w h n : ℕ) → m + (w + h + 0) ≤ n → w ≤ n
      first m w h n le = omega arith

      second : (m w h n : ℕ) → m + (w + h + 0) ≤ n → h ≤ n
      second m w h n le = omega arith

  pub size_small : (at : ℕ) → PlacesFit c fs least y (at ∷ []) → AllSmall ((size_in c at).width ∷ (size_in c at).height ∷ [])
  size_small at p = let h = size_half at p in (half_small (size_in c at).width h.0, (half_small (size_in c at).height h.1, tt))

  -- a float and where it comes
  pub place_fits : (at : ℕ) → PlacesFit c fs least y (at ∷ []) → AreHalf fs ((size_in c at).width ∷ (size_in c at).height ∷ c.cb.left ∷ c.cb.right ∷ y ∷ least ∷ [])
  place_fits at p =
      let h = numbers_half (at ∷ []) p in
      let s = size_half at p in
      are_half (at ∷ []) ((size_in c at).width ∷ (size_in c at).height ∷ c.cb.left ∷ c.cb.right ∷ y ∷ least ∷ []) p (s.0, (s.1, (h.0, (h.1.0, (h.1.1.1.0, (h.1.1.0, tt))))))

pub placed_places : (c : InlineContext) (least y : ℤ) (met : Met) (at : ℕ) (boxes : List ℕ) → PlacesFit c met.floats least y (at ∷ boxes) → PlacesFit c (placed_next c least y met at).floats least y boxes
unfolding placed_next
placed_places c least y met at boxes p = next_places c met.floats least y at boxes p

pub met_places : (c : InlineContext) (slot : Slot) (held : ℤ) (met : Met) (at : ℕ) (boxes : List ℕ) → PlacesFit c met.floats slot.least slot.top (at ∷ boxes)
    → PlacesFit c (met_next c slot held met at).floats slot.least slot.top boxes
unfolding met_next
met_places c slot held met at boxes p = outer (none_waits met)
  where
    spot : Spot ℤ
    spot = spot_in c met.floats slot.least slot.top at

    inner : (b : Bool) → PlacesFit c (cond b (kept_at c met at spot) (with_waiting met at)).floats slot.least slot.top boxes
    inner true = next_places c met.floats slot.least slot.top at boxes p
    inner false = skip_place c met.floats slot.least slot.top at boxes p

    outer : (b : Bool) → PlacesFit c (cond b (met_at_spot c slot held met at spot) (with_waiting met at)).floats slot.least slot.top boxes
    outer true = inner (leaves c slot held (floats_with c met.floats at spot) spot.y)
    outer false = skip_place c met.floats slot.least slot.top at boxes p

-- the room beside floats is at most 2^100 wide
pub room_small : (c : InlineContext) (fs : List FloatBox) (y tall : ℤ) → RoomFits c fs y tall → IsSmall ((room_in c fs y tall).right -ℤ (room_in c fs y tall).left)
unfolding room_in
room_small c fs y tall half = by (band_at fs c.cb y tall) (room_within (2 ^ 99) fs half.edges c.cb (meets y tall) half.numbers.0 half.numbers.1.0)
  where
    by : (b : Band ℤ) → Within (2 ^ 99) b.left × Within (2 ^ 99) b.right → IsSmall (b.right -ℤ b.left)
    by b w = let l = w.0 in let r = w.1 in omega (arith, ints)
