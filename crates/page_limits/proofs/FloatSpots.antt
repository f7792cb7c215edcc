-- Floats within bounds.
use Rattle.std.proofs.Common.{◌≡◌, ◌+◌, ◌≤◌, ℤ, ◌+ℤ◌, unsigned_abs, not, int_lt, List, [], ◌∷◌, ◌++◌, map, filter, Option, refl, arith}
use Rattle.std.specs.List.{AllByRecursion}
use Rattle.std.specs.Option.{option_to_list}
use Rattle.std.proofs.lemmas.Int.{ints}
use Rattle.viz_base.specs.declared.layouts.Band.{Band}
use Rattle.viz_base.specs.declared.layouts.Extent.{Extent}
use Rattle.viz_base.specs.declared.layouts.Spot.{Spot}
use Rattle.viz_base.specs.declared.styles.Clear.{Clear}
use Rattle.viz_base.specs.declared.styles.Side.{Side}
use Rattle.viz_base.specs.declared.styles.Side.TheVariants as of_side
use Rattle.viz_base.proofs.ListLemmas.{all_append}
use Rattle.layout_semantics.specs.Floats.{FloatBox, placed_float, is_left, left_ones, right_ones, beside, is_next_to, is_allowed, farthest_at, highest_top, candidate_tops, below_all, highest_free, float_at, is_relevant, lowest_bottom, Floating, float_top, float_spot, with_float_at, with_float}
use Rattle.layout_laws.proofs.Greatest.{greatest_from-any, least_from-any}
use Rattle.layout_laws.proofs.Levels.{All-implied}
use Rattle.page_limits.specs.Bounds.{Bounds, grown, IsLevelIn, IsAsideIn, IsBandIn, IsExtentIn, IsFloatIn, levels_of}
use Rattle.page_limits.proofs.Levels.{All-map, All-filter, level-sum, level-wider, quad-wider, inside-grown}

-- a float's corner, and its other side
pub record IsSpotIn (b : Bounds) (width : ℤ) (at : Spot ℤ) : Type 0 where
  pub y : IsLevelIn b at.y
  pub left : unsigned_abs at.x ≤ b.aside + unsigned_abs width
  pub right : unsigned_abs (at.x +ℤ width) ≤ b.aside + unsigned_abs width

module _ (b : Bounds) where
  abbrev AllFloats : List FloatBox → Type 0
  AllFloats floats = AllByRecursion (IsFloatIn b) floats

  tops : (floats : List FloatBox) → AllFloats floats → AllByRecursion (IsLevelIn b) (map (λ (f : FloatBox). f.box.top) floats)
  tops floats a = All-map (IsLevelIn b) (λ (f : FloatBox). f.box.top) floats (All-implied (IsFloatIn b) (λ f. IsLevelIn b f.box.top) floats (λ f i. i.top) a)

  bottoms : (floats : List FloatBox) → AllFloats floats → AllByRecursion (IsLevelIn b) (map (λ (f : FloatBox). f.box.bottom) floats)
  bottoms floats a = All-map (IsLevelIn b) (λ (f : FloatBox). f.box.bottom) floats (All-implied (IsFloatIn b) (λ f. IsLevelIn b f.box.bottom) floats (λ f i. i.bottom) a)

  -- what floats leave of a segment
  pub beside-in : (floats : List FloatBox) (cb : Band ℤ) → AllFloats floats → IsBandIn b cb → IsBandIn b (beside floats cb)
  beside-in floats cb a i = record {
    left = greatest_from-any (IsAsideIn b) cb.left (map (λ (f : FloatBox). f.box.right) (left_ones floats)) i.left
        (All-map (IsAsideIn b) (λ (f : FloatBox). f.box.right) (left_ones floats) (All-implied (IsFloatIn b) (λ f. IsAsideIn b f.box.right) (left_ones floats) (λ f j. j.right) (All-filter (IsFloatIn b) is_left floats a)));
    right = least_from-any (IsAsideIn b) cb.right (map (λ (f : FloatBox). f.box.left) (right_ones floats)) i.right
        (All-map (IsAsideIn b) (λ (f : FloatBox). f.box.left) (right_ones floats) (All-implied (IsFloatIn b) (λ f. IsAsideIn b f.box.left) (right_ones floats) (λ f j. j.left) (All-filter (IsFloatIn b) (λ f. not (is_left f)) floats a)));
  }

  high-in : (floats : List FloatBox) (top : ℤ) → AllFloats floats → IsLevelIn b top → IsLevelIn b (highest_top floats top)
  high-in floats top a t = greatest_from-any (IsLevelIn b) top (map (λ (f : FloatBox). f.box.top) floats) t (tops floats a)

  -- below a height, at it or at a float's bottom
  pub candidates-in : (floats : List FloatBox) (high : ℤ) → AllFloats floats → IsLevelIn b high → AllByRecursion (IsLevelIn b) (candidate_tops floats high)
  candidates-in floats high a h = (h, All-filter (IsLevelIn b) (int_lt high) (map (λ (f : FloatBox). f.box.bottom) floats) (bottoms floats a))

  free-in : (floats : List FloatBox) (side : Side) (width : ℤ) (cb : Band ℤ) (top high : ℤ) → AllFloats floats → IsLevelIn b high → IsLevelIn b (highest_free floats side width cb top high)
  free-in floats side width cb top high a h = least_from-any (IsLevelIn b) (below_all floats high) (filter (λ y. is_allowed floats side width cb top (farthest_at floats side width cb y)) (candidate_tops floats high))
      (greatest_from-any (IsLevelIn b) high (map (λ (f : FloatBox). f.box.bottom) floats) h (bottoms floats a))
      (All-filter (IsLevelIn b) (λ y. is_allowed floats side width cb top (farthest_at floats side width cb y)) (candidate_tops floats high) (candidates-in floats high a h))

  farthest-in : (floats : List FloatBox) (side : Side) (width : ℤ) (cb : Band ℤ) (y : ℤ) → AllFloats floats → IsBandIn b cb → IsLevelIn b y → IsSpotIn b width (farthest_at floats side width cb y)
  farthest-in floats side width cb y a i h = by side (beside-in (filter (is_next_to y) floats) cb (All-filter (IsFloatIn b) (is_next_to y) floats a) i)
    where
      by : (s : Side) → IsBandIn b (beside (filter (is_next_to y) floats) cb) → IsSpotIn b width (farthest_at floats s width cb y)
      by of_side.Left r = let left = r.left in record { y = h; left = omega (arith, ints, left); right = omega (arith, ints, left) }
      by of_side.Right r = let right = r.right in record { y = h; left = omega (arith, ints, right); right = omega (arith, ints, right) }

  place-in : (floats : List FloatBox) (side : Side) (size : Extent ℤ) (cb : Band ℤ) (top : ℤ) → AllFloats floats → IsBandIn b cb → IsLevelIn b top → IsSpotIn b size.width (float_at floats side size cb top)
  place-in floats side size cb top a i t =
      farthest-in floats side size.width cb (highest_free floats side size.width cb top (highest_top floats top)) a i
      (free-in floats side size.width cb top (highest_top floats top) a (high-in floats top a t))

  -- ---- what clearance looks at

  pub lowest-in : (clear : Clear) (floats : List FloatBox) → AllFloats floats → AllByRecursion (IsLevelIn b) (option_to_list (lowest_bottom clear floats))
  lowest-in clear floats a = by (filter (is_relevant clear) floats) refl (All-filter (IsFloatIn b) (is_relevant clear) floats a)
    where
      by : (fs : List FloatBox) → filter (is_relevant clear) floats ≡ fs → AllFloats fs → AllByRecursion (IsLevelIn b) (option_to_list (lowest_bottom clear floats))
      by [] e i = rw e tt
      by (f ∷ fs) e i = rw e (greatest_from-any (IsLevelIn b) f.box.bottom (map (λ (f : FloatBox). f.box.bottom) fs) (i.0).bottom (bottoms fs i.1), tt)

  -- ---- a float that comes next

  pub spot-in : (f : Floating) (floats : List FloatBox) (least : Option ℤ) (y : ℤ) → AllFloats floats → AllByRecursion (IsLevelIn b) (levels_of least y) → IsBandIn b f.cb
      → IsSpotIn b f.size.width (float_spot f floats least y)
  spot-in f floats least y a l i =
      place-in floats f.side f.size f.cb (float_top f.clear floats least y) a i
      (greatest_from-any (IsLevelIn b) y (option_to_list least ++ option_to_list (lowest_bottom f.clear floats)) l.0 (all_append (IsLevelIn b) (option_to_list least) (option_to_list (lowest_bottom f.clear floats)) l.1 (lowest-in f.clear floats a)))

  placed-in : (own : Bounds) (side : Side) (size : Extent ℤ) (at : Spot ℤ) → IsSpotIn b size.width at → IsExtentIn own size → IsFloatIn (grown b own) (placed_float side size at)
  placed-in own side size at s e =
      let left = s.left in
      let right = s.right in
      let width = e.width in
      record { left = omega (arith, left, width); top = level-wider b (grown b own) at.y (inside-grown b own) s.y; right = omega (arith, right, width); bottom = level-sum b own at.y size.height s.y e.height }

  pub more-floats : (own : Bounds) (floats : List FloatBox) → AllFloats floats → AllByRecursion (IsFloatIn (grown b own)) floats
  more-floats own floats a = All-implied (IsFloatIn b) (IsFloatIn (grown b own)) floats (λ f i. quad-wider b (grown b own) f.box (inside-grown b own) i) a

  pub at-spot : (own : Bounds) (f : Floating) (floats : List FloatBox) (at : Spot ℤ) → AllFloats floats → IsSpotIn b f.size.width at → IsExtentIn own f.size
      → AllByRecursion (IsFloatIn (grown b own)) (with_float_at f floats at)
  at-spot own f floats at a s e = all_append (IsFloatIn (grown b own)) floats (placed_float f.side f.size at ∷ []) (more-floats own floats a) (placed-in own f.side f.size at s e, tt)

  pub with-float : (own : Bounds) (f : Floating) (floats : List FloatBox) (least : Option ℤ) (y : ℤ) → AllFloats floats → AllByRecursion (IsLevelIn b) (levels_of least y) → IsBandIn b f.cb → IsExtentIn own f.size
      → AllByRecursion (IsFloatIn (grown b own)) (with_float f floats least y)
  with-float own f floats least y a l i e = at-spot own f floats (float_spot f floats least y) a (spot-in f floats least y a l i) e
