-- Floats and boxes that are moved fit where their numbers are low.
use Rattle.std.proofs.Common.{◌≡◌, ℕ, ◌+◌, ◌≤◌, ◌^◌, ℤ, unsigned_abs, Bool, true, false, cond, fold, List, [], ◌∷◌, Option, Some, None, ap, sym, subst, ◌∙◌, arith}
use Rattle.std.specs.List.{AllByRecursion}
use Rattle.std.specs.Option.{option_copied, option_to_list}
use denote.Ref.{Bor}
use Rattle.viz_base.specs.declared.layouts.Band.{Band}
use Rattle.viz_base.specs.Trees.{is_line}
use Rattle.viz_base.specs.declared.layouts.Entry.{Entry}
use Rattle.viz_base.specs.declared.layouts.Entry.TheVariants as of_entry
use Rattle.viz_base.specs.declared.layouts.Extent.{Extent}
use Rattle.viz_base.specs.declared.layouts.Spot.{Spot}
use Rattle.viz_base.specs.declared.renderings.Quad.{Quad}
use Rattle.viz_calc.specs.State.{AllSmall}
use Rattle.viz_calc.specs.World.{Reading}
use Rattle.layout_laws.proofs.Greatest.{All-at}
use Rattle.layout_laws.proofs.Levels.{All-implied}
use Rattle.layout_semantics.specs.Floats.{FloatBox, Floating, float_spot}
use Rattle.layout_semantics.specs.Flow.{raised}
use Rattle.layout_semantics.specs.Rectangles.{shifted_quad}
use Rattle.lay_float.specs.Limits.{IsHalf, AllHalf, AreHalf}
use Rattle.lay_float.specs.Readings.{option_at}
use Rattle.lay_float.specs.steps.Lent.{lent_at}
use Rattle.lay_frame.specs.Fitting.{quad_way}
use Rattle.page_limits.proofs.FloatSpots.{spot-in}
use Rattle.page_limits.proofs.Levels.{quad-wider, level-wider, level-max}
use Rattle.page_limits.specs.Bounds.{Bounds, levels_of, AreInside, IsLevelIn, IsQuadIn, IsFloatIn, IsExtentIn}
use Rattle.page_limits.specs.Inline.{IsSmall}
use Rattle.lay_steps.specs.Flow.{line_tops}
use Rattle.lay_flow.specs.Low.{reach, IsLevelLow, AreLevelsLow, IsBandLow}
use Rattle.lay_flow.specs.Fits.{IsNear, IsSpotNear, IsEntryLow}
use Rattle.lay_flow.proofs.Sizes.{wider, plus, level, level-size, size-level, quad-size, IsQuadSmall, quad-fits}

-- ---- half of what a number may be

half-level : (y : ℤ) → IsLevelIn reach y → IsHalf y
half-level y l = wider (2 ^ 90) (2 ^ 99) y (level y l) (omega arith)

half-aside : (x : ℤ) → IsSmall (2 ^ 90) x → IsHalf x
half-aside x s = wider (2 ^ 90) (2 ^ 99) x s (omega arith)

half-near : (x : ℤ) → IsNear x → IsHalf x
half-near x s = wider (2 ^ 95) (2 ^ 99) x s (omega arith)

pub floats-half : (floats : List FloatBox) (numbers : List ℤ) → AllByRecursion (IsFloatIn reach) floats → AllHalf numbers → AreHalf floats numbers
floats-half floats numbers a n = record {
  edges = λ f i.
      let q = All-at (IsFloatIn reach) floats f a i in
      (half-aside f.box.left q.left, (half-level f.box.top q.top, (half-aside f.box.right q.right, (half-level f.box.bottom q.bottom, tt))));
  numbers = n;
}

levels-half : (ys : List ℤ) → AllByRecursion (IsLevelIn reach) ys → AllHalf ys
levels-half [] a = tt
levels-half (y ∷ ys) a = (half-level y a.0, levels-half ys a.1)

pub place-half : (floats : List FloatBox) (size : Extent ℤ) (cb : Band ℤ) (least : Option ℤ) (y : ℤ) → AllByRecursion (IsFloatIn reach) floats → IsExtentIn reach size → IsBandLow cb → AreLevelsLow least → IsNear y
    → AreHalf floats (size.width ∷ size.height ∷ cb.left ∷ cb.right ∷ levels_of least y)
place-half floats size cb least y a e i l n = floats-half floats (size.width ∷ size.height ∷ cb.left ∷ cb.right ∷ levels_of least y) a
    (half-aside size.width e.width, (half-level size.height e.height, (half-aside cb.left i.left, (half-aside cb.right i.right, (half-near y n, levels-half (option_to_list least) l)))))

-- ---- where a float comes

-- the highest top in the context so far is lent
module _ {N : Type 0} (at : N → Reading → ℤ) (e : Reading) (lent : Option (Bor N)) (least : Option N) (is : option_copied lent ≡ least) where
  pub lent-is : lent_at at lent e ≡ option_at at least e
  lent-is = by lent is
    where
      by : (l : Option (Bor N)) → option_copied l ≡ least → lent_at at l e ≡ option_at at least e
      by None i = ap (λ o. option_at at o e) i
      by (Some x) i = ap (λ o. option_at at o e) i

  pub spot-lent : (f : Floating) (floats : List FloatBox) (y : ℤ) (spot : Spot ℤ) → spot ≡ float_spot f floats (lent_at at lent e) y → spot ≡ float_spot f floats (option_at at least e) y
  spot-lent f floats y spot v = v ∙ ap (λ o. float_spot f floats o y) lent-is

  pub half-lent : (floats : List FloatBox) (size : Extent ℤ) (cb : Band ℤ) (y : ℤ) → AreHalf floats (size.width ∷ size.height ∷ cb.left ∷ cb.right ∷ levels_of (option_at at least e) y)
      → AreHalf floats (size.width ∷ size.height ∷ cb.left ∷ cb.right ∷ y ∷ option_to_list (lent_at at lent e))
  half-lent floats size cb y h = subst (λ o. AreHalf floats (size.width ∷ size.height ∷ cb.left ∷ cb.right ∷ levels_of o y)) (sym lent-is) h

-- a float that comes at a number made of few stays as near
abbrev around_spots : Bounds
around_spots = record { up = 2 ^ 95; down = 2 ^ 95; aside = 2 ^ 90 }

reach-around : AreInside reach around_spots
reach-around = record { up = omega arith; down = omega arith; aside = omega arith }

pub spot-near : (f : Floating) (floats : List FloatBox) (least : Option ℤ) (y : ℤ) → AllByRecursion (IsFloatIn reach) floats → IsExtentIn reach f.size → IsBandLow f.cb → AreLevelsLow least → IsNear y
    → IsSpotNear (float_spot f floats least y)
spot-near f floats least y a e i l n =
    let at = spot-in around_spots f floats least y
    (All-implied (IsFloatIn reach) (IsFloatIn around_spots) floats (λ g q. quad-wider reach around_spots g.box reach-around q) a)
    (within y n, All-implied (IsLevelIn reach) (IsLevelIn around_spots) (option_to_list least) (λ x h. level-wider reach around_spots x reach-around h) l)
    (record { left = i.left; right = i.right }) in
    let spot = float_spot f floats least y in
    record { x = wide spot.x (unsigned_abs f.size.width) at.left e.width; y = level-size (2 ^ 95) spot.y (record { top = at.y.top; bottom = at.y.bottom }) }
  where
    within : (x : ℤ) → IsNear x → IsLevelIn around_spots x
    within x s = let h = size-level (2 ^ 95) x s in record { top = h.top; bottom = h.bottom }

    wide : (x : ℤ) (width : ℕ) → unsigned_abs x ≤ 2 ^ 90 + width → width ≤ 2 ^ 90 → IsNear x
    wide x width left most = omega arith

-- ---- what is moved

pub quad-moved : (by : Spot ℤ) (q : Quad ℤ) → IsSpotNear by → IsQuadIn reach q → AllSmall (quad_way (shifted_quad by q))
quad-moved by q s i =
    let z = quad-size (2 ^ 90) q i in
    let m : IsQuadSmall (2 ^ 95 + 2 ^ 90) (shifted_quad by q) = record {
      left = plus (2 ^ 90) (2 ^ 95) (2 ^ 95 + 2 ^ 90) q.left by.x z.left s.x (omega arith);
      top = plus (2 ^ 90) (2 ^ 95) (2 ^ 95 + 2 ^ 90) q.top by.y z.top s.y (omega arith);
      right = plus (2 ^ 90) (2 ^ 95) (2 ^ 95 + 2 ^ 90) q.right by.x z.right s.x (omega arith);
      bottom = plus (2 ^ 90) (2 ^ 95) (2 ^ 95 + 2 ^ 90) q.bottom by.y z.bottom s.y (omega arith);
    } in
    quad-fits (2 ^ 95 + 2 ^ 90) (shifted_quad by q) m (omega arith)

-- ---- lines

raised-low : (least : Option ℤ) (y : ℤ) → AreLevelsLow least → IsLevelLow y → AreLevelsLow (raised least y)
raised-low None y a l = (l, tt)
raised-low (Some x) y a l = (level-max reach y x l a.0, tt)

pub tops-low : (least : Option ℤ) (entry : Entry ℤ) → AreLevelsLow least → IsEntryLow entry → AreLevelsLow (fold raised least (line_tops entry))
tops-low least (of_entry.Here p) a l = by (is_line p.kind)
  where
    by : (b : Bool) → AreLevelsLow (fold raised least (cond b (p.margin.top ∷ []) []))
    by true = raised-low least p.margin.top a l.margin.top
    by false = a
tops-low least (of_entry.Goes k at) a l = a
