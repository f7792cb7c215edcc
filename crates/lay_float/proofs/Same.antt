-- A float that ends above a level below which others are to stand is in the way of none of them.
use Rattle.std.proofs.Common.{◌≡◌, ℤ, ◌≤ℤ◌, Bool, true, false, int_lt, List, [], ◌∷◌, Contains, Option, refl, sym, ap, ◌∙◌, inl, inr, ◌⊎◌, ⊎_elim, arith}
use Rattle.std.proofs.lemmas.Int.{ints}
use Rattle.std.proofs.lemmas.List.Elements.{Contains-append_left, Contains-append_right, Contains-append_cases}
use Rattle.viz_base.specs.declared.layouts.Band.{Band}
use Rattle.viz_base.specs.declared.layouts.Extent.{Extent}
use Rattle.viz_base.specs.declared.layouts.Spot.{Spot}
use Rattle.viz_base.specs.declared.layouts.Waiting.{Waiting}
use Rattle.viz_base.specs.declared.styles.Clear.{Clear}
use Rattle.viz_base.specs.declared.styles.Side.{Side}
use Rattle.viz_base.specs.declared.styles.Side.TheVariants as of_side
use Rattle.viz_base.specs.declared.trees.BoxTree.{BoxTree}
use Rattle.layout_semantics.specs.Clearance.{with_waiting}
use Rattle.layout_semantics.specs.Floats.{FloatBox, Floating, floating, placed_float, float_at, float_top, float_spot, with_float_at}
use Rattle.layout_laws.specs.FloatRules.{IsNextTo, IsLowEnough, ObeysRules, IsNoFarther}
use Rattle.layout_laws.proofs.Members.{first_member, only_member, from_filter, to_filter}
use Rattle.lay_float.specs.Places.{IsHighest}
use Rattle.lay_float.proofs.Highest.{highest_is}
use Rattle.lay_float.specs.Trials.{Tried, reaching, first_tried, next_tried, all_tried}
use Rattle.lay_float.proofs.Tops.{top-from, top-least, top-bottom, top-most}

-- the floats that are near say of those to come at y what all floats say
pub record IsTrial (y : ℤ) (all near : List FloatBox) (level : ℤ) : Type 0 where
  pub from : y ≤ℤ level
  pub reached : (z : ℤ) → y ≤ℤ z → ((f : FloatBox) → Contains all f → f.box.top ≤ℤ z) → level ≤ℤ z
  pub part : (f : FloatBox) → Contains near f → Contains all f
  pub rest : (f : FloatBox) → Contains all f → Contains near f ⊎ ((f.box.top ≤ℤ level) × (f.box.bottom ≤ℤ level))

-- no top is below the level
abbrev pub AreAbove : ℤ → List FloatBox → Type 0
AreAbove level all = (f : FloatBox) → Contains all f → f.box.top ≤ℤ level

low-of : (side : Side) (floats : List FloatBox) (width : ℤ) (cb : Band ℤ) (top : ℤ) (at : Spot ℤ) → ObeysRules floats side width cb top at → IsLowEnough floats top at
low-of of_side.Left floats width cb top at h = h.low_enough
low-of of_side.Right floats width cb top at h = h.low_enough

spot-same : (p q : Spot ℤ) → p.x ≡ q.x → p.y ≡ q.y → p ≡ q
spot-same p q e f = ap (λ x. record { x = x; y = p.y }) e ∙ ap (λ y. record { x = q.x; y = y }) f

module _ (y : ℤ) (all near : List FloatBox) (level : ℤ) (t : IsTrial y all near level) (clear : Clear) (least : Option ℤ) where
  abbrev whole : ℤ
  whole = float_top clear all least y

  abbrev short : ℤ
  short = float_top clear near least level

  module _ (at : Spot ℤ) where
    low-some : IsLowEnough all whole at → IsLowEnough near short at
    low-some l = record {
      below_top = top-most clear near least level at.y
          (t.reached at.y (let a = top-from clear all least y in let b = l.below_top in omega (arith, ints)) l.below_floats)
          (λ x i. let a = top-least clear all least y x i in let b = l.below_top in omega (arith, ints))
          (λ f i r. let a = top-bottom clear all least y f (t.part f i) r in let b = l.below_top in omega (arith, ints));
      below_floats = λ f i. l.below_floats f (t.part f i);
    }

    level-at : IsLowEnough near short at → level ≤ℤ at.y
    level-at l = let a = top-from clear near least level in let b = l.below_top in omega (arith, ints)

    low-all : IsLowEnough near short at → IsLowEnough all whole at
    low-all l = record {
      below_top = top-most clear all least y at.y
          (let a = t.from in let b = level-at l in omega (arith, ints))
          (λ x i. let a = top-least clear near least level x i in let b = l.below_top in omega (arith, ints))
          (λ f i r. ⊎_elim
          (λ j. let a = top-bottom clear near least level f j r in let b = l.below_top in omega (arith, ints))
          (λ h. let a = h.1 in let b = level-at l in omega (arith, ints))
          (t.rest f i));
      below_floats = λ f i. ⊎_elim (λ j. l.below_floats f j) (λ h. let a = h.0 in let b = level-at l in omega (arith, ints)) (t.rest f i);
    }

    beside : level ≤ℤ at.y → (f : FloatBox) → Contains all f → IsNextTo at.y f → Contains near f
    beside low f i n = ⊎_elim (λ j. j) (λ h. absurd (let a = h.1 in let b = n.to in omega (arith, ints))) (t.rest f i)

    module _ (width : ℤ) (cb : Band ℤ) where
      obeys-some : (side : Side) → ObeysRules all side width cb whole at → ObeysRules near side width cb short at
      obeys-some of_side.Left h = record {
        low_enough = low-some h.low_enough;
        inside = h.inside;
        right_of_left_ones = λ f i l n. h.right_of_left_ones f (t.part f i) l n;
        left_of_right_ones = λ f i l n. h.left_of_right_ones f (t.part f i) l n;
        not_sticking_out = λ f i l n. h.not_sticking_out f (t.part f i) l n;
      }
      obeys-some of_side.Right h = record {
        low_enough = low-some h.low_enough;
        inside = h.inside;
        left_of_right_ones = λ f i l n. h.left_of_right_ones f (t.part f i) l n;
        right_of_left_ones = λ f i l n. h.right_of_left_ones f (t.part f i) l n;
        not_sticking_out = λ f i l n. h.not_sticking_out f (t.part f i) l n;
      }

      obeys-all : (side : Side) → ObeysRules near side width cb short at → ObeysRules all side width cb whole at
      obeys-all of_side.Left h =
          let low = level-at h.low_enough in record {
            low_enough = low-all h.low_enough;
            inside = h.inside;
            right_of_left_ones = λ f i l n. h.right_of_left_ones f (beside low f i n) l n;
            left_of_right_ones = λ f i l n. h.left_of_right_ones f (beside low f i n) l n;
            not_sticking_out = λ f i l n. h.not_sticking_out f (beside low f i n) l n;
          }
      obeys-all of_side.Right h =
          let low = level-at h.low_enough in record {
            low_enough = low-all h.low_enough;
            inside = h.inside;
            left_of_right_ones = λ f i l n. h.left_of_right_ones f (beside low f i n) l n;
            right_of_left_ones = λ f i l n. h.right_of_left_ones f (beside low f i n) l n;
            not_sticking_out = λ f i l n. h.not_sticking_out f (beside low f i n) l n;
          }

  module _ (side : Side) (size : Extent ℤ) (cb : Band ℤ) where
    abbrev among_all : Spot ℤ
    among_all = float_at all side size cb whole

    abbrev among_some : Spot ℤ
    among_some = float_at near side size cb short

    high-all : IsHighest all side size.width cb whole among_all
    high-all = highest_is all side size cb whole

    high-some : IsHighest near side size.width cb short among_some
    high-some = highest_is near side size cb short

    to-some : ObeysRules near side size.width cb short among_all
    to-some = obeys-some among_all size.width cb side high-all.obeys

    to-all : ObeysRules all side size.width cb whole among_some
    to-all = obeys-all among_some size.width cb side high-some.obeys

    as-high : among_some.y ≡ among_all.y
    as-high = let u = high-all.none_higher among_some to-all in let v = high-some.none_higher among_all to-some in omega (arith, ints)

  as-far : (side : Side) (p q : Spot ℤ) → IsNoFarther side p q → IsNoFarther side q p → q.x ≡ p.x
  as-far of_side.Left p q u v = omega (arith, ints)
  as-far of_side.Right p q u v = omega (arith, ints)

  -- the highest place among all is the highest among those that are near
  place-same : (side : Side) (size : Extent ℤ) (cb : Band ℤ) → float_at near side size cb short ≡ float_at all side size cb whole
  place-same side size cb = spot-same (among_some side size cb) (among_all side size cb)
      (as-far side (among_all side size cb) (among_some side size cb)
      ((high-some side size cb).none_farther (among_all side size cb) (to-some side size cb) (sym (as-high side size cb)))
      ((high-all side size cb).none_farther (among_some side size cb) (to-all side size cb) (as-high side size cb)))
      (as-high side size cb)

module _ (y : ℤ) (all near : List FloatBox) (level : ℤ) (t : IsTrial y all near level) (f : Floating) (least : Option ℤ) where
  abbrev spot : Spot ℤ
  spot = float_spot f near least level

  abbrev box : FloatBox
  box = placed_float f.side f.size spot

  pub spot-is : spot ≡ float_spot f all least y
  spot-is = place-same y all near level t f.clear least f.side f.size f.cb

  low : IsLowEnough near (float_top f.clear near least level) spot
  low = low-of f.side near f.size.width f.cb (float_top f.clear near least level) spot (highest_is near f.side f.size f.cb (float_top f.clear near least level)).obeys

  above : level ≤ℤ spot.y
  above = level-at y all near level t f.clear least spot low

  -- after a float that has its place
  pub still : IsTrial y (with_float_at f all spot) (with_float_at f near spot) spot.y
  still = record {
    from = let a = t.from in let b = above in omega (arith, ints);
    reached = λ z l each. each box (Contains-append_right all (box ∷ []) box (first_member [] refl));
    part = λ g i. ⊎_elim
        (λ j. Contains-append_left all (box ∷ []) g (t.part g j))
        (λ j. Contains-append_right all (box ∷ []) g j)
        (Contains-append_cases near (box ∷ []) g i);
    rest = λ g i. ⊎_elim
        (λ j. ⊎_elim
        (λ k. inl (Contains-append_left near (box ∷ []) g k))
        (λ h. inr ((let a = h.0 in let b = above in omega (arith, ints)), (let a = h.1 in let b = above in omega (arith, ints))))
        (t.rest g j))
        (λ j. inl (Contains-append_right near (box ∷ []) g j))
        (Contains-append_cases all (box ∷ []) g i);
  }

  pub tops-above : AreAbove spot.y (with_float_at f all spot)
  tops-above g i = ⊎_elim
      (λ j. (low-all y all near level t f.clear least spot low).below_floats g j)
      (λ j. let e = ap (λ (h : FloatBox). h.box.top) (only_member box g j) in omega (arith, ints))
      (Contains-append_cases all (box ∷ []) g i)

-- those that end above the level are not looked at
pub fewer : (y : ℤ) (all near : List FloatBox) (level : ℤ) → IsTrial y all near level → AreAbove level all → IsTrial y all (reaching level near) level
fewer y all near level t tops = record {
  from = t.from;
  reached = t.reached;
  part = λ f i. t.part f (from_filter (λ (f : FloatBox). int_lt level f.box.bottom) near f i).0;
  rest = λ f i. ⊎_elim (λ j. by f i j (int_lt level f.box.bottom) refl) (λ h. inr h) (t.rest f i);
}
  where
    by : (f : FloatBox) → Contains all f → Contains near f → (b : Bool) → int_lt level f.box.bottom ≡ b → Contains (reaching level near) f ⊎ ((f.box.top ≤ℤ level) × (f.box.bottom ≤ℤ level))
    by f i j true e = inl (to_filter (λ (f : FloatBox). int_lt level f.box.bottom) near f j e)
    by f i j false e = inr (tops f i, grind (arith, ints))

-- at first all are looked at
pub at-first : (y : ℤ) (all : List FloatBox) → IsTrial y all all y
at-first y all = record { from = omega (arith, ints); reached = λ z l each. l; part = λ f i. i; rest = λ f i. inl i }

module _ (tree : BoxTree) (size : Waiting ℤ → Extent ℤ) (least : Option ℤ) (y : ℤ) where
  abbrev one : Waiting ℤ → Floating
  one f = floating tree f.at (size f) f.cb

  pub later-same : (ws : List (Waiting ℤ)) (t : Tried) → IsTrial y t.all t.near t.level → AreAbove t.level t.all → (all_tried tree size least ws t).all ≡ with_waiting tree size ws t.all least y
  later-same [] t i tops = refl
  later-same (f ∷ fs) t i tops =
      let less = fewer y t.all t.near t.level i tops in
      later-same fs (next_tried (one f) least t) (still y t.all (reaching t.level t.near) t.level less (one f) least) (tops-above y t.all (reaching t.level t.near) t.level less (one f) least)
      ∙ ap (λ s. with_waiting tree size fs (with_float_at (one f) t.all s) least y) (spot-is y t.all (reaching t.level t.near) t.level less (one f) least)

  -- floats that are tried stand where they would stand if each looked at all that came before it
  pub tried-same : (f : Waiting ℤ) (fs : List (Waiting ℤ)) (floats : List FloatBox)
      → (all_tried tree size least fs (first_tried (one f) floats least y)).all ≡ with_waiting tree size (f ∷ fs) floats least y
  tried-same f fs floats =
      let i = at-first y floats in
      later-same fs (first_tried (one f) floats least y) (still y floats floats y i (one f) least) (tops-above y floats floats y i (one f) least)
