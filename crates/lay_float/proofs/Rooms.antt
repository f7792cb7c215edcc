-- Bands and bottoms, found float by float, are those of the definitions; the highest top of a float.
use Rattle.std.proofs.Common.{◌≡◌, ℤ, Bool, true, false, ◌||◌, List, [], ◌∷◌, map, filter, ◌++◌, Contains, Option, Some, None, refl, sym, ap, ◌∙◌, subst, inl, inr, ◌⊎◌}
use Rattle.std.specs.Int.{int_max}
use Rattle.std.specs.List.{AllByRecursion, list_any}
use Rattle.std.specs.Option.{option_to_list}
use Rattle.viz_base.specs.declared.layouts.Band.{Band}
use Rattle.viz_base.specs.declared.styles.Clear.{Clear}
use Rattle.viz_base.specs.declared.styles.Clear.TheVariants as of_clear
use Rattle.viz_base.specs.declared.styles.Side.{Side}
use Rattle.viz_base.specs.declared.styles.Side.TheVariants as of_side
use Rattle.viz_base.proofs.ListLemmas.{all_append, later_member}
use Rattle.viz_calc.specs.State.{IsSmall}
use Rattle.viz_calc.specs.World.{Reading}
use Rattle.layout_semantics.specs.Extremes.{greatest_from, least_from}
use Rattle.layout_semantics.specs.Floats.{FloatBox, left_ones, right_ones, beside, is_relevant, lowest_bottom, float_top}
use Rattle.layout_laws.proofs.Members.{first_member, from_filter, from_map}
use Rattle.layout_laws.proofs.Extremes.{greatest_is_one}
use Rattle.layout_laws.proofs.Greatest.{greatest_from-any}
use Rattle.lay_float.specs.Limits.{AllHalf, AreHalf, IsHalf}
use Rattle.lay_float.specs.Readings.{box_at, boxes_at}
use Rattle.lay_float.specs.declared.floats.PlacedFloat.{PlacedFloat}
use Rattle.lay_float.specs.steps.Shelves.{facing}
use Rattle.lay_float.specs.steps.Bands.{meets_between, narrowed, room_beside, room_from, is_relevant_side, lower, lowest_from}
use Rattle.lay_float.proofs.Orders.{greatest-first, least-first}
use Rattle.lay_float.proofs.Spots.{edges_fit, half_small}

-- ---- bands

one_narrower : (side : Side) (f : FloatBox) (fs : List FloatBox) (room : Band ℤ) → f.side ≡ side → beside fs (narrowed f.side (facing f.side f.box) room) ≡ beside (f ∷ fs) room
one_narrower of_side.Left f fs room e = rw e (
    ap (λ x. record { left = x; right = least_from room.right (map (λ (f : FloatBox). f.box.left) (right_ones fs)) })
    (greatest-first f.box.right room.left (map (λ (f : FloatBox). f.box.right) (left_ones fs))))
one_narrower of_side.Right f fs room e = rw e (
    ap (λ x. record { left = greatest_from room.left (map (λ (f : FloatBox). f.box.right) (left_ones fs)); right = x })
    (least-first f.box.left room.right (map (λ (f : FloatBox). f.box.left) (right_ones fs))))

pub room_is : (y end : ℤ) (fs : List FloatBox) (room : Band ℤ) → room_from y end fs room ≡ beside (filter (meets_between y end) fs) room
unfolding room_from room_beside
room_is y end [] room = refl
room_is y end (f ∷ fs) room = room_is y end fs (room_beside y end room f) ∙ by (meets_between y end f) refl
  where
    by : (b : Bool) → meets_between y end f ≡ b → beside (filter (meets_between y end) fs) (room_beside y end room f) ≡ beside (filter (meets_between y end) (f ∷ fs)) room
    by true e = rw e (one_narrower f.side f (filter (meets_between y end) fs) room refl)
    by false e = rw e refl

-- ---- bottoms

relevant_is : (clear : Clear) (f : FloatBox) → is_relevant_side clear f.side ≡ is_relevant clear f
relevant_is of_clear.Nothing f = refl
relevant_is of_clear.Left f = by f.side refl
  where
    by : (g : Side) → f.side ≡ g → is_relevant_side of_clear.Left f.side ≡ is_relevant of_clear.Left f
    by of_side.Left e = rw e refl
    by of_side.Right e = rw e refl
relevant_is of_clear.Right f = by f.side refl
  where
    by : (g : Side) → f.side ≡ g → is_relevant_side of_clear.Right f.side ≡ is_relevant of_clear.Right f
    by of_side.Left e = rw e refl
    by of_side.Right e = rw e refl
relevant_is of_clear.Both f = refl

abbrev bottoms : Clear → List FloatBox → List ℤ
bottoms clear fs = map (λ (f : FloatBox). f.box.bottom) (filter (is_relevant clear) fs)

lowest_after : (clear : Clear) (fs : List FloatBox) (a : ℤ) → lowest_from clear fs (Some a) ≡ Some (greatest_from a (bottoms clear fs))
unfolding lowest_from lower
lowest_after clear [] a = refl
lowest_after clear (f ∷ fs) a = by (is_relevant_side clear f.side) refl (relevant_is clear f) (lowest_after clear fs a) (lowest_after clear fs (int_max f.box.bottom a))
  where
    by : (b : Bool) → is_relevant_side clear f.side ≡ b → is_relevant_side clear f.side ≡ is_relevant clear f → lowest_from clear fs (Some a) ≡ Some (greatest_from a (bottoms clear fs))
        → lowest_from clear fs (Some (int_max f.box.bottom a)) ≡ Some (greatest_from (int_max f.box.bottom a) (bottoms clear fs))
        → lowest_from clear (f ∷ fs) (Some a) ≡ Some (greatest_from a (bottoms clear (f ∷ fs)))
    by true e s rest low = rw (e, sym s ∙ e) (low ∙ ap Some (greatest-first f.box.bottom a (bottoms clear fs)))
    by false e s rest low = rw (e, sym s ∙ e) rest

pub lowest_is : (clear : Clear) (fs : List FloatBox) → lowest_from clear fs None ≡ lowest_bottom clear fs
unfolding lowest_from lower
lowest_is clear [] = refl
lowest_is clear (f ∷ fs) = by (is_relevant_side clear f.side) refl (relevant_is clear f) (lowest_is clear fs)
  where
    by : (b : Bool) → is_relevant_side clear f.side ≡ b → is_relevant_side clear f.side ≡ is_relevant clear f → lowest_from clear fs None ≡ lowest_bottom clear fs
        → lowest_from clear (f ∷ fs) None ≡ lowest_bottom clear (f ∷ fs)
    by true e s rest = rw (e, sym s ∙ e) (lowest_after clear fs f.box.bottom)
    by false e s rest = rw (e, sym s ∙ e) rest

pub any_relevant : {N : Type 0} (at : N → Reading → ℤ) (clear : Clear) (fs : List (PlacedFloat N)) (e : Reading)
    → list_any (λ (f : PlacedFloat N). is_relevant_side clear f.side) fs ≡ list_any (is_relevant clear) (boxes_at at fs e)
any_relevant at clear [] e = refl
any_relevant {N} at clear (f ∷ fs) e =
    ap (λ b. b || list_any (λ (f : PlacedFloat N). is_relevant_side clear f.side) fs) (relevant_is clear (box_at at f e))
    ∙ ap (λ b. is_relevant clear (box_at at f e) || b) (any_relevant at clear fs e)

-- what each bottom has, the lowest has
pub lowest_has : (P : ℤ → Type 0) (clear : Clear) (fs : List FloatBox) (z : ℤ) → ((f : FloatBox) → Contains fs f → P f.box.bottom) → lowest_bottom clear fs ≡ Some z → P z
lowest_has P clear fs z each e = by (filter (is_relevant clear) fs) refl
  where
    one_of : (g : FloatBox) → Contains (filter (is_relevant clear) fs) g → P g.box.bottom
    one_of g i = each g (from_filter (is_relevant clear) fs g i).0

    by : (gs : List FloatBox) → filter (is_relevant clear) fs ≡ gs → P z
    by [] s = let t : None ≡ Some z = (rw s at e) in absurd (cc)
    by (g ∷ gs) s =
        let t : Some (greatest_from g.box.bottom (map (λ (f : FloatBox). f.box.bottom) gs)) ≡ Some z = (rw s at e) in
        let same : greatest_from g.box.bottom (map (λ (f : FloatBox). f.box.bottom) gs) ≡ z = cc in
        subst P same (one (greatest_is_one g.box.bottom (map (λ (f : FloatBox). f.box.bottom) gs)))
      where
        one : (greatest_from g.box.bottom (map (λ (f : FloatBox). f.box.bottom) gs) ≡ g.box.bottom) ⊎ Contains (map (λ (f : FloatBox). f.box.bottom) gs) (greatest_from g.box.bottom (map (λ (f : FloatBox). f.box.bottom) gs))
            → P (greatest_from g.box.bottom (map (λ (f : FloatBox). f.box.bottom) gs))
        one (inl u) = subst P (sym u) (one_of g (subst (λ (l : List FloatBox). Contains l g) (sym s) (first_member gs refl)))
        one (inr i) =
            let f = from_map (λ (f : FloatBox). f.box.bottom) gs (greatest_from g.box.bottom (map (λ (f : FloatBox). f.box.bottom) gs)) i in
            subst P f.2 (one_of f.0 (subst (λ (l : List FloatBox). Contains l f.0) (sym s) (later_member gs f.1)))

pub bottom_small : (clear : Clear) (fs : List FloatBox) (z : ℤ) → AreHalf fs [] → Some z ≡ lowest_bottom clear fs → IsSmall z
bottom_small clear fs z half e = lowest_has IsSmall clear fs z (λ f i. (edges_fit fs f half i).1.1.1.0) (sym e)

-- ---- the highest top of a float

-- what each bottom and the numbers given have, it has
pub top_has : (P : ℤ → Type 0) (clear : Clear) (fs : List FloatBox) (least : Option ℤ) (y : ℤ) → ((f : FloatBox) → Contains fs f → P f.box.bottom) → P y → AllByRecursion P (option_to_list least)
    → P (float_top clear fs least y)
top_has P clear fs least y each own rest =
    greatest_from-any P y (option_to_list least ++ option_to_list (lowest_bottom clear fs)) own
    (all_append P (option_to_list least) (option_to_list (lowest_bottom clear fs)) rest (by (lowest_bottom clear fs) refl))
  where
    by : (o : Option ℤ) → lowest_bottom clear fs ≡ o → AllByRecursion P (option_to_list o)
    by None e = tt
    by (Some z) e = (lowest_has P clear fs z each e, tt)

pub top_half : (clear : Clear) (fs : List FloatBox) (least : Option ℤ) (y : ℤ) → AreHalf fs (y ∷ option_to_list least) → IsHalf (float_top clear fs least y)
top_half clear fs least y half = top_has IsHalf clear fs least y (λ f i. (half.edges f i).1.1.1.0) half.numbers.0 (all least half.numbers.1)
  where
    all : (o : Option ℤ) → AllHalf (option_to_list o) → AllByRecursion IsHalf (option_to_list o)
    all None a = tt
    all (Some z) a = (a.0, tt)

pub top_small : (clear : Clear) (fs : List FloatBox) (least : Option ℤ) (y : ℤ) → AreHalf fs (y ∷ option_to_list least) → IsSmall (float_top clear fs least y)
top_small clear fs least y half = half_small (float_top clear fs least y) (top_half clear fs least y half)
