-- What is on a shelf, in terms of the floats that end below its top.
use Rattle.std.proofs.Common.{◌≡◌, ℤ, Bool, true, false, not, cond, ◌&&◌, int_le, List, [], ◌∷◌, map, filter, Option, Some, None, refl, sym, ap, ◌∙◌}
use Rattle.std.proofs.Math.Bool.{and_assoc}
use Rattle.std.specs.List.{list_all}
use Rattle.viz_base.specs.declared.layouts.Band.{Band}
use Rattle.viz_base.specs.declared.styles.Side.{Side}
use Rattle.viz_base.specs.declared.styles.Side.TheVariants as of_side
use Rattle.layout_semantics.specs.Extremes.{greatest_from, least_from}
use Rattle.layout_semantics.specs.Floats.{FloatBox, left_ones, right_ones, beside}
use Rattle.lay_float.specs.steps.Shelves.{Shelf, opposite, facing, side_edge, is_same_side, tighter, set_beside, with_float, shelf_from, shelf_on, limit_of, reaches_to, stays_within, far_edge, is_free}
use Rattle.lay_float.proofs.Orders.{within_both, greatest-first, least-first}

abbrev pub ends_below : ℤ → FloatBox → Bool
ends_below y f = not (int_le f.box.bottom y)

-- ---- the edge

left_edge : (y : ℤ) (fs : List FloatBox) (s : Shelf) → (shelf_from of_side.Left y fs s).edge ≡ greatest_from s.edge (map (λ (f : FloatBox). f.box.right) (left_ones (filter (ends_below y) fs)))
unfolding shelf_from with_float
left_edge y [] s = refl
left_edge y (f ∷ fs) s = left_edge y fs (with_float of_side.Left y s f) ∙ by (int_le f.box.bottom y) f.side refl refl
  where
    by : (b : Bool) (g : Side) → int_le f.box.bottom y ≡ b → f.side ≡ g
        → greatest_from (with_float of_side.Left y s f).edge (map (λ (f : FloatBox). f.box.right) (left_ones (filter (ends_below y) fs)))
        ≡ greatest_from s.edge (map (λ (f : FloatBox). f.box.right) (left_ones (filter (ends_below y) (f ∷ fs))))
    by true g eb es = rw eb refl
    by false of_side.Left eb es = rw (eb, es) (greatest-first f.box.right s.edge (map (λ (f : FloatBox). f.box.right) (left_ones (filter (ends_below y) fs))))
    by false of_side.Right eb es = rw (eb, es) refl

right_edge : (y : ℤ) (fs : List FloatBox) (s : Shelf) → (shelf_from of_side.Right y fs s).edge ≡ least_from s.edge (map (λ (f : FloatBox). f.box.left) (right_ones (filter (ends_below y) fs)))
unfolding shelf_from with_float
right_edge y [] s = refl
right_edge y (f ∷ fs) s = right_edge y fs (with_float of_side.Right y s f) ∙ by (int_le f.box.bottom y) f.side refl refl
  where
    by : (b : Bool) (g : Side) → int_le f.box.bottom y ≡ b → f.side ≡ g
        → least_from (with_float of_side.Right y s f).edge (map (λ (f : FloatBox). f.box.left) (right_ones (filter (ends_below y) fs)))
        ≡ least_from s.edge (map (λ (f : FloatBox). f.box.left) (right_ones (filter (ends_below y) (f ∷ fs))))
    by true g eb es = rw eb refl
    by false of_side.Left eb es = rw (eb, es) refl
    by false of_side.Right eb es = rw (eb, es) (least-first f.box.left s.edge (map (λ (f : FloatBox). f.box.left) (right_ones (filter (ends_below y) fs))))

pub edge_is : (side : Side) (cb : Band ℤ) (y : ℤ) (fs : List FloatBox) → (shelf_on fs side cb y).edge ≡ side_edge side (beside (filter (ends_below y) fs) cb)
edge_is of_side.Left cb y fs = left_edge y fs _
edge_is of_side.Right cb y fs = right_edge y fs _

-- ---- the limit

-- what a float next to it asks of an edge
abbrev pub clears : Side → Band ℤ → ℤ → FloatBox → Bool
clears side cb x f = cond (is_same_side f.side side) (reaches_to side x (side_edge (opposite side) cb)) (reaches_to side x (facing f.side f.box))

abbrev roomy : Side → Band ℤ → ℤ → Shelf → Bool
roomy side cb x s = stays_within side x (limit_of side cb s.is_bounded s.limit)

both_swap : (a b : Bool) → a && b ≡ b && a
both_swap true true = refl
both_swap true false = refl
both_swap false true = refl
both_swap false false = refl

both_again : (a b : Bool) → a && b ≡ (a && b) && a
both_again true true = refl
both_again true false = refl
both_again false b = refl

both_turn : (a b c : Bool) → a && (b && c) ≡ (a && c) && b
both_turn true true true = refl
both_turn true true false = refl
both_turn true false true = refl
both_turn true false false = refl
both_turn false b c = refl

both_true : (a : Bool) → a ≡ a && true
both_true true = refl
both_true false = refl

both_same : (a : Bool) → a ≡ a && a
both_same true = refl
both_same false = refl

own_side : (side : Side) (cb : Band ℤ) (x : ℤ) (b : Bool) (limit : Option ℤ)
    → stays_within side x (limit_of side cb true limit) ≡ stays_within side x (limit_of side cb b limit) && reaches_to side x (side_edge (opposite side) cb)
own_side side cb x true None = both_same _
own_side side cb x true (Some l) = rw (within_both side x (side_edge (opposite side) cb) l) (both_again (reaches_to side x (side_edge (opposite side) cb)) (reaches_to side x l))
own_side side cb x false None = refl
own_side side cb x false (Some l) = within_both side x (side_edge (opposite side) cb) l ∙ both_swap (reaches_to side x (side_edge (opposite side) cb)) (reaches_to side x l)

other_side : (side : Side) (cb : Band ℤ) (x z : ℤ) (b : Bool) (limit : Option ℤ)
    → stays_within side x (limit_of side cb b (tighter (opposite side) z limit)) ≡ stays_within side x (limit_of side cb b limit) && reaches_to side x z
other_side side cb x z true None = within_both side x (side_edge (opposite side) cb) z
other_side side cb x z true (Some l) =
    within_both side x (side_edge (opposite side) cb) _
    ∙ ap (λ c. reaches_to side x (side_edge (opposite side) cb) && c) (within_both side x z l)
    ∙ both_turn (reaches_to side x (side_edge (opposite side) cb)) (reaches_to side x z) (reaches_to side x l)
    ∙ ap (λ c. c && reaches_to side x z) (sym (within_both side x (side_edge (opposite side) cb) l))
other_side side cb x z false None = refl
other_side side cb x z false (Some l) = within_both side x z l ∙ both_swap (reaches_to side x z) (reaches_to side x l)

one_more : (side : Side) (cb : Band ℤ) (x : ℤ) (s : Shelf) (f : FloatBox) → roomy side cb x (set_beside side s f) ≡ roomy side cb x s && clears side cb x f
one_more side cb x s f = by side f.side refl
  where
    by : (h g : Side) → f.side ≡ g → roomy h cb x (set_beside h s f) ≡ roomy h cb x s && clears h cb x f
    by of_side.Left of_side.Left e = rw e (own_side of_side.Left cb x s.is_bounded s.limit)
    by of_side.Left of_side.Right e = rw e (other_side of_side.Left cb x f.box.left s.is_bounded s.limit)
    by of_side.Right of_side.Left e = rw e (other_side of_side.Right cb x f.box.right s.is_bounded s.limit)
    by of_side.Right of_side.Right e = rw e (own_side of_side.Right cb x s.is_bounded s.limit)

all_clear : (side : Side) (cb : Band ℤ) (x y : ℤ) (fs : List FloatBox) (s : Shelf)
    → roomy side cb x (shelf_from side y fs s) ≡ roomy side cb x s && list_all (clears side cb x) (filter (ends_below y) fs)
unfolding shelf_from with_float
all_clear side cb x y [] s = both_true _
all_clear side cb x y (f ∷ fs) s = all_clear side cb x y fs (with_float side y s f) ∙ by (int_le f.box.bottom y) refl
  where
    by : (b : Bool) → int_le f.box.bottom y ≡ b
        → roomy side cb x (with_float side y s f) && list_all (clears side cb x) (filter (ends_below y) fs)
        ≡ roomy side cb x s && list_all (clears side cb x) (filter (ends_below y) (f ∷ fs))
    by true e = rw e refl
    by false e = rw e (
        ap (λ c. c && list_all (clears side cb x) (filter (ends_below y) fs)) (one_more side cb x s f)
        ∙ and_assoc (roomy side cb x s) (clears side cb x f) (list_all (clears side cb x) (filter (ends_below y) fs)))

pub free_is : (side : Side) (width : ℤ) (cb : Band ℤ) (y : ℤ) (fs : List FloatBox)
    → is_free side width cb (shelf_on fs side cb y) ≡ list_all (clears side cb (far_edge side (side_edge side (beside (filter (ends_below y) fs) cb)) width)) (filter (ends_below y) fs)
free_is side width cb y fs =
    all_clear side cb (far_edge side (shelf_on fs side cb y).edge width) y fs _
    ∙ ap (λ x. list_all (clears side cb (far_edge side x width)) (filter (ends_below y) fs)) (edge_is side cb y fs)
