-- At a top that the order of floats allows, the place farthest to a float's side is allowed exactly where the shelf there is free.
use Rattle.std.proofs.Common.{◌≡◌, ℤ, ◌+ℤ◌, ◌≤ℤ◌, Bool, true, false, cond, ◌&&◌, int_le, IsTrue, List, [], ◌∷◌, filter, refl, sym, ap, ◌∙◌, subst, arith, Contains}
use Rattle.std.specs.List.{list_all}
use Rattle.std.proofs.lemmas.Int.{ints}
use Rattle.viz_base.specs.declared.layouts.Band.{Band}
use Rattle.viz_base.specs.declared.layouts.Spot.{Spot}
use Rattle.viz_base.specs.declared.styles.Side.{Side}
use Rattle.viz_base.specs.declared.styles.Side.TheVariants as of_side
use Rattle.viz_base.proofs.ListLemmas.{later_member}
use Rattle.layout_semantics.specs.Floats.{FloatBox, is_left, beside, is_next_to, is_allowed, farthest_at}
use Rattle.layout_laws.specs.FloatRules.{IsLowEnough}
use Rattle.layout_laws.proofs.Members.{first_member, all_in, all_from, from_filter, to_filter}
use Rattle.layout_laws.proofs.Truths.{is_le, right_of, both_of, on_true, on_false, by_cond}
use Rattle.layout_laws.proofs.Beside.{room_after, room_before, room_from, room_to}
use Rattle.layout_laws.proofs.FloatPlaces.{allowed, fits_next}
use Rattle.lay_float.specs.steps.Shelves.{side_edge, far_edge, shelf_on, is_free}
use Rattle.lay_float.proofs.Orders.{same_truth}
use Rattle.lay_float.proofs.Shelved.{ends_below, clears, free_is}

-- ---- floats that end below

filter-same : (p q : FloatBox → Bool) (fs : List FloatBox) → ((f : FloatBox) → Contains fs f → p f ≡ q f) → filter p fs ≡ filter q fs
filter-same p q [] same = refl
filter-same p q (f ∷ fs) same = by (p f) (q f) refl refl (same f (first_member fs refl)) (filter-same p q fs (λ g i. same g (later_member fs i)))
  where
    by : (a b : Bool) → p f ≡ a → q f ≡ b → p f ≡ q f → filter p fs ≡ filter q fs → filter p (f ∷ fs) ≡ filter q (f ∷ fs)
    by true b ep eq e rest = rw (sym e ∙ ep, ep) (ap (λ l. f ∷ l) rest)
    by false b ep eq e rest = rw (sym e ∙ ep, ep) rest

next_below : (y : ℤ) (f : FloatBox) → f.box.top ≤ℤ y → is_next_to y f ≡ ends_below y f
next_below y f low = rw (is_le f.box.top y low) (grind (arith, ints))

pub next_ones : (y : ℤ) (fs : List FloatBox) → ((f : FloatBox) → Contains fs f → f.box.top ≤ℤ y) → filter (ends_below y) fs ≡ filter (is_next_to y) fs
next_ones y fs low = sym (filter-same (is_next_to y) (ends_below y) fs (λ f i. next_below y f (low f i)))

-- ---- what a float next to it asks

clears_left : (cb : Band ℤ) (x : ℤ) (f : FloatBox) → clears of_side.Left cb x f ≡ cond (is_left f) (int_le x cb.right) (int_le x f.box.left)
clears_left cb x f = by f.side refl
  where
    by : (g : Side) → f.side ≡ g → clears of_side.Left cb x f ≡ cond (is_left f) (int_le x cb.right) (int_le x f.box.left)
    by of_side.Left e = rw e refl
    by of_side.Right e = rw e refl

clears_right : (cb : Band ℤ) (x : ℤ) (f : FloatBox) → clears of_side.Right cb x f ≡ cond (is_left f) (int_le f.box.right x) (int_le cb.left x)
clears_right cb x f = by f.side refl
  where
    by : (g : Side) → f.side ≡ g → clears of_side.Right cb x f ≡ cond (is_left f) (int_le f.box.right x) (int_le cb.left x)
    by of_side.Left e = rw e refl
    by of_side.Right e = rw e refl

-- ---- allowed places

module _ (floats : List FloatBox) (width : ℤ) (cb : Band ℤ) (top y : ℤ) (below_top : top ≤ℤ y) (low : (f : FloatBox) → Contains floats f → f.box.top ≤ℤ y) where
  abbrev near : List FloatBox
  near = filter (is_next_to y) floats

  abbrev far : Side → ℤ
  far side = far_edge side (side_edge side (beside near cb)) width

  abbrev spot : Side → Spot ℤ
  spot side = farthest_at floats side width cb y

  abbrev all_clear : Side → Bool
  all_clear side = list_all (clears side cb (far side)) near

  is_low : (side : Side) → IsLowEnough floats top (spot side)
  is_low of_side.Left = record { below_top = below_top; below_floats = low }
  is_low of_side.Right = record { below_top = below_top; below_floats = low }

  clear_left : IsTrue (all_clear of_side.Left) → (f : FloatBox) → Contains floats f → IsTrue (is_next_to y f) → IsTrue (cond (is_left f) (int_le (far of_side.Left) cb.right) (int_le (far of_side.Left) f.box.left))
  clear_left h f i n = subst (λ (b : Bool). IsTrue b) (clears_left cb (far of_side.Left) f) (all_in (clears of_side.Left cb (far of_side.Left)) near f h (to_filter (is_next_to y) floats f i n))

  clear_right : IsTrue (all_clear of_side.Right) → (f : FloatBox) → Contains floats f → IsTrue (is_next_to y f) → IsTrue (cond (is_left f) (int_le f.box.right (far of_side.Right)) (int_le cb.left (far of_side.Right)))
  clear_right h f i n = subst (λ (b : Bool). IsTrue b) (clears_right cb (far of_side.Right) f) (all_in (clears of_side.Right cb (far of_side.Right)) near f h (to_filter (is_next_to y) floats f i n))

  right_end : (spot of_side.Right).x +ℤ width ≡ (beside near cb).right
  right_end = omega (arith, ints)

  clear_is_allowed : (side : Side) → IsTrue (all_clear side) → IsTrue (is_allowed floats side width cb top (spot side))
  clear_is_allowed of_side.Left h = allowed floats width cb top (spot of_side.Left) of_side.Left (is_low of_side.Left)
      (is_le cb.left (spot of_side.Left).x (room_from floats cb (is_next_to y)))
      (λ f i n. by_cond (is_left f) (int_le f.box.right (spot of_side.Left).x && int_le (far of_side.Left) cb.right) (int_le (far of_side.Left) f.box.left)
      (λ l. both_of (int_le f.box.right (spot of_side.Left).x) (int_le (far of_side.Left) cb.right)
      (is_le f.box.right (spot of_side.Left).x (room_after floats cb (is_next_to y) f i n l))
      (on_true (is_left f) (int_le (far of_side.Left) cb.right) (int_le (far of_side.Left) f.box.left) l (clear_left h f i n)))
      (λ r. on_false (is_left f) (int_le (far of_side.Left) cb.right) (int_le (far of_side.Left) f.box.left) r (clear_left h f i n)))
  clear_is_allowed of_side.Right h = allowed floats width cb top (spot of_side.Right) of_side.Right (is_low of_side.Right)
      (is_le ((spot of_side.Right).x +ℤ width) cb.right (let t = room_to floats cb (is_next_to y) in omega (arith, ints)))
      (λ f i n. by_cond (is_left f) (int_le f.box.right (far of_side.Right)) (int_le ((spot of_side.Right).x +ℤ width) f.box.left && int_le cb.left (far of_side.Right))
      (λ l. on_true (is_left f) (int_le f.box.right (far of_side.Right)) (int_le cb.left (far of_side.Right)) l (clear_right h f i n))
      (λ r. both_of (int_le ((spot of_side.Right).x +ℤ width) f.box.left) (int_le cb.left (far of_side.Right))
      (is_le ((spot of_side.Right).x +ℤ width) f.box.left (let t = room_before floats cb (is_next_to y) f i n r in omega (arith, ints)))
      (on_false (is_left f) (int_le f.box.right (far of_side.Right)) (int_le cb.left (far of_side.Right)) r (clear_right h f i n))))

  allowed_is_clear : (side : Side) → IsTrue (is_allowed floats side width cb top (spot side)) → IsTrue (all_clear side)
  allowed_is_clear of_side.Left h = all_from (clears of_side.Left cb (far of_side.Left)) near (λ f i.
      let member = from_filter (is_next_to y) floats f i in
      let fits = fits_next floats width cb top (spot of_side.Left) of_side.Left h f member.0 member.1 in
      subst (λ (b : Bool). IsTrue b) (sym (clears_left cb (far of_side.Left) f)) (by_cond (is_left f) (int_le (far of_side.Left) cb.right) (int_le (far of_side.Left) f.box.left)
      (λ l. right_of (int_le f.box.right (spot of_side.Left).x) (int_le (far of_side.Left) cb.right) (on_true (is_left f) _ (int_le (far of_side.Left) f.box.left) l fits))
      (λ r. on_false (is_left f) (int_le f.box.right (spot of_side.Left).x && int_le (far of_side.Left) cb.right) _ r fits)))
  allowed_is_clear of_side.Right h = all_from (clears of_side.Right cb (far of_side.Right)) near (λ f i.
      let member = from_filter (is_next_to y) floats f i in
      let fits = fits_next floats width cb top (spot of_side.Right) of_side.Right h f member.0 member.1 in
      subst (λ (b : Bool). IsTrue b) (sym (clears_right cb (far of_side.Right) f)) (by_cond (is_left f) (int_le f.box.right (far of_side.Right)) (int_le cb.left (far of_side.Right))
      (λ l. on_true (is_left f) _ (int_le ((spot of_side.Right).x +ℤ width) f.box.left && int_le cb.left (far of_side.Right)) l fits)
      (λ r. right_of (int_le ((spot of_side.Right).x +ℤ width) f.box.left) (int_le cb.left (far of_side.Right)) (on_false (is_left f) (int_le f.box.right (far of_side.Right)) _ r fits))))

  pub free_is_allowed : (side : Side) → is_free side width cb (shelf_on floats side cb y) ≡ is_allowed floats side width cb top (spot side)
  free_is_allowed side = free_is side width cb y floats
      ∙ ap (λ fs. list_all (clears side cb (far_edge side (side_edge side (beside fs cb)) width)) fs) (next_ones y floats low)
      ∙ same_truth _ _ (clear_is_allowed side) (allowed_is_clear side)
