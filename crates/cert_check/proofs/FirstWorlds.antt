-- The first world of a rectangle that passes a test.
use Rattle.std.proofs.Common.{◌≡◌, ℕ, ◌+◌, ◌-◌, Bool, true, false, Some, None, refl, sym, ap, subst, ◌∙◌, arith, inl, inr}
use Rattle.std.proofs.lemmas.Option.{same_Some}
use Rattle.viz_base.specs.declared.worlds.World.{World}
use Rattle.viz_base.specs.declared.worlds.Rect.{Rect}
use Rattle.viz_base.specs.Worlds.{IsInRange}
use Rattle.cert_check.specs.Truths.{IsBefore}
use Rattle.cert_check.specs.steps.Worlds.{if_so, at_world, first_of_size, first_of_width, first_world}
use Rattle.cert_check.proofs.Seeks.{IsFound, seek-none, seek-found}

-- ---- one world

pub passes_here : (test : World → Bool) (w s h : ℕ) → test (record { w = w; s = s; h = h }) ≡ true → at_world test w s h ≡ Some (record { w = w; s = s; h = h })
passes_here test w s h e = ap (λ b. if_so b (record { w = w; s = s; h = h })) e

pub fails_here : (test : World → Bool) (w s h : ℕ) → test (record { w = w; s = s; h = h }) ≡ false → at_world test w s h ≡ None
fails_here test w s h e = ap (λ b. if_so b (record { w = w; s = s; h = h })) e

none_here : (test : World → Bool) (world : World) → at_world test world.w world.s world.h ≡ None → test world ≡ false
none_here test world none = by_test (test world) none
  where
    by_test : (b : Bool) → if_so b world ≡ None → b ≡ false
    by_test true e = absurd (cc)
    by_test false e = refl

found_here : (test : World → Bool) (w s h : ℕ) (world : World) → at_world test w s h ≡ Some world → (world ≡ record { w = w; s = s; h = h }) × (test world ≡ true)
found_here test w s h world some = by_test (test (record { w = w; s = s; h = h })) refl some
  where
    by_test : (b : Bool) → test (record { w = w; s = s; h = h }) ≡ b → if_so b (record { w = w; s = s; h = h }) ≡ Some world → (world ≡ record { w = w; s = s; h = h }) × (test world ≡ true)
    by_test true e is = let same : world ≡ record { w = w; s = s; h = h } = sym (same_Some _ _ is) in (same, ap test same ∙ e)
    by_test false e is = absurd (cc)

-- ---- those of a size, of a width, and of a rectangle

module _ (test : World → Bool) (r : Rect) where
  none_of_size : (world : World) → first_of_size test r world.w world.s ≡ None → IsInRange r world → test world ≡ false
  none_of_size world none i =
      none_here test world (seek-none (at_world test world.w world.s) r.hl (r.hh + 1 - r.hl) none world.h i.height_least (let m = i.height_most in omega arith))

  none_of_width : (world : World) → first_of_width test r world.w ≡ None → IsInRange r world → test world ≡ false
  none_of_width world none i =
      none_of_size world (seek-none (first_of_size test r world.w) r.sl (r.sh + 1 - r.sl) none world.s i.size_least (let m = i.size_most in omega arith)) i

  pub none_passes : first_world test r ≡ None → (world : World) → IsInRange r world → test world ≡ false
  none_passes none world i =
      none_of_width world (seek-none (first_of_width test r) r.wl (r.wh + 1 - r.wl) none world.w i.width_least (let m = i.width_most in omega arith)) i

  pub record IsFirstWorld (world : World) : Type 0 where
    pub in_rectangle : IsInRange r world
    pub passes : test world ≡ true
    pub first : (other : World) → IsBefore other world → IsInRange r other → test other ≡ false

  pub first_found : (world : World) → first_world test r ≡ Some world → IsFirstWorld world
  first_found world some = record { in_rectangle = in_rectangle; passes = at.1; first = by_order }
    where
      width : IsFound (first_of_width test r) r.wl (r.wh + 1 - r.wl) world
      width = seek-found (first_of_width test r) r.wl (r.wh + 1 - r.wl) world some

      size : IsFound (first_of_size test r width.place) r.sl (r.sh + 1 - r.sl) world
      size = seek-found (first_of_size test r width.place) r.sl (r.sh + 1 - r.sl) world width.is

      height : IsFound (at_world test width.place size.place) r.hl (r.hh + 1 - r.hl) world
      height = seek-found (at_world test width.place size.place) r.hl (r.hh + 1 - r.hl) world size.is

      at : (world ≡ record { w = width.place; s = size.place; h = height.place }) × (test world ≡ true)
      at = found_here test width.place size.place height.place world height.is

      same_w : world.w ≡ width.place
      same_w = ap (λ (x : World). x.w) at.0

      same_s : world.s ≡ size.place
      same_s = ap (λ (x : World). x.s) at.0

      same_h : world.h ≡ height.place
      same_h = ap (λ (x : World). x.h) at.0

      in_rectangle : IsInRange r world
      in_rectangle =
          let a = same_w in
          let b = same_s in
          let c = same_h in
          let d = width.least in
          let e = width.most in
          let f = size.least in
          let g = size.most in
          let h = height.least in
          let i = height.most in
          record { width_least = omega arith; width_most = omega arith; size_least = omega arith; size_most = omega arith; height_least = omega arith; height_most = omega arith }

      by_order : (other : World) → IsBefore other world → IsInRange r other → test other ≡ false
      by_order other (inl narrower) i =
          let a = same_w in
          none_of_width other (width.none_before other.w i.width_least (omega arith)) i
      by_order other (inr (as_wide, inl smaller)) i =
          let b = same_s in
          let wide : width.place ≡ other.w = let a = same_w in omega arith in
          none_of_size other (subst (λ w. first_of_size test r w other.s ≡ None) wide (size.none_before other.s i.size_least (omega arith))) i
      by_order other (inr (as_wide, inr (as_large, lower))) i =
          let c = same_h in
          let wide : width.place ≡ other.w = let a = same_w in omega arith in
          let large : size.place ≡ other.s = let b = same_s in omega arith in
          none_here test other (subst (λ w. at_world test w other.s other.h ≡ None) wide
          (subst (λ s. at_world test width.place s other.h ≡ None) large (height.none_before other.h i.height_least (omega arith))))
