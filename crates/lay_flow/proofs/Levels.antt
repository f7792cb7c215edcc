-- Floats that stand level at one edge stand level at another, where no float of the context is in their way there that
-- wasn't at the first.
use Rattle.std.proofs.Common.{◌≡◌, ℤ, ◌≤ℤ◌, ◌<ℤ◌, Bool, true, false, int_lt, IsTrue, List, [], ◌∷◌, ◌++◌, Contains, Option, refl, sym, ap, ◌∙◌, subst, inl, inr, ◌⊎◌, ⊎_elim, arith}
use Rattle.std.specs.Option.{option_to_list}
use Rattle.std.proofs.lemmas.Int.{ints}
use Rattle.std.proofs.lemmas.List.Elements.{Contains-append_left, Contains-append_right, Contains-append_cases}
use Rattle.viz_base.specs.declared.layouts.Spot.{Spot}
use Rattle.viz_base.specs.declared.styles.Clear.{Clear}
use Rattle.viz_base.specs.declared.styles.Clear.TheVariants as of_clear
use Rattle.viz_base.specs.declared.styles.Side.{Side}
use Rattle.viz_base.specs.declared.styles.Side.TheVariants as of_side
use Rattle.layout_semantics.specs.Floats.{FloatBox, Floating, is_left, is_relevant, placed_float, float_at, float_top, float_spot, with_float_at}
use Rattle.layout_laws.specs.FloatRules.{IsNextTo, IsLowEnough, ObeysRules, IsNoFarther}
use Rattle.layout_laws.proofs.Members.{first_member, only_member}
use Rattle.lay_float.specs.Places.{IsHighest}
use Rattle.lay_float.proofs.Highest.{highest_is}
use Rattle.lay_float.proofs.Tops.{top-from, top-bottom, top-most}

-- floats are tried at y and at z
module _ (y z : ℤ) where
  -- f among those at y stands for g among those at z: where g reaches below z, f reaches below y, as far in
  pub record IsFor (f g : FloatBox) : Type 0 where
    pub same : (clear : Clear) → is_relevant clear g ≡ is_relevant clear f
    pub from : f.box.top ≤ℤ y
    pub to : g.box.top ≤ℤ z
    pub below : z <ℤ g.box.bottom → y <ℤ f.box.bottom
    pub left : IsTrue (is_left g) → g.box.right ≤ℤ f.box.right
    pub right : is_left g ≡ false → f.box.left ≤ℤ g.box.left

  abbrev pub AreFor : List FloatBox → List FloatBox → Type 0
  AreFor fs gs = (g : FloatBox) → Contains gs g → (f : FloatBox) × Contains fs f × IsFor f g

  module _ (fs gs : List FloatBox) (all : AreFor fs gs) (w : Floating) (least : Option ℤ) (low : (x : ℤ) → Contains (option_to_list least) x → x ≤ℤ z) where
    abbrev spot : Spot ℤ
    spot = float_spot w fs least y

    abbrev other : Spot ℤ
    other = float_spot w gs least z

    abbrev top : ℤ
    top = float_top w.clear fs least y

    abbrev new : ℤ
    new = float_top w.clear gs least z

    high : IsHighest fs w.side w.size.width w.cb top spot
    high = highest_is fs w.side w.size w.cb top

    highest : IsHighest gs w.side w.size.width w.cb new other
    highest = highest_is gs w.side w.size w.cb new

    low-of : (side : Side) (floats : List FloatBox) (t : ℤ) (at : Spot ℤ) → ObeysRules floats side w.size.width w.cb t at → IsLowEnough floats t at
    low-of of_side.Left floats t at h = h.low_enough
    low-of of_side.Right floats t at h = h.low_enough

    is-low : IsLowEnough gs new other
    is-low = low-of w.side gs new other highest.obeys

    module _ (level : spot.y ≡ y) where
      top-level : new ≤ℤ z
      top-level = top-most w.clear gs least z z (omega (arith, ints)) low (λ g i r. ends g i r (int_lt z g.box.bottom) refl)
        where
          ends : (g : FloatBox) → Contains gs g → IsTrue (is_relevant w.clear g) → (b : Bool) → int_lt z g.box.bottom ≡ b → g.box.bottom ≤ℤ z
          ends g i r false e = grind (arith, ints)
          ends g i r true e =
              let h = all g i in
              let deep : z <ℤ g.box.bottom = grind (arith, ints) in
              let a = top-bottom w.clear fs least y h.0 h.1 (sym (h.2.same w.clear) ∙ r) in
              let b = (low-of w.side fs top spot high.obeys).below_top in
              let c = h.2.below deep in
              absurd (omega (arith, ints, level))

      abbrev moved : Spot ℤ
      moved = record { x = spot.x; y = z }

      moved-low : IsLowEnough gs new moved
      moved-low = record { below_top = top-level; below_floats = λ g i. (all g i).2.to }

      next-at : (f g : FloatBox) → IsFor f g → IsNextTo z g → IsNextTo spot.y f
      next-at f g i n =
          let a = i.from in
          let b = i.below n.to in
          record { from = omega (arith, ints, level); to = omega (arith, ints, level) }

      moved-obeys : (side : Side) → ObeysRules fs side w.size.width w.cb top spot → ObeysRules gs side w.size.width w.cb new moved
      moved-obeys of_side.Left h = record {
        low_enough = moved-low;
        inside = h.inside;
        right_of_left_ones = λ g i l n.
            let f = all g i in
            let a = h.right_of_left_ones f.0 f.1 (sym (f.2.same of_clear.Left) ∙ l) (next-at f.0 g f.2 n) in
            let b = f.2.left l in
            omega (arith, ints);
        left_of_right_ones = λ g i l n.
            let f = all g i in
            let a = h.left_of_right_ones f.0 f.1 (sym (f.2.same of_clear.Left) ∙ l) (next-at f.0 g f.2 n) in
            let b = f.2.right l in
            omega (arith, ints);
        not_sticking_out = λ g i l n. let f = all g i in h.not_sticking_out f.0 f.1 (sym (f.2.same of_clear.Left) ∙ l) (next-at f.0 g f.2 n);
      }
      moved-obeys of_side.Right h = record {
        low_enough = moved-low;
        inside = h.inside;
        left_of_right_ones = λ g i l n.
            let f = all g i in
            let a = h.left_of_right_ones f.0 f.1 (sym (f.2.same of_clear.Left) ∙ l) (next-at f.0 g f.2 n) in
            let b = f.2.right l in
            omega (arith, ints);
        right_of_left_ones = λ g i l n.
            let f = all g i in
            let a = h.right_of_left_ones f.0 f.1 (sym (f.2.same of_clear.Left) ∙ l) (next-at f.0 g f.2 n) in
            let b = f.2.left l in
            omega (arith, ints);
        not_sticking_out = λ g i l n. let f = all g i in h.not_sticking_out f.0 f.1 (sym (f.2.same of_clear.Left) ∙ l) (next-at f.0 g f.2 n);
      }

      obeys : ObeysRules gs w.side w.size.width w.cb new moved
      obeys = moved-obeys w.side high.obeys

      -- it stands level there too
      pub level-there : other.y ≡ z
      level-there =
          let a = highest.none_higher moved obeys in
          let b = is-low.below_top in
          let c = top-from w.clear gs least z in
          omega (arith, ints)

      -- and no farther in
      farther : IsNoFarther w.side moved other
      farther = highest.none_farther moved obeys (sym level-there)

      no-left : (side : Side) → IsNoFarther side moved other → IsTrue (is_left (placed_float side w.size other)) → other.x ≤ℤ spot.x
      no-left of_side.Left h l = h
      no-left of_side.Right h l = absurd (cc)

      no-right : (side : Side) → IsNoFarther side moved other → is_left (placed_float side w.size other) ≡ false → spot.x ≤ℤ other.x
      no-right of_side.Left h l = absurd (cc)
      no-right of_side.Right h l = h

      relevant-same : (clear : Clear) → is_relevant clear (placed_float w.side w.size other) ≡ is_relevant clear (placed_float w.side w.size spot)
      relevant-same of_clear.Nothing = refl
      relevant-same of_clear.Left = refl
      relevant-same of_clear.Right = refl
      relevant-same of_clear.Both = refl

      is-for : IsFor (placed_float w.side w.size spot) (placed_float w.side w.size other)
      is-for = record {
        same = relevant-same;
        from = omega (arith, ints, level);
        to = omega (arith, ints, level-there);
        below = λ h. omega (arith, ints, level, level-there, h);
        left = λ l. let a = no-left w.side farther l in omega (arith, ints);
        right = λ r. no-right w.side farther r;
      }

      -- so those that come after it meet what they met
      pub still-for : AreFor (with_float_at w fs spot) (with_float_at w gs other)
      still-for g i = ⊎_elim
          (λ j. let f = all g j in (f.0, Contains-append_left fs _ f.0 f.1, f.2))
          (λ j. let e = only_member (placed_float w.side w.size other) g j in
          (placed_float w.side w.size spot, Contains-append_right fs (placed_float w.side w.size spot ∷ []) (placed_float w.side w.size spot) (first_member [] refl), subst (IsFor (placed_float w.side w.size spot)) e is-for))
          (Contains-append_cases gs (placed_float w.side w.size other ∷ []) g i)
