-- The highest top that a float may have, by what it is below.
use Rattle.std.proofs.Common.{◌≡◌, ℤ, ◌≤ℤ◌, false, IsTrue, List, [], ◌++◌, Contains, Option, Some, None, MatchOption, refl, sym, subst, ⊎_elim, arith}
use Rattle.std.specs.Option.{option_to_list}
use Rattle.std.proofs.lemmas.Int.{ints}
use Rattle.std.proofs.lemmas.List.Elements.{Contains-append_left, Contains-append_right, Contains-append_cases}
use Rattle.viz_base.specs.declared.styles.Clear.{Clear}
use Rattle.layout_semantics.specs.Floats.{FloatBox, is_relevant, lowest_bottom, float_top}
use Rattle.layout_laws.specs.Clearance.{IsLowestBottom}
use Rattle.layout_laws.proofs.LowestBottoms.{lowest}
use Rattle.layout_laws.proofs.Members.{no_member, first_member, only_member}
use Rattle.layout_laws.proofs.Extremes.{below_greatest, start_below_greatest, greatest_at_most}

module _ (clear : Clear) (floats : List FloatBox) (least : Option ℤ) (y : ℤ) where
  abbrev bottoms : List ℤ
  bottoms = option_to_list (lowest_bottom clear floats)

  abbrev levels : List ℤ
  levels = option_to_list least ++ bottoms

  abbrev Answer : Option ℤ → Type 0
  Answer o = MatchOption o ((f : FloatBox) → Contains floats f → is_relevant clear f ≡ false) (IsLowestBottom clear floats)

  pub top-from : y ≤ℤ float_top clear floats least y
  top-from = start_below_greatest y levels

  pub top-least : (x : ℤ) → Contains (option_to_list least) x → x ≤ℤ float_top clear floats least y
  top-least x i = below_greatest y levels x (Contains-append_left (option_to_list least) bottoms x i)

  pub top-bottom : (f : FloatBox) → Contains floats f → IsTrue (is_relevant clear f) → f.box.bottom ≤ℤ float_top clear floats least y
  top-bottom f i r = by (lowest_bottom clear floats) refl (lowest clear floats)
    where
      by : (o : Option ℤ) → lowest_bottom clear floats ≡ o → Answer o → f.box.bottom ≤ℤ float_top clear floats least y
      by None e none = absurd (let t = none f i in cc)
      by (Some b) e is =
          let a = is.bound f i r in
          let t = below_greatest y levels b (Contains-append_right (option_to_list least) bottoms b (subst (λ (o : Option ℤ). Contains (option_to_list o) b) (sym e) (first_member [] refl))) in
          omega (arith, ints)

  pub top-most : (z : ℤ) → y ≤ℤ z → ((x : ℤ) → Contains (option_to_list least) x → x ≤ℤ z)
      → ((f : FloatBox) → Contains floats f → IsTrue (is_relevant clear f) → f.box.bottom ≤ℤ z) → float_top clear floats least y ≤ℤ z
  top-most z from tops each = greatest_at_most y levels z from
      (λ x i. ⊎_elim (λ j. tops x j) (λ j. by (lowest_bottom clear floats) (lowest clear floats) x j) (Contains-append_cases (option_to_list least) bottoms x i))
    where
      by : (o : Option ℤ) → Answer o → (x : ℤ) → Contains (option_to_list o) x → x ≤ℤ z
      by None none x j = no_member j
      by (Some b) is x j =
          let same = only_member b x j in
          let r = is.reached in
          let a = each r.0 r.1 r.2 in
          let e = r.3 in
          omega (arith, ints)
