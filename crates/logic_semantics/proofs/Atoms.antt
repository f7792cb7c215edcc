-- What comparisons, sameness and overlap say.
use Rattle.std.proofs.Common.{◌≡◌, ℕ, ℤ, ◌≤ℤ◌, ◌<ℤ◌, Bool, true, false, ◌&&◌, ◌↔◌, int_lt, int_le, Option, Some, None, IsTrue, refl, sym, ap, ◌∙◌, arith}
use Rattle.std.specs.Int.{int_max}
use Rattle.std.proofs.lemmas.Bool.Decides.{Decides-eqb, Decides-int_eq, Decides-not}
use Rattle.std.proofs.lemmas.Int.{ints, clamps}
use Rattle.std.proofs.lemmas.Option.{same_Some}
use Rattle.viz_base.specs.declared.formulas.Sign.{Sign}
use Rattle.viz_base.specs.declared.formulas.Sign.TheVariants.{Lt, Le, Eq, Ne, Ge, Gt}
use Rattle.viz_base.specs.declared.renderings.Quad.{Quad}
use Rattle.logic_semantics.specs.Terms.{compares, do_overlap}
use Rattle.logic_semantics.specs.Truth.{are_same}
use Rattle.logic_semantics.specs.Laws.{IsRelated, HasCell, HasSomeCell}
use Rattle.std.specs.Ordering.{int_eq}

below : (x y : ℤ) → IsTrue (int_lt x y) ↔ (x <ℤ y)
below x y = by_test (int_lt x y) refl
  where
    by_test : (b : Bool) → int_lt x y ≡ b → IsTrue b ↔ (x <ℤ y)
    by_test true e = (λ h. omega (arith, ints), λ h. refl)
    by_test false e = (λ h. absurd (cc), λ h. absurd (omega (arith, ints)))

at_most : (x y : ℤ) → IsTrue (int_le x y) ↔ (x ≤ℤ y)
at_most x y = by_test (int_le x y) refl
  where
    by_test : (b : Bool) → int_le x y ≡ b → IsTrue b ↔ (x ≤ℤ y)
    by_test true e = (λ h. omega (arith, ints), λ h. refl)
    by_test false e = (λ h. absurd (cc), λ h. absurd (omega (arith, ints)))

pub related : (sign : Sign) (x y : ℤ) → IsTrue (compares sign x y) ↔ IsRelated sign x y
related Lt x y = below x y
related Le x y = at_most x y
related Eq x y = Decides-int_eq x y
related Ne x y = Decides-not (int_eq x y) (Decides-int_eq x y)
related Ge x y = at_most y x
related Gt x y = below y x

pub one_place : (a b : Option ℕ) → IsTrue (are_same a b) ↔ ((place : ℕ) × ((a ≡ Some place) × (b ≡ Some place)))
one_place (Some m) (Some n) =
    (λ h. (m, (refl, ap Some (sym ((Decides-eqb m n).0 h)))), λ h. (Decides-eqb m n).1 (same_Some m h.0 h.1.0 ∙ sym (same_Some n h.0 h.1.1)))
one_place (Some m) None = (λ h. absurd (cc), λ h. absurd (let none = h.1.1 in cc))
one_place None b = (λ h. absurd (cc), λ h. absurd (let none = h.1.0 in cc))

pub common_cell : (a b : Quad ℤ) → HasSomeCell a → HasSomeCell b → IsTrue (do_overlap a b) ↔ ((x y : ℤ) × (HasCell a x y × HasCell b x y))
common_cell a b some_a some_b = by_tests (int_lt a.left b.right) refl (int_lt b.left a.right) refl (int_lt a.top b.bottom) refl (int_lt b.top a.bottom) refl
  where
    cell : a.left <ℤ b.right → b.left <ℤ a.right → a.top <ℤ b.bottom → b.top <ℤ a.bottom → (x y : ℤ) × (HasCell a x y × HasCell b x y)
    cell h i j k =
        let x_a = some_a.2.left in let x_a_end = some_a.2.right in let y_a = some_a.2.top in let y_a_end = some_a.2.bottom in
        let x_b = some_b.2.left in let x_b_end = some_b.2.right in let y_b = some_b.2.top in let y_b_end = some_b.2.bottom in (
          int_max a.left b.left,
          int_max a.top b.top,
          (
            record { left = omega (arith, ints, clamps); right = omega (arith, ints, clamps); top = omega (arith, ints, clamps); bottom = omega (arith, ints, clamps) },
            record { left = omega (arith, ints, clamps); right = omega (arith, ints, clamps); top = omega (arith, ints, clamps); bottom = omega (arith, ints, clamps) },
          ),
        )

    across : (x y : ℤ) × (HasCell a x y × HasCell b x y) → (a.left <ℤ b.right) × (b.left <ℤ a.right) × (a.top <ℤ b.bottom) × (b.top <ℤ a.bottom)
    across c =
        let p = c.2.0 in let q = c.2.1 in
        let p_left = p.left in let p_right = p.right in let p_top = p.top in let p_bottom = p.bottom in
        let q_left = q.left in let q_right = q.right in let q_top = q.top in let q_bottom = q.bottom in
        (omega (arith, ints), omega (arith, ints), omega (arith, ints), omega (arith, ints))

    by_tests : (p : Bool) → int_lt a.left b.right ≡ p → (q : Bool) → int_lt b.left a.right ≡ q → (r : Bool) → int_lt a.top b.bottom ≡ r → (s : Bool) → int_lt b.top a.bottom ≡ s
        → IsTrue (p && q && r && s) ↔ ((x y : ℤ) × (HasCell a x y × HasCell b x y))
    by_tests true e true f true g true h = (λ yes. cell (omega (arith, ints)) (omega (arith, ints)) (omega (arith, ints)) (omega (arith, ints)), λ c. refl)
    by_tests false e q f r g s h = (λ yes. absurd (cc), λ c. let lt = (across c).0 in absurd (omega (arith, ints)))
    by_tests true e false f r g s h = (λ yes. absurd (cc), λ c. let lt = (across c).1 in absurd (omega (arith, ints)))
    by_tests true e true f false g s h = (λ yes. absurd (cc), λ c. let lt = (across c).2 in absurd (omega (arith, ints)))
    by_tests true e true f true g false h = (λ yes. absurd (cc), λ c. let lt = (across c).3 in absurd (omega (arith, ints)))
