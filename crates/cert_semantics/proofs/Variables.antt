-- Each axis of a form has one variable, and these are those below the count of axes.
use Rattle.std.proofs.Common.{◌≡◌, ℕ, zero, suc, ◌<◌, ◌≤◌, ◌==◌, Bool, true, false, cond, nat_lt, List, [], ◌∷◌, length, Some, refl, sym, ◌∙◌, ap, arith}
use Rattle.std.specs.Prelude.{◌↔◌, is_some, slice_get}
use Rattle.std.proofs.lemmas.Bool.Decides.{nat_tests}
use Rattle.std.proofs.lemmas.Option.{same_Some}
use Rattle.viz_base.specs.declared.worlds.Axis.{Axis}
use Rattle.viz_base.specs.declared.worlds.Axis.TheVariants.{Width, Size, Height}
use Rattle.viz_base.proofs.ListLemmas.{slice_some}
use Rattle.cert_semantics.specs.Axes.{variable_of, axes, axis_of, axis_count, stands_for}
use Rattle.cert_semantics.specs.Laws.{HaveVariables}

-- ---- what holds of two axes and of all three holds of each form's

abbrev pub two : List Axis
two = Width ∷ Size ∷ []

abbrev pub three : List Axis
three = Width ∷ Size ∷ Height ∷ []

pub by_form : (P : List Axis → Type 0) → P two → P three → (form : ℕ) → P (axes form)
by_form P of_two of_three form = by_test (form == 2)
  where
    by_test : (b : Bool) → P (cond b three two)
    by_test true = of_three
    by_test false = of_two

pub two_axes : (form : ℕ) → 2 ≤ axis_count form
two_axes = by_form (λ some. 2 ≤ length some) (omega arith) (omega arith)

-- ---- variables

pub own_axis : (axis : Axis) (form : ℕ) → variable_of axis < axis_count form → axis_of form (variable_of axis) ≡ Some axis
own_axis Width = by_form (λ some. 0 < length some → slice_get some 0 ≡ Some Width) (λ less. refl) (λ less. refl)
own_axis Size = by_form (λ some. 1 < length some → slice_get some 1 ≡ Some Size) (λ less. refl) (λ less. refl)
own_axis Height = by_form (λ some. 2 < length some → slice_get some 2 ≡ Some Height) (λ less. absurd (omega arith)) (λ less. refl)

abbrev HasOne : List Axis → Type 0
HasOne some = (x : ℕ) (axis : Axis) → slice_get some x ≡ Some axis → x ≡ variable_of axis

of_two : HasOne two
of_two zero axis is = ap variable_of (same_Some Width axis is)
of_two (suc zero) axis is = ap variable_of (same_Some Size axis is)
of_two (suc (suc x)) axis is = absurd (cc)

of_three : HasOne three
of_three zero axis is = ap variable_of (same_Some Width axis is)
of_three (suc zero) axis is = ap variable_of (same_Some Size axis is)
of_three (suc (suc zero)) axis is = ap variable_of (same_Some Height axis is)
of_three (suc (suc (suc x))) axis is = absurd (cc)

pub axis_has : (form : ℕ) (x : ℕ) (axis : Axis) → axis_of form x ≡ Some axis → x ≡ variable_of axis
axis_has = by_form HasOne of_two of_three

counted : {A : Type 0} (xs : List A) (n : ℕ) → is_some (slice_get xs n) ≡ nat_lt n (length xs)
counted [] n = grind (arith, nat_tests)
counted (x ∷ xs) zero = grind (arith, nat_tests)
counted (x ∷ xs) (suc n) = counted xs n ∙ grind (arith, nat_tests)

-- each variable below the count of axes stands for one
pub some_axis : (form x : ℕ) → x < axis_count form → (axis : Axis) × (axis_of form x ≡ Some axis)
some_axis form = slice_some (axes form)

pub stands : (form x : ℕ) (axis : Axis) → axis_of form x ≡ Some axis → stands_for form x axis ≡ true
stands form x axis is =
    let at = axis_has form x axis is in
    let less : nat_lt x (axis_count form) ≡ true = sym (counted (axes form) x) ∙ ap is_some is in
    let same : (x == variable_of axis) ≡ true = grind (arith, nat_tests) in
    rw (less, same) refl

pub have_variables : (form : ℕ) → HaveVariables form
have_variables form = record { own = λ axis. own_axis axis form; one = axis_has form; below = counted (axes form) }

pub height_is_of_form_2 : (form : ℕ) → (axis_of form 2 ≡ Some Height) ↔ (form ≡ 2)
height_is_of_form_2 form = by_test (form == 2) refl
  where
    by_test : (b : Bool) → (form == 2) ≡ b → (slice_get (cond b three two) 2 ≡ Some Height) ↔ (form ≡ 2)
    by_test true e = (λ is. grind (arith, nat_tests), λ is. refl)
    by_test false e = (λ is. absurd (cc), λ is. absurd (grind (arith, nat_tests)))
