-- Which rows are unit rows, and where the parts of a rectangle lie.
use Rattle.std.proofs.Common.{◌≡◌, ℕ, ◌+◌, ◌<◌, ◌≤◌, ◌==◌, ℤ, pos, negsuc, neg_ℤ, ◌-ℤ◌, Bool, true, false, cond, nat_lt, nat_le, ◌&&◌, [], ◌∷◌, min, max, Option, Some, None, refl, sym, ◌∙◌, ap, subst, arith, inl, inr, IsTrue}
use Rattle.std.specs.Prelude.{◌⊎◌, ◌↔◌, IfSome}
use Rattle.std.specs.Ordering.{int_eq}
use Rattle.std.specs.Option.{option_map, option_and_then, is_some}
use Rattle.std.proofs.lemmas.Bool.Decides.{nat_tests, Decides-int_eq}
use Rattle.std.proofs.lemmas.Option.{same_Some}
use Rattle.viz_base.specs.declared.worlds.Axis.{Axis}
use Rattle.viz_base.specs.declared.worlds.Axis.TheVariants.{Width, Size, Height}
use Rattle.viz_base.specs.declared.worlds.Span.{Span}
use Rattle.viz_base.specs.declared.worlds.Rect.{Rect}
use Rattle.viz_base.specs.Worlds.{side_of, with_side}
use Rattle.lin_proof.specs.Form.{Form, Terms}
use Rattle.cert_semantics.specs.Laws.{IsUnit}
use Rattle.viz_base.specs.declared.rectangles.Child.{Child}
use Rattle.viz_base.specs.declared.rectangles.Opens.{Opens}
use Rattle.viz_base.specs.declared.rectangles.Opens.TheVariants.{Above, UpTo}
use Rattle.viz_base.specs.declared.rectangles.Cut.{Cut}
use Rattle.cert_semantics.specs.Axes.{variable_of, axis_of, axis_count, stands_for}
use Rattle.cert_semantics.proofs.Variables.{some_axis, have_variables}
use Rattle.viz_base.specs.Rectangles.{IsWithin, at_most, above, cut_side, toward, part_of}
use Rattle.cert_semantics.specs.Units.{coefficient_cut, terms_cut, is_unit}

-- ---- unit rows

pub int_test : (a b : ℤ) → int_eq a b ≡ true → a ≡ b
int_test a b e = (Decides-int_eq a b).0 e

unit_coefficient : (k : ℤ) (axis : Axis) (c : ℤ) → IsTrue (is_some (coefficient_cut k axis c)) → (c ≡ pos 1) ⊎ (c ≡ negsuc 0)
unit_coefficient k axis c h = by_test (int_eq c (pos 1)) refl (int_eq c (negsuc 0)) refl h
  where
    by_test : (a : Bool) → int_eq c (pos 1) ≡ a → (b : Bool) → int_eq c (negsuc 0) ≡ b
        → IsTrue (is_some {T = Cut} (cond a (Some (record { axis = axis; opens = Above; bound = neg_ℤ k -ℤ pos 1 })) (cond b (Some (record { axis = axis; opens = UpTo; bound = k })) None)))
        → (c ≡ pos 1) ⊎ (c ≡ negsuc 0)
    by_test true e b f h = inl (int_test c (pos 1) e)
    by_test false e true f h = inr (int_test c (negsuc 0) f)
    by_test false e false f h = absurd (cc)

-- whether a variable is one of an axis
of_axis : (form x : ℕ) (o : Option Axis) → axis_of form x ≡ o → nat_lt x (axis_count form) ≡ is_some o
of_axis form x o e = sym ((have_variables form).below x) ∙ ap is_some e

pub of_some_axis : (form x : ℕ) (axis : Axis) → axis_of form x ≡ Some axis → nat_lt x (axis_count form) ≡ true
of_some_axis form x axis = of_axis form x (Some axis)

-- of none it stands for no axis
pub of_no_axis : (form x : ℕ) → axis_of form x ≡ None → (axis : Axis) → stands_for form x axis ≡ false
of_no_axis form x e axis = let none = of_axis form x None e in λ i. none i && x == variable_of axis

unit_terms : (form : ℕ) (k : ℤ) (ts : Terms) → IsTrue (is_some (terms_cut form k ts)) → IsUnit form (record { k = k; terms = ts })
unit_terms form k [] h = absurd (cc)
unit_terms form k (t ∷ []) h = by_axis (axis_of form t.0) refl h
  where
    by_axis : (o : Option Axis) → axis_of form t.0 ≡ o → IsTrue (is_some (option_and_then (λ axis. coefficient_cut k axis t.1) o)) → IsUnit form (record { k = k; terms = t ∷ [] })
    by_axis (Some axis) e h =
        let less : nat_lt t.0 (axis_count form) ≡ true = of_some_axis form t.0 axis e in
        record { variable = t.0; of_axis = grind (arith, nat_tests); coefficient = t.1; terms = refl; unit = unit_coefficient k axis t.1 h }
    by_axis None e h = absurd (cc)
unit_terms form k (t ∷ u ∷ ts) h = absurd (cc)

cut_coefficient : (k : ℤ) (axis : Axis) (c : ℤ) → (c ≡ pos 1) ⊎ (c ≡ negsuc 0) → IsTrue (is_some (coefficient_cut k axis c))
cut_coefficient k axis c (inl e) = subst (λ d. IsTrue (is_some (coefficient_cut k axis d))) (sym e) refl
cut_coefficient k axis c (inr e) = subst (λ d. IsTrue (is_some (coefficient_cut k axis d))) (sym e) refl

cut_variable : (form : ℕ) (k : ℤ) (x : ℕ) (c : ℤ) → x < axis_count form → (c ≡ pos 1) ⊎ (c ≡ negsuc 0) → IsTrue (is_some (option_and_then (λ other. coefficient_cut k other c) (axis_of form x)))
cut_variable form k x c less unit =
    let at = some_axis form x less in
    subst (λ o. IsTrue (is_some (option_and_then (λ other. coefficient_cut k other c) o))) (sym at.1) (cut_coefficient k at.0 c unit)

cut_unit : (form : ℕ) (row : Form) → IsUnit form row → IsTrue (is_unit form row)
cut_unit form row h = subst (λ ts. IsTrue (is_some (terms_cut form row.k ts))) (sym h.terms) (cut_variable form row.k h.variable h.coefficient h.of_axis h.unit)

pub unit_is_unit_row : (form : ℕ) (row : Form) → IsTrue (is_unit form row) ↔ IsUnit form row
unit_is_unit_row form row = (unit_terms form row.k row.terms, cut_unit form row)

-- ---- parts lie within

Shrinks : Span → Option Span → Type 0
Shrinks side o = (t : Span) → o ≡ Some t → (side.least ≤ t.least) × (t.most ≤ side.most)

by_some : (side t : Span) (o : Span) → Some o ≡ Some t → (side.least ≤ o.least) × (o.most ≤ side.most) → (side.least ≤ t.least) × (t.most ≤ side.most)
by_some side t o is h = subst (λ x. (side.least ≤ x.least) × (x.most ≤ side.most)) (same_Some o t is) h

at_most-shrinks : (b : ℤ) (side : Span) → Shrinks side (at_most b side)
unfolding Shrinks
at_most-shrinks (pos b) side = by_test (nat_le side.least b)
  where
    by_test : (c : Bool) → (t : Span) → cond c (Some (record { least = side.least; most = min b side.most })) None ≡ Some t → (side.least ≤ t.least) × (t.most ≤ side.most)
    by_test true t is = by_some side t (record { least = side.least; most = min b side.most }) is (omega arith, omega arith)
    by_test false t is = absurd (cc)
at_most-shrinks (negsuc b) side = λ t is. absurd (cc)

above-shrinks : (b : ℤ) (side : Span) → Shrinks side (above b side)
unfolding Shrinks
above-shrinks (pos b) side = by_test (nat_lt b side.most)
  where
    by_test : (c : Bool) → (t : Span) → cond c (Some (record { least = max (b + 1) side.least; most = side.most })) None ≡ Some t → (side.least ≤ t.least) × (t.most ≤ side.most)
    by_test true t is = by_some side t (record { least = max (b + 1) side.least; most = side.most }) is (omega arith, omega arith)
    by_test false t is = absurd (cc)
above-shrinks (negsuc b) side = λ t is. by_some side t side is (omega arith, omega arith)

cut_side-shrinks : (opens : Opens) (b : ℤ) (side : Span) → Shrinks side (cut_side opens b side)
cut_side-shrinks Above b side = above-shrinks b side
cut_side-shrinks UpTo b side = at_most-shrinks b side

within_side : (axis : Axis) (outer r : Rect) (side : Span) → IsWithin outer r → (side_of axis r).least ≤ side.least → side.most ≤ (side_of axis r).most
    → IsWithin outer (with_side axis r side)
within_side Width outer r side w l m =
    record { width_least = omega arith; width_most = omega arith; size_least = w.size_least; size_most = w.size_most; height_least = w.height_least; height_most = w.height_most }
within_side Size outer r side w l m =
    record { width_least = w.width_least; width_most = w.width_most; size_least = omega arith; size_most = omega arith; height_least = w.height_least; height_most = w.height_most }
within_side Height outer r side w l m =
    record { width_least = w.width_least; width_most = w.width_most; size_least = w.size_least; size_most = w.size_most; height_least = omega arith; height_most = omega arith }

part_within : (cut : Cut) (child : Child) (outer r : Rect) → IsWithin outer r → IfSome (part_of cut child r) (IsWithin outer)
unfolding Shrinks
part_within cut child outer r w = by_side (cut_side (toward child cut.opens) cut.bound (side_of cut.axis r)) (cut_side-shrinks (toward child cut.opens) cut.bound (side_of cut.axis r))
  where
    by_side : (o : Option Span) → Shrinks (side_of cut.axis r) o → IfSome (option_map (with_side cut.axis r) o) (IsWithin outer)
    by_side None h = tt
    by_side (Some t) h = let at = h t refl in within_side cut.axis outer r t w at.0 at.1

pub child_within : (cut : Cut) (child : Child) (outer : Rect) (part : Option Rect) → IfSome part (IsWithin outer) → IfSome (option_and_then (part_of cut child) part) (IsWithin outer)
child_within cut child outer None h = tt
child_within cut child outer (Some r) h = part_within cut child outer r h
