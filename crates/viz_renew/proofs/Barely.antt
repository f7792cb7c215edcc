-- A path and the same without its lemmas have the same shapes, numbers and worlds.
use Rattle.std.proofs.Common.{◌≡◌, ◌∙◌, ◌+◌, ◌&&◌, ◌||◌, not, ℤ, refl, sym, ap, subst}
use Rattle.std.specs.Prelude.{nat_le, pos, is_some}
use Rattle.std.specs.Ordering.{int_eq}
use Rattle.std.specs.Int.Signed.{lt_z}
use Rattle.viz_base.specs.declared.jobs.Job.{Job}
use Rattle.viz_base.specs.declared.worlds.World.{World}
use Rattle.viz_base.specs.declared.worlds.Rect.{Rect}
use Rattle.lin_proof.specs.Form.{Form, form_fits, denied}
use Rattle.lin_proof.specs.Derivations.{are_declared}
use Rattle.cert_semantics.specs.Paths.{Step, def, first, second, lemma, Path, root, ◌▸◌, form_of, variables, with_floor, values_along, IsTaken, IsOn}
use Rattle.cert_semantics.specs.Nodes.{Decision, names, splits, states, is_empty, by_worlds, by_answers}
use Rattle.cert_semantics.specs.Rectangles.{Sides, rectangle, left_by, world_count}
use Rattle.cert_semantics.specs.Shapes.{has_variable, has_remainders, same_row, is_named, is_shaped}
use Rattle.cert_semantics.specs.Laws.{IsInside}
use Rattle.cert_semantics.specs.Units.{is_unit}
use Rattle.cert_check.specs.Numbers.{computed, are_computed, IsComputed}
use Rattle.cert_check.specs.Truths.{IsTrueOn}
use Rattle.viz_renew.specs.Pieces.{is_firm}
use Rattle.viz_renew.specs.steps.Bare.{bare}

variables_bare : (p : Path) → variables (bare p) ≡ variables p
variables_bare (root form) = refl
variables_bare (def row d ▸ p) = ap (λ n. n + 1) (variables_bare p)
variables_bare (first row ▸ p) = variables_bare p
variables_bare (second row ▸ p) = variables_bare p
variables_bare (lemma row ▸ p) = variables_bare p

form_bare : (p : Path) → form_of (bare p) ≡ form_of p
form_bare (root form) = refl
form_bare (def row d ▸ p) = form_bare p
form_bare (first row ▸ p) = form_bare p
form_bare (second row ▸ p) = form_bare p
form_bare (lemma row ▸ p) = form_bare p

named_bare : (row : Form) (d : ℤ) (p : Path) → is_named row d (bare p) ≡ is_named row d p
named_bare row d (root form) = refl
named_bare row d (def f e ▸ p) = ap (λ b. (same_row row f && int_eq d e) || b) (named_bare row d p)
named_bare row d (first f ▸ p) = named_bare row d p
named_bare row d (second f ▸ p) = named_bare row d p
named_bare row d (lemma f ▸ p) = named_bare row d p

rectangle_bare : (range : Rect) (p : Path) → rectangle range (bare p) ≡ rectangle range p
rectangle_bare range (root form) = refl
rectangle_bare range (def row d ▸ p) = rectangle_bare range p
rectangle_bare range (first row ▸ p) = λ i. left_by (form_bare p i) row (rectangle_bare range p i)
rectangle_bare range (second row ▸ p) = λ i. left_by (form_bare p i) (denied row) (rectangle_bare range p i)
rectangle_bare range (lemma row ▸ p) = rectangle_bare range p

values_bare : (world : World) (p : Path) → values_along world (bare p) ≡ values_along world p
values_bare world (root form) = refl
values_bare world (def row d ▸ p) = λ i. with_floor row d (values_bare world p i) (variables_bare p i)
values_bare world (first row ▸ p) = values_bare world p
values_bare world (second row ▸ p) = values_bare world p
values_bare world (lemma row ▸ p) = values_bare world p

computed_bare : (world : World) (p : Path) → are_computed (bare p) world ≡ are_computed p world
computed_bare world (root form) = refl
computed_bare world (def row d ▸ p) = λ i. computed_bare world p i && is_some (computed row (values_bare world p i))
computed_bare world (first row ▸ p) = λ i. computed_bare world p i && (is_unit (form_bare p i) row || is_some (computed row (values_bare world p i)))
computed_bare world (second row ▸ p) = λ i. computed_bare world p i && (is_unit (form_bare p i) row || is_some (computed row (values_bare world p i)))
computed_bare world (lemma row ▸ p) = computed_bare world p

-- ---- two paths that are the same but for lemmas

module _ (p q : Path) (same : bare p ≡ bare q) where
  same_variables : variables p ≡ variables q
  same_variables = sym (variables_bare p) ∙ ap variables same ∙ variables_bare q

  same_rectangle : (range : Rect) → rectangle range p ≡ rectangle range q
  same_rectangle range = sym (rectangle_bare range p) ∙ ap (rectangle range) same ∙ rectangle_bare range q

  same_values : (world : World) → values_along world p ≡ values_along world q
  same_values world = sym (values_bare world p) ∙ ap (values_along world) same ∙ values_bare world q

  same_computed : (world : World) → are_computed p world ≡ are_computed q world
  same_computed world = sym (computed_bare world p) ∙ ap (λ x. are_computed x world) same ∙ computed_bare world q

  same_named : (row : Form) (d : ℤ) → is_named row d p ≡ is_named row d q
  same_named row d = sym (named_bare row d p) ∙ ap (is_named row d) same ∙ named_bare row d q

  pub same_shape : (range : Rect) (d : Decision) → is_shaped range p d ≡ is_shaped range q d
  same_shape range (names row d) =
      λ i. are_declared (same_variables i) row.terms && has_variable row && lt_z (pos 1) d && has_remainders d row && not (same_named row d i)
  same_shape range (splits row) = λ i. are_declared (same_variables i) row.terms && has_variable row
  same_shape range (states row why) = λ i. are_declared (same_variables i) row.terms && has_variable row
  same_shape range (is_empty why) = refl
  same_shape range by_worlds = λ i. nat_le (world_count (same_rectangle range i)) 64
  same_shape range (by_answers answers) = refl

-- whether a step is firm
pub same_firm : (range : Rect) (p q : Path) → bare p ≡ bare q → (step : Step) → is_firm range p step ≡ is_firm range q step
same_firm range p q same (def row d) = same_shape p q same range (names row d)
same_firm range p q same (first row) = ap (λ b. b && form_fits (denied row)) (same_shape p q same range (splits row))
same_firm range p q same (second row) = ap (λ b. b && form_fits (denied row)) (same_shape p q same range (splits row))
same_firm range p q same (lemma row) = ap (λ b. b && form_fits (denied row)) (same_shape p q same range (splits row))

pub same_below : (p q : Path) → bare p ≡ bare q → (step : Step) → bare (step ▸ p) ≡ bare (step ▸ q)
same_below p q same (def row d) = ap (λ x. def row d ▸ x) same
same_below p q same (first row) = ap (λ x. first row ▸ x) same
same_below p q same (second row) = ap (λ x. second row ▸ x) same
same_below p q same (lemma row) = same

-- ---- worlds

on_bare : (world : World) (p : Path) → IsOn p world → IsOn (bare p) world
on_bare world (root form) on = on
on_bare world (def row d ▸ p) on = (tt, on_bare world p on.1)
on_bare world (first row ▸ p) on = (subst (λ v. IsTaken v (first row)) (sym (values_bare world p)) on.0, on_bare world p on.1)
on_bare world (second row ▸ p) on = (subst (λ v. IsTaken v (second row)) (sym (values_bare world p)) on.0, on_bare world p on.1)
on_bare world (lemma row ▸ p) on = on_bare world p on.1

bare_on : (world : World) (p : Path) → IsOn (bare p) world → IsOn p world
bare_on world (root form) on = on
bare_on world (def row d ▸ p) on = (tt, bare_on world p on.1)
bare_on world (first row ▸ p) on = (subst (λ v. IsTaken v (first row)) (values_bare world p) on.0, bare_on world p on.1)
bare_on world (second row ▸ p) on = (subst (λ v. IsTaken v (second row)) (values_bare world p) on.0, bare_on world p on.1)
bare_on world (lemma row ▸ p) on = (tt, bare_on world p on)

-- the formula is true on one where it is on the other, and numbers are computed on one where they are on the other
pub same_truth : (job : Job) (p q : Path) → bare p ≡ bare q → IsTrueOn job q → IsTrueOn job p
same_truth job p q same holds = λ world inside on. holds world inside (bare_on world q (subst (λ x. IsOn x world) same (on_bare world p on)))

pub same_numbers : (range : Rect) (p q : Path) → bare p ≡ bare q → IsComputed range q → IsComputed range p
same_numbers range p q same are = λ world inside.
    same_computed p q same world ∙ are world (subst (λ (s : Sides). IsInside s world) (same_rectangle p q same range) inside)
