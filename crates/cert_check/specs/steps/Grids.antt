-- The worlds of a grid, one after another.
use Rattle.std.specs.Prelude.{◌≡◌, ℕ, ℤ, pos, ◌<ℤ◌, Bool, true, false, ◌&&◌, List, [], ◌∷◌, ◌++◌, Option, Some, None, is_none, if◌then◌else◌, map, slice_get, option_and_then}
use Rattle.std.specs.Option.{option_map, option_map_or}
use Rattle.std.specs.List.{list_all}
use Rattle.std.specs.Int.{int_div_euclid}
use Rattle.std.specs.Int.RustNames.{int_le}
use Rattle.std.specs.Int.Signed.{lt_z}
use Rattle.viz_base.specs.declared.worlds.World.{World}
use Rattle.viz_base.specs.declared.worlds.Axis.{Axis}
use Rattle.viz_base.specs.declared.worlds.Rect.{Rect}
use Rattle.viz_base.specs.declared.jobs.Job.{Job}
use Rattle.viz_base.specs.Worlds.{along}
use Rattle.cert_semantics.specs.Axes.{axes}
use Rattle.cert_semantics.specs.Rectangles.{Sides, whole}
use Rattle.cert_semantics.specs.Units.{is_unit}
use Rattle.viz_base.specs.Rectangles.{IsProper}
use Rattle.cert_check.specs.steps.Worlds.{is_untrue}
use Rattle.cert_check.specs.declared.descent.Above.{Above}
use Rattle.cert_check.specs.declared.descent.Above.TheVariants.{Def, First, Second, Lemma}
use Rattle.cert_check.specs.Numbers.{computed}

-- ---- one world

-- what a variable is, by the values of those that are declared
abbrev pub value_in : List ℤ → ℕ → ℤ
value_in values x = option_map_or (λ v. v) (slice_get values x) (pos 0)

abbrev pub is_above_zero : Above → Bool
is_above_zero (Def row d) = lt_z (pos 0) d
is_above_zero (First row) = true
is_above_zero (Second row) = true
is_above_zero (Lemma row) = true

-- whether each def's number is above 0
abbrev pub are_above_zero : List Above → Bool
are_above_zero = list_all is_above_zero

-- the values below one step more, and whether the world is still on the path
abbrev pub pass : ℕ → Above → List ℤ → Bool → Option (List ℤ × Bool)
pass form (Def row d) values on =
    option_map (λ v. (values ++ int_div_euclid v d ∷ [], on)) (computed row (value_in values))
pass form (First row) values on =
    if is_unit form row then Some (values, on)
    else option_map (λ v. (values, on && int_le (pos 0) v)) (computed row (value_in values))
pass form (Second row) values on =
    if is_unit form row then Some (values, on)
    else option_map (λ v. (values, on && lt_z v (pos 0))) (computed row (value_in values))
pass form (Lemma row) values on = Some (values, on)

abbrev pub place_from : ℕ → List Above → List ℤ → Bool → Option Bool
place_from form [] values on = Some on
place_from form (step ∷ steps) values on =
    option_and_then (λ p. place_from form steps p.0 p.1) (pass form step values on)

abbrev pub place_of : ℕ → List Above → World → Option Bool
place_of form above world = place_from form above (map (λ axis. pos (along axis world)) (axes form)) true

-- ---- what is looked for among the worlds of a grid

-- a number on the path is outside `i128` at a world
abbrev pub is_outside : ℕ → List Above → World → Bool
is_outside form above world = is_none (place_of form above world)

-- a world is on the path, and the formula is false there
abbrev pub is_untrue_if : Job → World → Option Bool → Bool
is_untrue_if job world (Some true) = is_untrue job world
is_untrue_if job world (Some false) = false
is_untrue_if job world None = false

abbrev pub is_untrue_on : Job → List Above → World → Bool
is_untrue_on job above world = is_untrue_if job world (place_of job.form above world)

-- ---- what unit splits leave

-- the rectangle is what is left of the sides, on one of which nothing is left otherwise
abbrev pub IsPart : Option Rect → Sides → Type 0
IsPart (Some r) sides = IsProper r × (sides ≡ whole r)
IsPart None sides = (axis : Axis) × ((sides axis).most <ℤ (sides axis).least)
