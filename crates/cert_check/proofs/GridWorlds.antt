-- From the walk over the worlds of a grid to what holds at those of its path.
use Rattle.std.proofs.Common.{◌≡◌, ℕ, pos, ◌≤ℤ◌, ◌<ℤ◌, Bool, true, false, List, Option, Some, None, refl, sym, ◌∙◌, ap, subst}
use Rattle.std.specs.Prelude.{is_none}
use Rattle.viz_base.specs.declared.worlds.World.{World}
use Rattle.viz_base.specs.declared.worlds.Rect.{Rect}
use Rattle.viz_base.specs.declared.jobs.Job.{Job}
use Rattle.viz_base.specs.Worlds.{IsInRange}
use Rattle.lin_proof.specs.Form.{value}
use Rattle.cert_semantics.specs.Paths.{def, first, second, lemma, Path, root, ◌▸◌, form_of, values_along, IsOn}
use Rattle.cert_semantics.specs.Rectangles.{rectangle}
use Rattle.cert_semantics.specs.Laws.{UnitsAreTaken}
use Rattle.cert_semantics.proofs.Sides.{rectangle_is_units}
use Rattle.cert_check.specs.declared.descent.Above.{Above}
use Rattle.cert_semantics.specs.Units.{is_unit}
use Rattle.cert_check.specs.Truths.{is_true_at}
use Rattle.cert_check.specs.steps.Worlds.{first_world}
use Rattle.cert_check.specs.steps.Descent.{path_of}
use Rattle.cert_check.specs.steps.Grids.{place_of, is_outside, is_untrue_if, is_untrue_on, IsPart}
use Rattle.cert_check.specs.Numbers.{are_computed, IsComputed}
use Rattle.cert_check.specs.Truths.{IsTrueOn}
use Rattle.cert_check.specs.Verdicts.{IsFirstUntrue, IsOutside}
use Rattle.cert_check.proofs.Parts.{unit_is_unit_row}
use Rattle.cert_check.proofs.PartSides.{inside_part, part_inside}
use Rattle.cert_check.proofs.Places.{BesidesOn, Says, place_says}
use Rattle.cert_check.proofs.FirstWorlds.{none_passes, first_found}
use Rattle.std.proofs.lemmas.Bool.{not-false, not-true}

-- ---- unit splits and the others

pub on_units : (path : Path) (world : World) → IsOn path world → UnitsAreTaken path world
on_units (root form) world on = tt
on_units (def row d ▸ outer) world on = (tt, on_units outer world on.1)
on_units (first row ▸ outer) world on = (λ unit. on.0, on_units outer world on.1)
on_units (second row ▸ outer) world on = (λ unit. on.0, on_units outer world on.1)
on_units (lemma row ▸ outer) world on = (tt, on_units outer world on.1)

on_besides : (path : Path) (world : World) → IsOn path world → BesidesOn world path
on_besides (root form) world on = tt
on_besides (def row d ▸ outer) world on = on_besides outer world on.1
on_besides (first row ▸ outer) world on = (λ other. on.0, on_besides outer world on.1)
on_besides (second row ▸ outer) world on = (λ other. on.0, on_besides outer world on.1)
on_besides (lemma row ▸ outer) world on = on_besides outer world on.1

by_flag : (b : Bool) (P : Type 0) → (b ≡ true → P) → (b ≡ false → P) → P
by_flag true P f g = f refl
by_flag false P f g = g refl

on_both : (path : Path) (world : World) → UnitsAreTaken path world → BesidesOn world path → IsOn path world
on_both (root form) world units besides = tt
on_both (def row d ▸ outer) world units besides = (tt, on_both outer world units.1 besides)
on_both (first row ▸ outer) world units besides =
    (by_flag (is_unit (form_of outer) row) (pos 0 ≤ℤ value row (values_along world outer)) (λ u. units.0 ((unit_is_unit_row (form_of outer) row).0 u)) besides.0, on_both outer world units.1 besides.1)
on_both (second row ▸ outer) world units besides =
    (by_flag (is_unit (form_of outer) row) (value row (values_along world outer) <ℤ pos 0) (λ u. units.0 ((unit_is_unit_row (form_of outer) row).0 u)) besides.0, on_both outer world units.1 besides.1)
on_both (lemma row ▸ outer) world units besides = (tt, on_both outer world units.1 besides)

-- ---- one world

-- the place of a world, with what it says
record IsPlaced (form : ℕ) (above : List Above) (world : World) (o : Option Bool) : Type 0 where
  pub is : place_of form above world ≡ o
  pub says : Says world (path_of form above) o

placed : (form : ℕ) (above : List Above) (world : World) (o : Option Bool) → place_of form above world ≡ o → IsPlaced form above world o
placed form above world o e = record { is = e; says = subst (Says world (path_of form above)) e (place_says form world above) }

computed_there : (form : ℕ) (above : List Above) (world : World) → is_outside form above world ≡ false → are_computed (path_of form above) world ≡ true
computed_there form above world inside = by_place (place_of form above world) refl inside
  where
    by_place : (o : Option Bool) → place_of form above world ≡ o → is_none o ≡ false → are_computed (path_of form above) world ≡ true
    by_place None e n = absurd (cc)
    by_place (Some true) e n = (placed form above world (Some true) e).says.0
    by_place (Some false) e n = (placed form above world (Some false) e).says.0

outside_there : (form : ℕ) (above : List Above) (world : World) → is_outside form above world ≡ true → are_computed (path_of form above) world ≡ false
outside_there form above world outside = by_place (place_of form above world) refl outside
  where
    by_place : (o : Option Bool) → place_of form above world ≡ o → is_none o ≡ true → are_computed (path_of form above) world ≡ false
    by_place None e n = (placed form above world None e).says
    by_place (Some b) e n = absurd (cc)

-- a world that is on the path, and where all is computed, is placed there
on_is_placed : (form : ℕ) (above : List Above) (world : World) → are_computed (path_of form above) world ≡ true → IsOn (path_of form above) world → place_of form above world ≡ Some true
on_is_placed form above world fits on = by_place (place_of form above world) refl
  where
    apart : (b : Bool) → b ≡ true → b ≡ false → ⊥
    apart true e f = absurd (cc)
    apart false e f = absurd (cc)

    by_place : (o : Option Bool) → place_of form above world ≡ o → o ≡ Some true
    by_place None e = absurd (apart (are_computed (path_of form above) world) fits (placed form above world None e).says)
    by_place (Some true) e = refl
    by_place (Some false) e = absurd ((placed form above world (Some false) e).says.1 (on_besides (path_of form above) world on))

true_there : (job : Job) (above : List Above) (world : World) → place_of job.form above world ≡ Some true → is_untrue_on job above world ≡ false → is_true_at job world ≡ true
true_there job above world at passed = not-false (is_true_at job world) (ap (is_untrue_if job world) (sym at) ∙ passed)

-- a world that is found is on the path besides its unit splits, and the formula is false there
record IsUntrueThere (job : Job) (above : List Above) (world : World) : Type 0 where
  pub on : BesidesOn world (path_of job.form above)
  pub untrue : is_true_at job world ≡ false

false_there : (job : Job) (above : List Above) (world : World) → is_untrue_on job above world ≡ true → IsUntrueThere job above world
false_there job above world found = by_place (place_of job.form above world) refl found
  where
    by_place : (o : Option Bool) → place_of job.form above world ≡ o → is_untrue_if job world o ≡ true → IsUntrueThere job above world
    by_place None e n = absurd (cc)
    by_place (Some false) e n = absurd (cc)
    by_place (Some true) e n = record { on = (placed job.form above world (Some true) e).says.1; untrue = not-true (is_true_at job world) n }

-- ---- all worlds of a part

module _ (job : Job) (above : List Above) (r : Rect) (part : IsPart (Some r) (rectangle job.range (path_of job.form above))) where
  in_part : (world : World) → IsInRange job.range world → IsOn (path_of job.form above) world → IsInRange r world
  in_part world in_range on =
      inside_part r (rectangle job.range (path_of job.form above)) part world ((rectangle_is_units job.range (path_of job.form above) world).1 (in_range, on_units (path_of job.form above) world on))

  pub all_computed : first_world (is_outside job.form above) r ≡ None → IsComputed job.range (path_of job.form above)
  all_computed none world inside =
      computed_there job.form above world (none_passes (is_outside job.form above) r none world (inside_part r (rectangle job.range (path_of job.form above)) part world inside))

  pub one_outside : (world : World) → first_world (is_outside job.form above) r ≡ Some world → IsOutside job.range (path_of job.form above)
  one_outside world some =
      let found = first_found (is_outside job.form above) r world some in
      record {
        world = world;
        inside = part_inside r (rectangle job.range (path_of job.form above)) part world found.in_rectangle;
        outside = outside_there job.form above world found.passes;
      }

  module _ (fits : IsComputed job.range (path_of job.form above)) where
    at_place : (world : World) → IsInRange job.range world → IsOn (path_of job.form above) world → place_of job.form above world ≡ Some true
    at_place world in_range on =
        on_is_placed job.form above world (fits world ((rectangle_is_units job.range (path_of job.form above) world).1 (in_range, on_units (path_of job.form above) world on))) on

    pub all_true : first_world (is_untrue_on job above) r ≡ None → IsTrueOn job (path_of job.form above)
    all_true none world in_range on =
        true_there job above world (at_place world in_range on) (none_passes (is_untrue_on job above) r none world (in_part world in_range on))

    pub first_false : (world : World) → first_world (is_untrue_on job above) r ≡ Some world → IsFirstUntrue job (path_of job.form above) world
    first_false world some =
        let found = first_found (is_untrue_on job above) r world some in
        let at = false_there job above world found.passes in
        let units = (rectangle_is_units job.range (path_of job.form above) world).0 (part_inside r (rectangle job.range (path_of job.form above)) part world found.in_rectangle) in
        record {
          in_range = units.0;
          on_path = on_both (path_of job.form above) world units.1 at.on;
          untrue = at.untrue;
          first = λ other before in_range on. true_there job above other (at_place other in_range on) (found.first other before (in_part other in_range on));
        }
