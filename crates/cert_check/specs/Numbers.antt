-- The numbers that a grid's path comes to at a world, all of them in `i128`.
use Rattle.std.specs.Prelude.{ℕ, ℤ, ◌+ℤ◌, ◌*ℤ◌, Bool, true, ◌&&◌, ◌||◌, IsTrue, [], ◌∷◌, Option, Some, None, is_some, if◌then◌else◌, option_and_then}
use Rattle.viz_base.specs.declared.worlds.World.{World}
use Rattle.viz_base.specs.declared.worlds.Rect.{Rect}
use Rattle.lin_proof.specs.Form.{Form, Terms}
use Rattle.lin_proof.specs.Number.{in_i128}
use Rattle.cert_semantics.specs.Paths.{def, first, second, lemma, Path, root, ◌▸◌, form_of, values_along}
use Rattle.cert_semantics.specs.Rectangles.{rectangle}
use Rattle.cert_semantics.specs.Laws.{IsInside}
use Rattle.cert_semantics.specs.Units.{is_unit}

abbrev pub checked : ℤ → Option ℤ
checked z = if in_i128 z then Some z else None

-- a sum and one term more, the product and the sum in `i128`
abbrev pub add_term : ℤ → ℕ × ℤ → (ℕ → ℤ) → Option ℤ
add_term sum t v = option_and_then (λ product. checked (sum +ℤ product)) (checked (t.1 *ℤ v t.0))

-- a sum that goes on with the terms one after another
abbrev pub sum_on : ℤ → Terms → (ℕ → ℤ) → Option ℤ
sum_on sum [] v = Some sum
sum_on sum (t ∷ ts) v = option_and_then (λ next. sum_on next ts v) (add_term sum t v)

abbrev pub computed : Form → (ℕ → ℤ) → Option ℤ
computed row v = sum_on row.k row.terms v

-- whether the rows of the defs on a path, and of the splits that are no unit splits, are computed so at a world; those
-- of lemmas are computed at none
abbrev pub are_computed : Path → World → Bool
are_computed (root form) world = true
are_computed (def row d ▸ outer) world = are_computed outer world && is_some (computed row (values_along world outer))
are_computed (first row ▸ outer) world = are_computed outer world
    && (is_unit (form_of outer) row || is_some (computed row (values_along world outer)))
are_computed (second row ▸ outer) world = are_computed outer world
    && (is_unit (form_of outer) row || is_some (computed row (values_along world outer)))
are_computed (lemma row ▸ outer) world = are_computed outer world

-- at each world of the path's rectangle they are
abbrev pub IsComputed : Rect → Path → Type 0
IsComputed range path = (world : World) → IsInside (rectangle range path) world → IsTrue (are_computed path world)
