-- Floors: rows divided by numbers and rounded down, each named by a variable.
use Rattle.std.specs.Prelude.{ℕ, ◌+◌, ℤ, pos, negsuc, ◌-ℤ◌, Bool, ◌&&◌, List, [], ◌∷◌, ◌++◌}
use Rattle.std.specs.Ordering.{int_eq}
use Rattle.viz_base.specs.declared.worlds.World.{World}
use Rattle.cert_semantics.specs.Axes.{axis_count}
use Rattle.cert_semantics.specs.Paths.{def, first, second, lemma, Path as Steps, root, ◌▸◌, with_floor, values_at}
use Rattle.lin_proof.specs.Form.{plus, form_fits}
use Rattle.cert_semantics.specs.Facts.{row_of}
use Rattle.cert_semantics.specs.Shapes.{same_row}
use Rattle.sym_calc.specs.declared.floors.Floor.{Floor}

-- whether two floors are of the same row by the same number
abbrev pub same_floor : Floor → Floor → Bool
same_floor f g = same_row f.row g.row && int_eq f.by g.by

-- whether the numbers of a floor's two facts are in `i128`, the floor being the variable x
abbrev pub floor_fits : ℕ → Floor → Bool
floor_fits x f = form_fits (plus f.row (negsuc 0) (row_of (pos 0) f.by x))
    && form_fits (plus (row_of (f.by -ℤ pos 1) f.by x) (negsuc 0) f.row)

-- the values v, and for the variables from x on those of the floors, one after another
abbrev pub with_floors : List Floor → ℕ → (ℕ → ℤ) → ℕ → ℤ
with_floors [] x v = v
with_floors (f ∷ fs) x v = with_floors fs (x + 1) (with_floor f.row f.by v x)

-- what the variables are at a world: the numbers on the axes, and then the floors
abbrev pub values_by : ℕ → List Floor → World → ℕ → ℤ
values_by form floors world = with_floors floors (axis_count form) (values_at form world)

-- the floors that the defs of a path name, in the order of their variables
abbrev pub floors_of : Steps → List Floor
floors_of (root form) = []
floors_of (def row d ▸ outer) = floors_of outer ++ record { row = row; by = d } ∷ []
floors_of (first row ▸ outer) = floors_of outer
floors_of (second row ▸ outer) = floors_of outer
floors_of (lemma row ▸ outer) = floors_of outer
