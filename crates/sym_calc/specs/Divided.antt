-- Rows divided by a number d above 0 and rounded down, over floors that are named.
use Rattle.std.specs.Prelude.{ℕ, ◌+◌, ℤ, pos, Bool, true, ◌&&◌, ◌||◌, List, [], length, if◌then◌else◌}
use Rattle.std.specs.List.{list_any, position_or_len}
use Rattle.lin_proof.specs.Form.{Form, form_fits, plus}
use Rattle.lin_proof.specs.Derivations.{are_declared}
use Rattle.cert_semantics.specs.Axes.{axis_count}
use Rattle.cert_semantics.specs.Facts.{row_of}
use Rattle.cert_semantics.specs.Shapes.{has_variable}
use Rattle.sym_calc.specs.declared.floors.Floor.{Floor}
use Rattle.sym_calc.specs.Division.{quotient, remainder}
use Rattle.sym_calc.specs.Floors.{same_floor, floor_fits}

-- the variable of a floor: that of the same one among those that are named, or the next
abbrev pub floor_variable : ℕ → List Floor → Floor → ℕ
floor_variable form named f = position_or_len (same_floor f) named + axis_count form

-- whether a floor can be the variable x: it has variables before x alone, and its two facts have numbers in `i128`
abbrev pub can_be : ℕ → Floor → Bool
can_be x f = are_declared x f.row.terms && floor_fits x f

-- whether a floor has a variable, or can be the next
abbrev pub is_floor : ℕ → List Floor → Floor → Bool
is_floor form named f = list_any (same_floor f) named || can_be (length named + axis_count form) f

-- what is left of a row, divided and rounded down
abbrev pub rest_by : ℤ → Form → Floor
rest_by d row = record { row = remainder d row; by = d }

-- the quotient and the floor of what is left
abbrev pub with_rest : ℕ → List Floor → ℤ → Form → Form
with_rest form named d row =
    plus (quotient d row) (pos 1) (row_of (pos 0) (pos 1) (floor_variable form named (rest_by d row)))

-- a row divided and rounded down: the quotient alone where no variable is left
abbrev pub divided : ℕ → List Floor → ℤ → Form → Form
divided form named d row = if has_variable (remainder d row) then with_rest form named d row else quotient d row

-- whether its numbers are in `i128`, and the floor of what is left has a variable or can be the next
abbrev pub division_fits : ℕ → List Floor → ℤ → Form → Bool
division_fits form named d row =
    if has_variable (remainder d row) then is_floor form named (rest_by d row) && form_fits (with_rest form named d row)
    else true

-- a row times a number
abbrev pub multiple : ℤ → Form → Form
multiple n row = plus (record { k = pos 0; terms = [] }) n row
