-- What a symbolic calc knows: facts, each a row that is at least 0, and floors.
use Rattle.std.specs.Prelude.{◌≡◌, ℕ, ◌+◌, ◌*◌, ◌<◌, ◌==◌, ◌^◌, ℤ, pos, Bool, true, false, ◌&&◌, ◌||◌, IsTrue, List, [], length, Some, slice_get, if◌then◌else◌}
use Rattle.std.specs.List.{list_all}
use Rattle.std.specs.Ordering.{int_eq}
use Rattle.std.specs.Int.{int_div_euclid}
use Rattle.std.specs.Int.RustNames.{int_le}
use Rattle.viz_base.specs.declared.worlds.World.{World}
use Rattle.viz_base.specs.declared.worlds.Axis.TheVariants.{Height}
use Rattle.viz_base.specs.Worlds.{along}
use Rattle.viz_calc.specs.World.{Reading}
use Rattle.viz_calc.specs.State.{State}
use Rattle.lin_proof.specs.Form.{Form, value, denied}
use Rattle.cert_semantics.specs.Axes.{variable_of, axes, axis_count}
use Rattle.cert_semantics.specs.Facts.{row_of}
use Rattle.sym_calc.specs.declared.floors.Floor.{Floor}
use Rattle.sym_calc.specs.declared.paths.Origin.{Origin}
use Rattle.sym_calc.specs.Floors.{values_by}

-- what a number is at a reading, whose terms are the values of all variables
abbrev pub number_at : Form → Reading → ℤ
number_at n e = value n e.terms

-- ---- worlds

-- in form 1 a world has the one height of the viewport
abbrev pub has_height : Origin → World → Bool
has_height origin world = origin.form == 2 || world.h == origin.height

-- the variables of the axes have the world's numbers
abbrev pub has_numbers : ℕ → World → (ℕ → ℤ) → Bool
has_numbers form world v = list_all (λ axis. int_eq (v (variable_of axis)) (pos (along axis world))) (axes form)

-- the values are those at a world
abbrev pub is_at : Origin → World → (ℕ → ℤ) → Bool
is_at origin world v = has_height origin world && has_numbers origin.form world v

-- the row of the viewport's height, in 1/64 px: 64 times its variable, or in form 1 the one number
abbrev pub height_row : Origin → Form
height_row origin =
    if origin.form == 2 then row_of (pos 0) (pos 64) (variable_of Height)
    else record { k = pos (64 * origin.height); terms = [] }

-- ---- facts

-- whether each fact is at least 0
abbrev pub are_met : List Form → (ℕ → ℤ) → Bool
are_met facts v = list_all (λ f. int_le (pos 0) (value f v)) facts

-- the values of the reading are those at its world, and meet the facts
abbrev pub is_open : Origin → List Form → Reading → Bool
is_open origin facts e = is_at origin e.world e.terms && are_met facts e.terms

-- the world's values, with those of the floors, meet the facts
abbrev pub is_kept : Origin → List Form → List Floor → World → Bool
is_kept origin facts floors world = has_height origin world && are_met facts (values_by origin.form floors world)

-- Kept worlds stay open whatever is counted, so the count from which they are kept may be a number that tells what the
-- calc is over.
abbrev pub sym_state : Origin → ℕ → List Form → List Floor → ℕ → ℕ → State
sym_state origin tag facts floors coeffs opens = record {
  is_open = is_open origin facts;
  lean = false;
  coeffs = coeffs;
  opens = opens;
  kept = record { worlds = is_kept origin facts floors; coeffs = tag; opens = 0 };
}

-- The facts name no variable from n on, and say of each floor what it is.
pub record AreKnown (form : ℕ) (facts : List Form) (named : List Floor) : Type 0 where
  pub few : length named + axis_count form < 2 ^ 32
  pub declared : (v w : ℕ → ℤ) → ((x : ℕ) → x < length named + axis_count form → v x ≡ w x)
      → are_met facts v ≡ are_met facts w
  pub floors : (v : ℕ → ℤ) → IsTrue (are_met facts v) → (n : ℕ) (f : Floor) → slice_get named n ≡ Some f
      → v (n + axis_count form) ≡ int_div_euclid (value f.row v) f.by

-- what is at least 0 where an answer on a row is wrong: for a `yes` the row's denial, and for a `no` the row
abbrev pub contrary : Bool → Form → Form
contrary true row = denied row
contrary false row = row
