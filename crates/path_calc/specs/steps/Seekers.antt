use Rattle.std.specs.Prelude.{ℕ, ℤ, pos, false}
use Rattle.viz_calc.specs.World.{Reading}
use Rattle.viz_calc.specs.State.{State}
use Rattle.path_calc.specs.declared.numbers.Number.{Number}

-- no reading is open, and no world is kept
abbrev pub seeker_state : ℕ → ℕ → State
seeker_state coeffs opens = record {
  is_open = λ _. false;
  lean = false;
  coeffs = coeffs;
  opens = opens;
  kept = record { worlds = λ _. false; coeffs = 0; opens = 0 };
}

-- what a number is at a reading: none is open, so any value serves
abbrev pub number_at : Number → Reading → ℤ
number_at _ _ = pos 0
