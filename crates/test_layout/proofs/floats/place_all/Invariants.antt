use Rattle.viz_calc.specs.Plain.{plain_state}
use Rattle.lay_float.specs.Agreement.{Agree}
use Rattle.test_layout.proofs.floats.place_all.Given as goal

abbrev pub invariant-loop-value : goal.invariant-loop-value
invariant-loop-value l = Agree (λ n e. n) (plain_state l.calc.world).is_open l.floats
