use Rattle.viz_calc.specs.Plain.{plain_state}
use Rattle.lay_float.specs.Agreement.{Agree}
use Rattle.test_calls.proofs.float_counts.asks_little_beside_stairs.Given as goal

abbrev pub invariant-loop-before : goal.invariant-loop-before
invariant-loop-before g l = Agree (λ n e. n) (plain_state l.calc.plain.world).is_open l.floats
