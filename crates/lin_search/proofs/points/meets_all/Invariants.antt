use Rattle.std.proofs.Common.{◌≡◌, ◌<◌, ℕ, Some, pos, ◌≤ℤ◌}
use Rattle.std.specs.Prelude.{slice_get}
use Rattle.lin_proof.specs.Form.{Form, value}
use Rattle.lin_search.specs.Answers.{at_point}
use Rattle.lin_search.proofs.points.meets_all.Given as goal

abbrev pub invariant-loop-fact : goal.invariant-loop-fact
invariant-loop-fact l = (k : ℕ) (f : Form) → k < l.fact-index → slice_get l.facts k ≡ Some f → pos 0 ≤ℤ value f (at_point l.values)
