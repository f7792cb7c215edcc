use Rattle.std.proofs.Common.{◌≡◌, ◌+ℤ◌, drop}
use Rattle.lin_proof.specs.Form.{terms_value, value}
use Rattle.lin_search.specs.Answers.{at_point}
use Rattle.lin_search.proofs.points.value_at.Given as goal

abbrev pub invariant-loop-term : goal.invariant-loop-term
invariant-loop-term l =
    let v = at_point l.values in
    l.sum +ℤ terms_value (drop l.term-index l.term-items) v ≡ value l.row v
