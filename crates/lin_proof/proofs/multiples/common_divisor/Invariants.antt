use Rattle.std.proofs.Common.{ℕ, ◌*◌}
use Rattle.lin_proof.specs.Multiples.{Divides}
use Rattle.lin_proof.proofs.multiples.common_divisor.Given as goal

abbrev pub invariant-loop-low : goal.invariant-loop-low
invariant-loop-low l = record {
  divides : (d : ℕ) → Divides d l.high → Divides d l.low → Divides d l.fn.a × Divides d l.fn.b;
  lifts : (n k : ℕ) → Divides n (k * l.fn.a) → Divides n (k * l.fn.b) → Divides n (k * l.high) × Divides n (k * l.low);
}

abbrev pub decreases-loop-low : goal.decreases-loop-low
decreases-loop-low l = l.low
