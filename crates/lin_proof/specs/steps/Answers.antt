-- What the faults of a check say of its answer.
use Rattle.std.specs.Prelude.{ℕ, Option, Some, None}
use Rattle.lin_proof.specs.declared.steps.Fault.{Fault}
use Rattle.lin_proof.specs.declared.steps.Fault.TheVariants.{Mem, Line}

-- the line that a fault calls wrong; want of memory calls none so
abbrev pub wrong_line : Fault → Option ℕ
wrong_line Mem = None
wrong_line (Line line) = Some line
