use Rattle.std.proofs.Common.{◌≡◌, ◌+◌, ◌++◌, drop, take, length}
use Rattle.lin_proof.specs.Derivations.{run_steps}
use Rattle.lin_proof.proofs.steps.run.Given as goal

abbrev pub invariant-loop-step : goal.invariant-loop-step
invariant-loop-step l =
    let facts = l.facts.first.now ++ l.facts.later.now in
    record {
      rest : run_steps facts l.known l.line (drop l.step-index l.steps) ≡ run_steps facts l.fn.known l.fn.line l.steps;
      kept : take (length l.fn.known) l.known ≡ l.fn.known;
      lines : l.line ≡ l.fn.line + l.step-index;
    }
