use Rattle.std.proofs.Common.{◌≡◌}
use Rattle.vis_read.specs.steps.Machine.{initial}
use Rattle.vis_read.specs.steps.Verdicts.{run}
use Rattle.vis_read.proofs.read.run.Given as goal

abbrev pub invariant-loop-token : goal.invariant-loop-token
invariant-loop-token l = run l.reading l.token-iterator.rest.items ≡ run initial l.fn.tokens
