use Rattle.std.proofs.Common.{◌≡◌, drop}
use Rattle.css_select.specs.steps.Machine.{initial, run, state_of}
use Rattle.css_select.proofs.read.run.Given as goal

abbrev pub invariant-loop-token : goal.invariant-loop-token
invariant-loop-token l = run (state_of l.reading) (drop l.token-index l.tokens) ≡ run initial l.tokens
