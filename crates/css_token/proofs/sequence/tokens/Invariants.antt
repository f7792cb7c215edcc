use Rattle.std.proofs.Common.{length, ◌-◌}
use Rattle.std.specs.Str.{IsCharBoundary}
use Rattle.css_token.proofs.SequenceLemmas.{Goes}
use Rattle.css_token.proofs.sequence.tokens.Given as goal

abbrev pub invariant-loop-token : goal.invariant-loop-token
invariant-loop-token l = IsCharBoundary l.text l.at × Goes l.text l.found l.at

abbrev pub decreases-loop-token : goal.decreases-loop-token
decreases-loop-token l = length l.text - l.at
