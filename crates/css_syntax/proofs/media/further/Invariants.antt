use Rattle.std.proofs.Common.{length, ◌≡◌}
use Rattle.css_semantics.specs.steps.MediaLists.{further, with_front}
use Rattle.css_syntax.proofs.media.further.Given as goal

abbrev pub invariant-loop-rest : goal.invariant-loop-rest
invariant-loop-rest l = with_front l.features (further l.rest) ≡ with_front l.fn.features (further l.pieces)

abbrev pub decreases-loop-rest : goal.decreases-loop-rest
decreases-loop-rest l = length l.rest
