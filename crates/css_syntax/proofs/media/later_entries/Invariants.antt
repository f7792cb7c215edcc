use Rattle.std.proofs.Common.{length, ◌-◌, ◌≡◌, drop}
use Rattle.css_semantics.specs.steps.MediaLists.{later_entries}
use Rattle.css_syntax.specs.Lists.{joined}
use Rattle.css_syntax.proofs.media.later_entries.Given as goal

abbrev pub invariant-loop-at : goal.invariant-loop-at
invariant-loop-at l = joined l.list (later_entries (drop l.at l.tokens)) ≡ joined l.fn.list (later_entries l.tokens)

abbrev pub decreases-loop-at : goal.decreases-loop-at
decreases-loop-at l = length l.tokens - l.at
