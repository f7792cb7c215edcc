use Rattle.css_cascade.proofs.Deciding.{TrimmedTo}
use Rattle.css_cascade.proofs.trimming.trim.Given as goal

abbrev pub invariant-loop-rules : goal.invariant-loop-rules
invariant-loop-rules l = TrimmedTo l.rulesets l.rules-index l.all.items
