use Rattle.css_cascade.proofs.Reaching.{ReachedSheets}
use Rattle.css_cascade.proofs.reading.read_rulesets.Given as goal

abbrev pub invariant-loop-at : goal.invariant-loop-at
invariant-loop-at l = ReachedSheets l.which l.texts l.sheets l.at l.rulesets.items
