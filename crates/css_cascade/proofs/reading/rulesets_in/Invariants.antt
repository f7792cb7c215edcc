use Rattle.css_semantics.specs.CascadeReading.{IsRuleset}
use Rattle.css_cascade.proofs.Reaching.{Reached}
use Rattle.css_cascade.proofs.reading.rulesets_in.Given as goal

abbrev pub invariant-loop-rule : goal.invariant-loop-rule
invariant-loop-rule l = Reached (IsRuleset l.which l.sheet.origin l.sheet.text.now) l.rules l.rule-index l.rulesets.items
