use Rattle.std.proofs.Common.{map}
use Rattle.css_cascade.specs.steps.Trimming.{rules_of}
use Rattle.css_cascade.proofs.Walks.{ReachedNodes}
use Rattle.css_cascade.proofs.cascading.cascade_nodes.Given as goal

abbrev pub invariant-loop-at : goal.invariant-loop-at
invariant-loop-at l = ReachedNodes l.page.nodes (map rules_of l.rulesets) l.at l.standings.items l.winners
