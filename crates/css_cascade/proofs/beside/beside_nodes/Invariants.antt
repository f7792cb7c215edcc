use Rattle.std.proofs.Common.{map}
use Rattle.css_cascade.specs.steps.Beside.{AreBesideTo}
use Rattle.css_cascade.specs.steps.Trimming.{rules_of}
use Rattle.css_cascade.proofs.beside.beside_nodes.Given as goal

abbrev pub invariant-loop-at : goal.invariant-loop-at
invariant-loop-at l = AreBesideTo l.page.nodes (map rules_of l.rulesets) l.at l.winners l.refused.items
