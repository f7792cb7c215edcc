use Rattle.std.proofs.Common.{ℕ, List, [], length, Result}
use Rattle.viz_tables.specs.declared.rules.Rule.{Rule}
use Rattle.viz_tables.specs.Lists.{Reads}
use Rattle.viz_tables.proofs.lists.read_list.Given as goal

abbrev pub invariant-loop-rules : goal.invariant-loop-rules
invariant-loop-rules l = (answer : Result (List Rule) ℕ) → Reads l.rules l.rest answer → Reads [] l.bytes answer

abbrev pub decreases-loop-rules : goal.decreases-loop-rules
decreases-loop-rules l = length l.rest
