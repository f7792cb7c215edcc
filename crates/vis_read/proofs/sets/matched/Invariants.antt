use Rattle.std.proofs.Common.{map}
use Rattle.css_semantics.specs.Spelled.{spelled}
use Rattle.vis_read.specs.Tokens.{AreMatched}
use Rattle.vis_read.proofs.sets.matched.Given as goal

abbrev pub invariant-loop-node : goal.invariant-loop-node
invariant-loop-node l = AreMatched l.page.nodes (map spelled l.group) l.node l.found
