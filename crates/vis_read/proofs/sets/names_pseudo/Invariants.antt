use Rattle.std.proofs.Common.{◌≡◌, drop, map}
use Rattle.css_semantics.specs.Spelled.{spelled}
use Rattle.vis_read.specs.Tokens.{names_pseudo}
use Rattle.vis_read.proofs.sets.names_pseudo.Given as goal

abbrev pub invariant-loop-selector : goal.invariant-loop-selector
invariant-loop-selector l = names_pseudo (map spelled (drop l.selector-index l.group)) ≡ names_pseudo (map spelled l.group)
