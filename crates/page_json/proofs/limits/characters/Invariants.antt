use Rattle.std.proofs.Common.{◌≡◌, take}
use Rattle.page_json.specs.Jobs.{characters}
use Rattle.page_json.proofs.limits.characters.Given as goal

abbrev pub invariant-loop-node : goal.invariant-loop-node
invariant-loop-node l = l.total ≡ characters (take l.node-index l.nodes)
