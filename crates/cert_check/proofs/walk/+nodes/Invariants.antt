use Rattle.std.proofs.Common.{◌+◌, ◌*◌}
use Rattle.cert_text.specs.Nodes.{node_count}
use Rattle.cert_check.proofs.walk.+nodes.Given as goal

abbrev pub decreases-check_node : goal.decreases-check_node
decreases-check_node l = 3 * node_count l.node.now

abbrev pub decreases-check_below : goal.decreases-check_below
decreases-check_below l = 3 * node_count l.node.now + 1

abbrev pub decreases-check_under : goal.decreases-check_under
decreases-check_under l = 3 * node_count l.node.now + 1

abbrev pub decreases-check_parts : goal.decreases-check_parts
decreases-check_parts l = 3 * (node_count l.one.now + node_count l.other.now) + 2

abbrev pub decreases-check_first : goal.decreases-check_first
decreases-check_first l = 3 * node_count l.node.now + 1

abbrev pub decreases-check_second : goal.decreases-check_second
decreases-check_second l = 3 * node_count l.node.now + 1
