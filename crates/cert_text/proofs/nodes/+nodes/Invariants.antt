use Rattle.std.proofs.Common.{◌+◌, ◌*◌}
use Rattle.cert_text.proofs.nodes.+nodes.Given as goal

abbrev pub decreases-read_node : goal.decreases-read_node
decreases-read_node l = 2 * l.levels + 1

abbrev pub decreases-read_below : goal.decreases-read_below
decreases-read_below l = 2 * l.levels
