use Rattle.std.proofs.Common.{◌+◌, ◌*◌}
use Rattle.cert_text.specs.Nodes.{node_count}
use Rattle.viz_renew.proofs.walk.+nodes.Given as goal

abbrev pub decreases-keep_node : goal.decreases-keep_node
decreases-keep_node l = 4 * node_count l.node.now

abbrev pub decreases-keep_def : goal.decreases-keep_def
decreases-keep_def l = 4 * node_count l.node.now + 1

abbrev pub decreases-keep_lemma : goal.decreases-keep_lemma
decreases-keep_lemma l = 4 * node_count l.node.now + 2

abbrev pub decreases-keep_under : goal.decreases-keep_under
decreases-keep_under l = 4 * node_count l.node.now + 1

abbrev pub decreases-keep_split : goal.decreases-keep_split
decreases-keep_split l = 4 * (node_count l.one.now + node_count l.other.now) + 2

abbrev pub decreases-keep_first : goal.decreases-keep_first
decreases-keep_first l = 4 * node_count l.node.now + 1

abbrev pub decreases-keep_second : goal.decreases-keep_second
decreases-keep_second l = 4 * node_count l.node.now + 1
