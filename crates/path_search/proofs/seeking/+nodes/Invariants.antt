use Rattle.std.proofs.Common.{◌+◌, ◌*◌, ◌≤◌}
use Rattle.path_search.proofs.seeking.+nodes.Given as goal

abbrev pub decreases-below_floors : goal.decreases-below_floors
decreases-below_floors l = 8 * l.place.now.turns + 4

abbrev pub decreases-branch : goal.decreases-branch
decreases-branch l = 8 * l.place.now.turns + 2

abbrev pub decreases-define : goal.decreases-define
decreases-define l = 8 * l.place.now.turns + 5

abbrev pub decreases-explore : goal.decreases-explore
decreases-explore l = 8 * l.place.now.turns

abbrev pub decreases-halve : goal.decreases-halve
decreases-halve l = 8 * l.place.now.turns + 4

abbrev pub decreases-open : goal.decreases-open
decreases-open l = 8 * l.place.now.turns + 6

abbrev pub decreases-side : goal.decreases-side
decreases-side l = 8 * l.place.now.turns + 1

abbrev pub decreases-split : goal.decreases-split
decreases-split l = 8 * l.place.now.turns + 3

abbrev pub invariant-below_floors-loop-floor : goal.invariant-below_floors-loop-floor
invariant-below_floors-loop-floor l = l.place.turns ≤ l.fn.place.turns
