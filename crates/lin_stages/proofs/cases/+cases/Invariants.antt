use Rattle.std.proofs.Common.{◌+◌, ◌*◌}
use Rattle.lin_stages.proofs.cases.+cases.Given as goal

abbrev pub decreases-by_cases : goal.decreases-by_cases
decreases-by_cases l = 5 * l.depth

abbrev pub decreases-halved : goal.decreases-halved
decreases-halved l = 5 * l.depth + 4

abbrev pub decreases-both_halves : goal.decreases-both_halves
decreases-both_halves l = 5 * l.depth + 3

abbrev pub decreases-other_half : goal.decreases-other_half
decreases-other_half l = 5 * l.depth + 2

abbrev pub decreases-in_case : goal.decreases-in_case
decreases-in_case l = 5 * l.depth + 1
