use Rattle.std.proofs.Common.{◌+◌, ◌*◌}
use Rattle.cert_text.proofs.read.+derivations.Given as goal

abbrev pub decreases-read_derivation : goal.decreases-read_derivation
decreases-read_derivation l = 2 * l.cases

abbrev pub decreases-read_cases : goal.decreases-read_cases
decreases-read_cases l = 2 * l.cases + 1
