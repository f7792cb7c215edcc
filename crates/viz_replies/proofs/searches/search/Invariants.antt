use Rattle.std.proofs.Common.{length, take}
use Rattle.viz_replies.specs.Replies.{AreProofs, part_most}
use Rattle.viz_replies.proofs.searches.search.Given as goal

abbrev pub invariant-loop-job : goal.invariant-loop-job
invariant-loop-job l = AreProofs l.turns (part_most (length l.jobs)) (take l.job-index l.jobs) l.texts.items
