use Rattle.std.proofs.Common.{length, take}
use Rattle.viz_replies.specs.Replies.{AreProofs, part_most}
use Rattle.viz_renew.specs.Renewals.{unbounded}
use Rattle.viz_renew.proofs.parts.renew.Given as goal

abbrev pub invariant-loop-at : goal.invariant-loop-at
invariant-loop-at l = AreProofs unbounded (part_most (length l.jobs)) (take l.at l.jobs) l.texts.items
