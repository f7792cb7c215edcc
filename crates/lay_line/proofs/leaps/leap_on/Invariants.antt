use Rattle.std.proofs.Common.{length}
use Rattle.lay_line.specs.Items.{bare_of}
use Rattle.lay_line.specs.steps.Leaping.{is_plain}
use Rattle.lay_line.proofs.AtOnce.{Led}
use Rattle.lay_line.proofs.leaps.leap_on.Given as goal

abbrev pub invariant-loop-next : goal.invariant-loop-next
invariant-loop-next g l =
    Led (λ ps. is_plain (bare_of ps)) l.initial.rest.pieces.now l.initial.rest.marks.now l.rest.pieces.now l.rest.marks.now l.count l.most

abbrev pub decreases-loop-next : goal.decreases-loop-next
decreases-loop-next g l = length l.rest.pieces.now
