use Rattle.cert_check.proofs.Bounded.{rendering_bounded}
use Rattle.viz_replies.proofs.violations.violation.Goals as goal

pub violation_by-reply-requires : goal.violation_by-reply-requires
violation_by-reply-requires c = record { bounded = rendering_bounded c.in_ok-rendering.rendering c.in_ok-rendering.ensures.low }

pub returns : goal.returns
returns c = rw c.in_ok-rendering.ensures.value at c.violation_by-reply.ensures
