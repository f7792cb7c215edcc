use Rattle.std.proofs.Common.{refl, ◌∙◌}
use Rattle.viz_replies.proofs.LineLemmas.{refusal_parts}
use Rattle.viz_replies.proofs.refusals.refusal.Goals as goal

pub returns : goal.returns
returns c =
    let other = c.in_ok-pushed.ensures.0 in
    let parts = rw c.new-output.ensures.items at c.in_ok-pushed.ensures.1 in
    (other, refl, parts ∙ refusal_parts c.args.fault other)
