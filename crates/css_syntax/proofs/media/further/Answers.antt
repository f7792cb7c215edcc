use Rattle.std.proofs.Common.{◌∙◌}
use Rattle.css_syntax.proofs.MediaSteps.{further_turn}
use Rattle.css_syntax.proofs.media.further.Goals as goal

pub loop-rest-preserved : goal.loop-rest-preserved
loop-rest-preserved c = further_turn c.loop-rest.rest.now c.in-Some.after.now c.in-Some.feature c.loop-rest.features _ c.in-Some.ensures c.in_ok-push.ensures.ok ∙ c.loop-rest.invariant
