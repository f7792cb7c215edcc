use Rattle.page_media.proofs.GuardTruths.{guarded-true}
use Rattle.page_media.proofs.laws.guarded_is_if.Goals as goal

pub returns : goal.returns
returns c = guarded-true
