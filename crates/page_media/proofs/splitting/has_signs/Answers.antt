use Rattle.page_media.proofs.Walks.{uneven}
use Rattle.page_media.proofs.splitting.has_signs.Goals as goal

pub returns-then-features-signs : goal.returns-then-features-signs
returns-then-features-signs c = uneven c.args.features.now c.args.signs.now c.args.w c.args.s c.if-features-signs.true
