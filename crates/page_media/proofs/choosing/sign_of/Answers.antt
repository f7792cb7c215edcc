use Rattle.std.proofs.Common.{◌∙◌, sym, arith}
use Rattle.page_media.proofs.Walks.{sign-end, sign-next}
use Rattle.page_media.proofs.choosing.sign_of.Goals as goal

pub loop-at-preserved : goal.loop-at-preserved
loop-at-preserved c =
    sign-next c.args.features.now c.args.signs.now c.args.feature.now _ c.loop-at.at (omega arith) (omega arith) (sym c.if-same_feature.ensures) ∙ c.loop-at.invariant

pub returns : goal.returns
returns c = sym (sign-end c.args.features.now c.args.signs.now c.args.feature.now c.loop-at.at (omega arith)) ∙ c.loop-at.invariant
