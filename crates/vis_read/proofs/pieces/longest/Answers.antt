use Rattle.std.proofs.Common.{◌∷◌, MatchOption, subst, sym}
use Rattle.vis_read.specs.Pieces.{BeginsWithNone}
use Rattle.vis_read.specs.steps.Next.{IsCut}
use Rattle.vis_read.proofs.Munch.{munch}
use Rattle.vis_read.proofs.pieces.longest.Goals as goal

pub returns : goal.returns
returns c =
    let text = c.args.first ∷ c.args.bytes.now in
    subst (λ x. MatchOption x (BeginsWithNone text) (IsCut text)) (sym c.piece_at.ensures) (munch c.args.first c.args.bytes.now)
