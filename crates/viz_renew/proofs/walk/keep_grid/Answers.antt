use Rattle.std.proofs.lemmas.Result.{IfOk-weaker}
use Rattle.viz_renew.proofs.walk.keep_grid.Goals as goal

pub is_good_grid-requires : goal.is_good_grid-requires
is_good_grid-requires c = record { part = c.requires.1.part; within = c.requires.1.within }

pub returns : goal.returns
returns c = IfOk-weaker c.with_grid.result _ _ (λ next h. (c.in_ok-good.good, h, c.in_ok-good.ensures)) c.with_grid.ensures
