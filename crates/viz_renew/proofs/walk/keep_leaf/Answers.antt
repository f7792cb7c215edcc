use Rattle.std.proofs.Common.{arith}
use Rattle.std.proofs.lemmas.Result.{IfOk-weaker}
use Rattle.viz_renew.proofs.walk.keep_leaf.Goals as goal

pub is_good_leaf-requires : goal.is_good_leaf-requires
is_good_leaf-requires c = let few = c.requires.1.few in omega arith

pub returns : goal.returns
returns c = IfOk-weaker c.with_leaf.result _ _ (λ next h. (c.in_ok-good.good, h, c.in_ok-good.ensures)) c.with_leaf.ensures
