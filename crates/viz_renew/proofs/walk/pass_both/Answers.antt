use Rattle.std.proofs.lemmas.Result.{IfOk-weaker}
use Rattle.viz_renew.proofs.Walking.{keeps_both}
use Rattle.viz_renew.proofs.walk.pass_both.Goals as goal

pub returns : goal.returns
returns c = IfOk-weaker c.pass_node-2.result _ _ (λ next h job here there e f. keeps_both (c.in_ok-kept.ensures job here e) (h job there f)) c.pass_node-2.ensures
