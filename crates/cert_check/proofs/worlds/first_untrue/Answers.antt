use Rattle.cert_check.proofs.FirstUntrue.{answer_means}
use Rattle.cert_check.proofs.worlds.first_untrue.Goals as goal

pub returns : goal.returns
returns c = answer_means c.args.job.now c.args.rect c.first_world.result c.first_world.ensures
