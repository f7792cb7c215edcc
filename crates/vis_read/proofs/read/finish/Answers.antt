use Rattle.vis_read.proofs.Runs.{ends_badly}
use Rattle.vis_read.proofs.read.finish.Goals as goal

pub returns-in-Err : goal.returns-in-Err
returns-in-Err c = ends_badly c.args.end c.args.reading c.in-Err.stop c.fault_at.result c.in-Err.ensures c.fault_at.ensures
