use Rattle.std.proofs.Common.{subst, sym}
use Rattle.vis_read.specs.steps.Machine.{initial}
use Rattle.vis_read.specs.steps.Verdicts.{Judges, run, then_end}
use Rattle.vis_read.proofs.Runs.{fails_on}
use Rattle.vis_read.proofs.read.read_tokens.Goals as goal

pub returns-in-Ok : goal.returns-in-Ok
returns-in-Ok c = subst (λ r. Judges c.finish.result (then_end c.args.end r)) (sym c.in-Ok.ensures) c.finish.ensures

pub returns-in-Err : goal.returns-in-Err
returns-in-Err c = fails_on c.args.end c.in-Err.fault (run initial c.args.tokens) c.in-Err.ensures
