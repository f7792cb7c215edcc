use Rattle.viz_tables.specs.Tables.{AreTaken}
use Rattle.viz_tables.proofs.TableLemmas.{refused_rule, taken_more}
use Rattle.viz_tables.proofs.judging.first_refused.Goals as goal

pub loop-at-init : goal.loop-at-init
loop-at-init c = AreTaken.nothing

pub returns-in-Err : goal.returns-in-Err
returns-in-Err c =
    refused_rule c.args.job.now c.args.rules.now c.loop-at.at c.index-rules-at.result c.loop-at-test.true c.index-rules-at.is c.loop-at.invariant c.in-Err.why c.refused_rule.result c.in-Err.ensures c.refused_rule.ensures

pub loop-at-preserved : goal.loop-at-preserved
loop-at-preserved c = taken_more c.args.job.now c.args.rules.now c.loop-at.at c.index-rules-at.result c.loop-at-test.true c.index-rules-at.is c.loop-at.invariant c.in-Ok.ensures
