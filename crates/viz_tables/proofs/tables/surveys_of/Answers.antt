use Rattle.viz_tables.specs.Tables.{IsTable}
use Rattle.viz_tables.proofs.TableLemmas.{refused_reply, refused_table, surveyed_are_taken, table_more}
use Rattle.viz_tables.proofs.tables.surveys_of.Goals as goal

pub loop-at-init : goal.loop-at-init
loop-at-init c = rw c.new-output.ensures.items IsTable.nothing

pub returns-in-Err : goal.returns-in-Err
returns-in-Err c =
    let rules = c.args.rules.now in
    let taken = surveyed_are_taken c.loop-at.invariant in
    let refused = refused_reply c.args.job.now rules c.loop-at.at c.index-rules-at.result c.loop-at-test.true c.index-rules-at.is taken c.in-Err.why c.refused.result c.in-Err.ensures c.refused.ensures in
    refused_table c.args.job.now rules c.args.turns c.refused.result refused

pub loop-at-preserved : goal.loop-at-preserved
loop-at-preserved c =
    rw c.either-undecided.ensures (table_more c.args.job.now c.args.turns c.args.rules.now c.loop-at.at c.index-rules-at.result c.loop-at.output.items c.loop-at.undecided c.loop-at-test.true c.index-rules-at.is c.loop-at.invariant
    c.push_survey.new.out.items c.in-Ok.open c.in-Ok.ensures)
