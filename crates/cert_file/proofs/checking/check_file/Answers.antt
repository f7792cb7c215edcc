use Rattle.cert_file.proofs.UpTos.{at_start, read_next, fault_next, fault_behind}
use Rattle.cert_file.proofs.checking.check_file.Goals as goal

pub loop-number-init : goal.loop-number-init
loop-number-init c = at_start c.args.bytes.now

pub loop-number-preserved : goal.loop-number-preserved
loop-number-preserved c =
    let l = c.loop-number in
    read_next c.args.jobs.now c.args.bytes.now l.at l.number l.wrong l.invariant c.loop-number-test.true c.index-jobs-number.result c.index-jobs-number.is c.in_ok-length.field-0 c.in_ok-length.ensures c.in-Read.length c.in-Read.first c.in-Read.is

pub returns-in-Grammar : goal.returns-in-Grammar
returns-in-Grammar c =
    let l = c.loop-number in
    fault_next c.args.jobs.now c.args.bytes.now l.at l.number l.wrong l.invariant c.loop-number-test.true c.index-jobs-number.result c.in_ok-length.field-0 c.in_ok-length.ensures c.in-Grammar.length c.in-Grammar.is

pub returns-then-at-bytes : goal.returns-then-at-bytes
returns-then-at-bytes c =
    let l = c.loop-number in
    fault_behind c.args.jobs.now c.args.bytes.now l.at l.number l.wrong l.invariant c.loop-number-test.false c.if-at-bytes.true
