use Rattle.cert_file.proofs.ReadLemmas.{at_start, read_next, fault_next, fault_behind, file_read}
use Rattle.cert_file.proofs.reading.read_file.Goals as goal

pub loop-job-init : goal.loop-job-init
loop-job-init c = rw c.new-certs.ensures (at_start c.args.bytes.now)

pub loop-job-preserved : goal.loop-job-preserved
loop-job-preserved c =
    let l = c.loop-job in
    read_next c.args.jobs.now c.args.bytes.now l.at l.job-index l.certs l.invariant c.loop-job-test.true c.job-item.result c.job-item.is c.read_more.new.certs c.in-Ok.length c.in-Ok.ensures.read

pub returns-in-Err-Grammar : goal.returns-in-Err-Grammar
returns-in-Err-Grammar c =
    let l = c.loop-job in
    rw c.in-Err-Grammar.field-0-is
    (fault_next c.args.jobs.now c.args.bytes.now l.at l.job-index l.certs l.invariant c.loop-job-test.true c.in-Err-Grammar.here (rw c.in-Err-Grammar.field-0-is at c.in-Err-Grammar.ensures.fault))

pub returns-then-at-bytes : goal.returns-then-at-bytes
returns-then-at-bytes c =
    let l = c.loop-job in
    fault_behind c.args.jobs.now c.args.bytes.now l.at l.job-index l.certs l.invariant c.loop-job-test.false c.if-at-bytes.true

pub returns : goal.returns
returns c =
    let l = c.loop-job in
    file_read c.args.jobs.now c.args.bytes.now l.at l.job-index l.certs l.invariant c.loop-job-test.false c.if-at-bytes.false
