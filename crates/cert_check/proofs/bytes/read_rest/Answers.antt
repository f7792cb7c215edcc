use Rattle.std.proofs.Common.{subst}
use Rattle.cert_check.specs.steps.Stream.{IsOneMore}
use Rattle.cert_check.proofs.Findings.{no_later, later_by, read_on}
use Rattle.cert_check.proofs.bytes.read_rest.Goals as goal

pub rest-init : goal.rest-init
rest-init c = no_later c.args.reader.now

pub rest-preserved : goal.rest-preserved
rest-preserved c =
    let one = subst (λ b. IsOneMore c.rest.reader b c.skip.new.reader) c.if-branch.true c.in_ok-skip.ensures.one in
    later_by c.args.reader.now c.rest.reader c.skip.new.reader c.rest.invariant one

pub returns-clause-rest : goal.returns-clause-rest
returns-clause-rest c =
    let none = subst (λ b. IsOneMore c.rest.reader b c.skip.new.reader) c.if-branch.false c.in_ok-skip.ensures.one in
    read_on c.args.reader.now c.rest.reader c.skip.new.reader c.rest.invariant none
