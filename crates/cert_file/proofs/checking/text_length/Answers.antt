use Rattle.std.proofs.Common.{subst}
use Rattle.cert_check.specs.steps.Stream.{IsOneMore}
use Rattle.cert_file.proofs.UpTos.{whole_text}
use Rattle.cert_file.proofs.checking.text_length.Goals as goal

pub returns-clause-text : goal.returns-clause-text
returns-clause-text c =
    let none = subst (λ b. IsOneMore c.rest.reader b c.skip.new.reader) c.if-branch.false c.in_ok-skip.ensures.one in
    whole_text c.rest.reader c.skip.new.reader c.args.bytes.now c.rest.invariant none c.place.result c.place.ensures
