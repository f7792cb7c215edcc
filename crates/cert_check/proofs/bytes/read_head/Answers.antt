use Rattle.std.proofs.Common.{Option, Ok, subst}
use Rattle.cert_text.specs.declared.certificate.Piece.{Piece}
use Rattle.cert_text.specs.Pieces.{IsNext}
use Rattle.cert_check.proofs.Findings.{head_here}
use Rattle.cert_check.proofs.bytes.read_head.Goals as goal

pub returns-in-Some-clause-head : goal.returns-in-Some-clause-head
returns-in-Some-clause-head c =
    let next = subst (λ (o : Option Piece). IsNext c.args.reader.now (Ok o) c.next.new.self) c.in-Some.is c.in_ok-piece.ensures in
    head_here c.args.job.now c.args.reader.now c.next.new.self c.in-Some.piece c.heads_for.result next c.requires c.heads_for.ensures
