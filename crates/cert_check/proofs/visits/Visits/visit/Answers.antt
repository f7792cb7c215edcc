use Rattle.std.proofs.Common.{Ok, [], sym, subst}
use Rattle.cert_text.specs.declared.certificate.Piece.{Piece}
use Rattle.cert_check.specs.steps.Stream.{own_nodes}
use Rattle.cert_check.specs.steps.Tells.{Tells}
use Rattle.cert_check.specs.steps.Ways.{path_at}
use Rattle.cert_check.proofs.Findings.{told_good}
use Rattle.cert_check.proofs.visits.Visits.visit.Goals as goal

pub returns-in-Head-clause-tells : goal.returns-in-Head-clause-tells
returns-in-Head-clause-tells c =
    let s = c.args.self.now.descent in
    subst (λ (p : Piece). Tells s.job.now (own_nodes (path_at s) p) c.args.number (Ok c.args.number)) (sym c.in-Head.is)
    (told_good s.job.now [] c.args.number c.args.number tt)
