use Rattle.std.proofs.Common.{◌≡◌, Option, Ok, Err, sym, ap, subst, arith}
use Rattle.viz_base.specs.declared.jobs.Job.{Job}
use Rattle.cert_text.specs.declared.certificate.Piece.{Piece}
use Rattle.cert_text.specs.Pieces.{IsNext}
use Rattle.cert_semantics.specs.Axes.{axis_count}
use Rattle.cert_check.specs.declared.walk.Stop.{Stop}
use Rattle.cert_check.specs.steps.Stream.{IsHead, IsRejectedFrom, nodes_here}
use Rattle.cert_check.specs.steps.Tells.{Tells}
use Rattle.cert_check.proofs.Findings.{of_other, walks_from, has_room, is_ready, walks_on, stops_here, ends_right}
use Rattle.cert_check.proofs.bytes.judge.Goals as goal

pub returns-then-not-branch-clause-found : goal.returns-then-not-branch-clause-found
returns-then-not-branch-clause-found c =
    let reading = c.read_head.new.reader in
    of_other c.args.job.now reading (subst (IsHead c.args.job.now reading) c.if-not-branch.true c.in_ok-read_head.ensures.head)

pub loop-visits-init : goal.loop-visits-init
loop-visits-init c =
    let reading = c.read_head.new.reader in
    let head = subst (IsHead c.args.job.now reading) c.if-not-branch.false c.in_ok-read_head.ensures.head in
    walks_from c.args.job.now c.args.reader.now reading c.in-Ok.visits c.read_head.ensures.bytes head c.in-Ok.ensures.job c.in-Ok.ensures.due

pub visit-requires-clause-few : goal.visit-requires-clause-few
visit-requires-clause-few c =
    let l = c.loop-visits in
    let next = subst (λ (o : Option Piece). IsNext l.reader (Ok o) c.next.new.self) c.in-Some.is c.in_ok-piece.ensures in
    let room = has_room c.args.job.now c.args.reader.now l.reader c.next.new.self l.visits l.number l.invariant c.in-Some.piece next in
    let axes = ap (λ (j : Job). axis_count j.form) l.invariant.job_is in
    let few = c.requires.few in
    omega (arith, room, axes, few)

pub visit-requires-clause-ready : goal.visit-requires-clause-ready
visit-requires-clause-ready c =
    let l = c.loop-visits in
    let next = subst (λ (o : Option Piece). IsNext l.reader (Ok o) c.next.new.self) c.in-Some.is c.in_ok-piece.ensures in
    is_ready c.args.job.now c.args.reader.now l.reader c.next.new.self l.visits l.number l.invariant c.in-Some.piece next

pub loop-visits-preserved : goal.loop-visits-preserved
loop-visits-preserved c =
    let l = c.loop-visits in
    let next = subst (λ (o : Option Piece). IsNext l.reader (Ok o) c.next.new.self) c.in-Some.is c.in_ok-piece.ensures in
    let on = c.in-Ok-visit.ensures in
    walks_on c.args.job.now c.args.reader.now l.reader c.next.new.self l.visits l.number l.invariant c.in-Some.piece next c.visit.new.self c.in-Ok-visit.next on.job on.tells on.next on.due

pub returns-in-Err-Rejected-clause-found : goal.returns-in-Err-Rejected-clause-found
returns-in-Err-Rejected-clause-found c =
    let l = c.loop-visits in
    let job = c.args.job.now in
    let next = subst (λ (o : Option Piece). IsNext l.reader (Ok o) c.next.new.self) c.in-Some.is c.in_ok-piece.ensures in
    let told = subst (λ (stop : Stop). Tells l.visits.descent.job.now (nodes_here l.visits c.in-Some.piece) l.number (Err stop)) c.in-Err-Rejected.field-0-is c.in-Err-Rejected.ensures.tells in
    let inner = c.into_inner.ensures in
    let taken = c.in-Err-Rejected.reject-is in
    let is : c.into_inner.result ≡ c.in-Err-Rejected.reject = cc in
    subst (IsRejectedFrom job c.next.new.self) (sym is)
    (stops_here job c.args.reader.now l.reader c.next.new.self l.visits l.number l.invariant c.in-Some.piece next c.in-Err-Rejected.reject told)

pub returns-clause-found : goal.returns-clause-found
returns-clause-found c =
    let l = c.loop-visits in
    let next = subst (λ (o : Option Piece). IsNext l.reader (Ok o) c.next.new.self) c.in_default.is c.in_ok-piece.ensures in
    ends_right c.args.job.now c.args.reader.now l.reader c.next.new.self l.visits l.number l.invariant next
