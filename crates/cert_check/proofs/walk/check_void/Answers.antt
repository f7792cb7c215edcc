use Rattle.std.proofs.Common.{◌∙◌, ◌++◌, []}
use Rattle.lin_proof.specs.Derivations.{first_fault}
use Rattle.cert_semantics.specs.Nodes.{is_empty, node_on}
use Rattle.cert_check.specs.steps.Ways.{path_at}
use Rattle.cert_check.proofs.Judging.{judged, void_good, void_bad}
use Rattle.cert_check.proofs.walk.check_void.Goals as goal

pub returns-in-None : goal.returns-in-None
returns-in-None c =
    let s = c.args.descent.now in
    let path = path_at s in
    let known = c.as_slice.result.now in
    let found = c.in_ok-first_fault_among.ensures ∙ (λ i. first_fault (known ++ []) (c.variables.ensures i) c.args.why.now) in
    judged s.job.now (node_on path (is_empty c.args.why.now)) c.args.number tt
    (void_good s.job.now path known c.args.why.now (c.as_slice.ensures ∙ c.path.ensures.facts) c.in_ok-first_fault_among.field-0 found c.in-None.is)

pub returns-in-Some : goal.returns-in-Some
returns-in-Some c =
    let s = c.args.descent.now in
    let path = path_at s in
    let known = c.as_slice.result.now in
    let found = c.in_ok-first_fault_among.ensures ∙ (λ i. first_fault (known ++ []) (c.variables.ensures i) c.args.why.now) in
    c.rejected.ensures s.job.now (node_on path (is_empty c.args.why.now))
    (void_bad s.job.now path known c.args.why.now c.args.number c.in-Some.line (c.as_slice.ensures ∙ c.path.ensures.facts) c.in_ok-first_fault_among.field-0 found c.in-Some.is)
