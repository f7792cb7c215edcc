use Rattle.std.proofs.Common.{sym, ◌∙◌}
use Rattle.lin_proof.specs.Derivations.{first_fault}
use Rattle.lin_proof.specs.Entailments.{with_denied}
use Rattle.cert_semantics.specs.Nodes.{states, node_on}
use Rattle.cert_check.specs.steps.Ways.{path_at}
use Rattle.cert_check.proofs.Judging.{judged, lemma_good}
use Rattle.cert_check.proofs.walk.check_lemma.Goals as goal

pub returns-in-Ok-None : goal.returns-in-Ok-None
returns-in-Ok-None c =
    let s = c.args.descent.now in
    let path = path_at s in
    let row = c.args.row.now in
    let known = c.as_slice-facts.result.now in
    let shaped = sym c.is_shaped_row.ensures ∙ c.if-not-is_shaped_row.false in
    let found = c.in-Ok-None.ensures.gives ∙ (λ i. first_fault (with_denied known row) (c.variables.ensures i) c.args.why.now) in
    judged s.job.now (node_on path (states row c.args.why.now)) c.args.number tt
    (lemma_good s.job.now path row c.args.why.now known _ shaped c.in-Ok-None.ensures.coeff (c.as_slice-facts.ensures ∙ c.path.ensures.facts) found c.in-Ok-None.field-0-is)
