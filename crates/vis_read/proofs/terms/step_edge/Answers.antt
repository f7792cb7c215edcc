use Rattle.std.proofs.Common.{◌≡◌, subst, sym}
use Rattle.viz_base.specs.Answers.{FailsWith}
use Rattle.vis_read.specs.steps.Machine.{refusal_of, step_edge, taken}
use Rattle.vis_read.proofs.Names.{unbound_edge}
use Rattle.vis_read.proofs.terms.step_edge.Goals as goal

pub returns-in-None : goal.returns-in-None
returns-in-None c =
    let s = c.args.reading.now in
    let lexeme = c.args.lexeme.now in
    subst (λ stop. FailsWith (refusal_of stop) (λ given. taken (step_edge s c.args.sum c.args.times lexeme) ≡ given)) (sym c.given_up-in-None.ensures)
    (unbound_edge s c.args.sum c.args.times c.in-Name.name c.as_str.result.now lexeme c.in-Name.is c.as_str.ensures c.in-None.ensures)
