use Rattle.std.proofs.Common.{subst}
use Rattle.vis_read.specs.steps.Verdicts.{Judges, verdict}
use Rattle.vis_read.proofs.Texts.{answers}
use Rattle.vis_read.proofs.read.read_formula.Goals as goal

pub returns : goal.returns
returns c = answers c.args.page.now.nodes c.args.text.now c.in_ok-tokens.tokens c.read_tokens.result c.in_ok-tokens.ensures
    (subst (λ end. Judges c.read_tokens.result (verdict end c.in_ok-tokens.tokens)) c.in_ok-end.ensures c.read_tokens.ensures)
