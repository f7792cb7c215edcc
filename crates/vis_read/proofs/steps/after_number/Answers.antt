use Rattle.std.proofs.Common.{subst}
use Rattle.viz_base.specs.declared.formulas.Edge.TheVariants.{One}
use Rattle.vis_read.specs.steps.Machine.{Steps, step_added, with_part}
use Rattle.vis_read.proofs.steps.after_number.Goals as goal

pub returns-in-Ok : goal.returns-in-Ok
returns-in-Ok c =
    subst (λ number. Steps c.step_added.result (step_added c.args.reading (with_part c.args.sum number One) c.args.lexeme.now)) c.from.ensures
    (subst (λ sum. Steps c.step_added.result (step_added c.args.reading sum c.args.lexeme.now)) c.in-Ok.ensures c.step_added.ensures)
