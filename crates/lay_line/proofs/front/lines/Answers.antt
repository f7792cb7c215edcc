use Rattle.std.proofs.Common.{ap, ◌∙◌}
use Rattle.lay_float.specs.Readings.{floats_at}
use Rattle.layout_semantics.specs.Lines.{lines_in}
use Rattle.lay_line.specs.Contexts.{context_at}
use Rattle.lay_line.proofs.front.lines.Goals as goal

pub returns-clause-value : goal.returns-clause-value
returns-clause-value g c = λ e o.
    let at = g.C.Calc.at in
    c.in_ok-laid.ensures.value e o
    ∙ ap (λ f. lines_in (context_at at c.args.container.now e) (at c.args.y.now e) (at c.args.least.now e) (floats_at at f e)) c.replace-before.ensures.value
