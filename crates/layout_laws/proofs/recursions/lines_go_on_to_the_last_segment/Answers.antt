use Rattle.std.proofs.Common.{refl}
use Rattle.layout_semantics.specs.Lines.{lines_to}
use Rattle.layout_laws.proofs.LineSteps.{lines-step}
use Rattle.layout_laws.proofs.recursions.lines_go_on_to_the_last_segment.Goals as goal

pub returns-clause-done : goal.returns-clause-done
unfolding lines_to
returns-clause-done args c now = refl

pub returns-clause-next : goal.returns-clause-next
returns-clause-next args c now first parts = lines-step c now first parts
