use Rattle.css_cascade.specs.steps.Beside.{NoneRefusedTo}
use Rattle.css_cascade.proofs.pseudo.first_shown.Given as goal

abbrev pub invariant-loop-at : goal.invariant-loop-at
invariant-loop-at l = NoneRefusedTo l.refused l.hidden l.at
