use Rattle.std.proofs.Common.{◌≡◌, take}
use Rattle.sym_calc.specs.Division.{quotient_terms}
use Rattle.sym_calc.proofs.divisions.quotient_terms.Given as goal

abbrev pub invariant-loop-term : goal.invariant-loop-term
invariant-loop-term l = l.quotients ≡ quotient_terms l.by (take l.term-index l.terms)
