use Rattle.std.proofs.Common.{◌≡◌, drop}
use Rattle.cert_check.specs.Numbers.{sum_on}
use Rattle.cert_check.specs.steps.Grids.{value_in}
use Rattle.cert_check.proofs.numbers.sum_on.Given as goal

abbrev pub invariant-loop-term : goal.invariant-loop-term
invariant-loop-term l = sum_on l.sum (drop l.term-index l.terms) (value_in l.values) ≡ sum_on l.fn.start l.terms (value_in l.values)
