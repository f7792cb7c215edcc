use Rattle.std.proofs.Common.{◌≡◌, map, drop}
use Rattle.css_semantics.specs.PseudoCascade.{first_unsupported}
use Rattle.css_cascade.proofs.beside.first_unsupported.Given as goal

abbrev pub invariant-loop-winner : goal.invariant-loop-winner
invariant-loop-winner l = first_unsupported (map (λ c. c.now) (drop l.winner-index l.winners)) ≡ first_unsupported (map (λ c. c.now) l.winners)
