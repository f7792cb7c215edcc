use Rattle.std.proofs.Common.{◌≡◌, map, drop}
use Rattle.css_semantics.specs.CascadeNodes.{first_refused}
use Rattle.css_cascade.proofs.nodes.first_refused.Given as goal

abbrev pub invariant-loop-winner : goal.invariant-loop-winner
invariant-loop-winner l = first_refused l.replaced l.outer (map (λ c. c.now) (drop l.winner-index l.winners)) ≡ first_refused l.replaced l.outer (map (λ c. c.now) l.winners)
