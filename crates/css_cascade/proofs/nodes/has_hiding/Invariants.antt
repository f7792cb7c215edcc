use Rattle.std.proofs.Common.{◌≡◌, map, drop}
use Rattle.std.specs.List.{list_any}
use Rattle.css_semantics.specs.CascadeNodes.{hides}
use Rattle.css_cascade.proofs.nodes.has_hiding.Given as goal

abbrev pub invariant-loop-winner : goal.invariant-loop-winner
invariant-loop-winner l = list_any hides (map (λ c. c.now) (drop l.winner-index l.winners)) ≡ list_any hides (map (λ c. c.now) l.winners)
