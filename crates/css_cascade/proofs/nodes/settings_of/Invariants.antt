use Rattle.std.proofs.Common.{◌≡◌, ◌++◌, map, drop}
use Rattle.css_semantics.specs.CascadeNodes.{settings_of}
use Rattle.css_cascade.proofs.nodes.settings_of.Given as goal

abbrev pub invariant-loop-winner : goal.invariant-loop-winner
invariant-loop-winner l = l.settings ++ settings_of l.replaced l.outer (map (λ c. c.now) (drop l.winner-index l.winners)) ≡ settings_of l.replaced l.outer (map (λ c. c.now) l.winners)
