use Rattle.std.proofs.Common.{◌≡◌, ◌++◌, map, drop}
use Rattle.css_semantics.specs.PseudoCascade.{settings_beside}
use Rattle.css_cascade.proofs.beside.settings_beside.Given as goal

abbrev pub invariant-loop-winner : goal.invariant-loop-winner
invariant-loop-winner l = l.settings ++ settings_beside (map (λ c. c.now) (drop l.winner-index l.winners)) ≡ settings_beside (map (λ c. c.now) l.winners)
