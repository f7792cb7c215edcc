use Rattle.std.proofs.Common.{◌≡◌, map, drop}
use Rattle.std.specs.List.{list_any}
use Rattle.css_semantics.specs.PseudoCascade.{asks_text}
use Rattle.css_cascade.proofs.beside.have_text.Given as goal

abbrev pub invariant-loop-winner : goal.invariant-loop-winner
invariant-loop-winner l = list_any asks_text (map (λ c. c.now) (drop l.winner-index l.winners)) ≡ list_any asks_text (map (λ c. c.now) l.winners)
