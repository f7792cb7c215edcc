use Rattle.std.proofs.Common.{◌≡◌, ◌++◌, map, drop}
use Rattle.std.specs.Prelude.{option_map, flat_map}
use Rattle.css_cascade.specs.steps.Seen.{claims_in, seen}
use Rattle.css_cascade.proofs.order.claims_among.Given as goal

abbrev pub invariant-loop-slot : goal.invariant-loop-slot
invariant-loop-slot l = map (λ c. c.now) l.winners.items ++ flat_map claims_in (map (option_map seen) (drop l.slot-index l.best)) ≡ flat_map claims_in (map (option_map seen) l.best)
