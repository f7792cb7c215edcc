use Rattle.std.proofs.Common.{◌≡◌, map, drop, length}
use Rattle.std.specs.Prelude.{option_map}
use Rattle.css_semantics.specs.CascadeOrder.{applied}
use Rattle.css_cascade.specs.steps.Seen.{kept_all, seen}
use Rattle.css_cascade.proofs.order.keep_claims.Given as goal

abbrev pub invariant-loop-claim : goal.invariant-loop-claim
invariant-loop-claim l = (length l.best.items ≡ 40) × (kept_all (map (option_map seen) l.best.items) (map (applied l.spec) (drop l.claim-index l.claims)) ≡ kept_all (map (option_map seen) l.initial.best.items) (map (applied l.spec) l.claims))
