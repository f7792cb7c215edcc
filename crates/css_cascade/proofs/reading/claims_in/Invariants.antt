use Rattle.css_semantics.specs.CascadeReading.{IsClaimed}
use Rattle.css_cascade.proofs.Reaching.{Reached}
use Rattle.css_cascade.proofs.reading.claims_in.Given as goal

abbrev pub invariant-loop-decl : goal.invariant-loop-decl
invariant-loop-decl l = Reached (IsClaimed l.origin l.text) l.decls l.decl-index l.claims.items
