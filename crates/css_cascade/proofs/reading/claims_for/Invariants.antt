use Rattle.std.proofs.Common.{◌≡◌, ◌++◌, map, Some}
use Rattle.css_semantics.specs.CascadeReading.{claim_of}
use Rattle.css_cascade.proofs.reading.claims_for.Given as goal

abbrev pub invariant-loop-setting : goal.invariant-loop-setting
invariant-loop-setting l = l.claims ++ map (λ s. claim_of l.origin l.decl s.prop (Some s.value)) l.setting-iterator.rest.items ≡ map (λ s. claim_of l.origin l.decl s.prop (Some s.value)) l.fn.settings
