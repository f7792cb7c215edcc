-- The fault that a refusal is.
use Rattle.css_semantics.specs.declared.parts.Refusal.{Refusal}
use Rattle.css_semantics.specs.declared.parts.Refusal.TheVariants as refusal
use Rattle.css_value.specs.declared.fault.ValueFault.{ValueFault}
use Rattle.css_value.specs.declared.fault.ValueFault.TheVariants.{Ignored, Unsupported}

abbrev pub fault_of : Refusal → ValueFault
fault_of refusal.Ignored = Ignored
fault_of (refusal.Unsupported p) = Unsupported p
