-- The refusal that a fault names; want of memory names none.
use Rattle.std.specs.Prelude.{◌≡◌, Option, Some, None, Result}
use Rattle.viz_base.specs.Answers.{FailsWith}
use Rattle.css_semantics.specs.declared.parts.Refusal.{Refusal}
use Rattle.css_semantics.specs.declared.parts.Refusal.TheVariants as refusal
use Rattle.css_value.specs.declared.fault.ValueFault.{ValueFault}
use Rattle.css_value.specs.declared.fault.ValueFault.TheVariants.{Mem, Ignored, Unsupported}

abbrev pub refusal_of : ValueFault → Option Refusal
refusal_of Mem = None
refusal_of Ignored = Some refusal.Ignored
refusal_of (Unsupported p) = Some (refusal.Unsupported p)

-- the answer of the definition is the refusal of this fault
abbrev pub Fails : {A : Type 0} → ValueFault → Result A Refusal → Type 0
Fails fault answer = FailsWith (refusal_of fault) (λ given. answer ≡ given)
