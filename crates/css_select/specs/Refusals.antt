-- Why tokens are no group of selectors that is read, and which of it a fault names.
use Rattle.std.specs.Prelude.{ℕ, Option, Some, None}
use Rattle.css_select.specs.declared.faults.SelFault.{SelFault}
use Rattle.css_select.specs.declared.faults.SelFault.TheVariants.{Mem, Bad, Unsupported}

pub data Refusal : Type 0 where
  unsupported_at : ℕ → Refusal
  bad_at : ℕ → Refusal

-- the refusal that a fault names; want of memory names none
abbrev pub refusal_of : SelFault → Option Refusal
refusal_of Mem = None
refusal_of (Bad place) = Some (bad_at place)
refusal_of (Unsupported place) = Some (unsupported_at place)
