-- The refusals of a job file, in their order.
use Rattle.std.specs.Prelude.{ℕ, nat_le, Option, Some, None, Result, Ok, Err, if◌then◌else◌}
use Rattle.viz_base.specs.declared.raw_jobs.Part.{Part}
use Rattle.viz_base.specs.declared.raw_jobs.Which.{Which}
use Rattle.page_json.specs.declared.faults.JobFault.{JobFault}
use Rattle.page_json.specs.declared.faults.JobFault.TheVariants.{Mem, NotJson, Shape, Limit, Range}

-- the refusal that a fault of `read_job` names. Want of memory names none
abbrev pub refusal_of : JobFault → Option JobFault
refusal_of Mem = None
refusal_of NotJson = Some NotJson
refusal_of (Shape part place) = Some (Shape part place)
refusal_of (Limit which count) = Some (Limit which count)
refusal_of Range = Some Range

-- what comes next, unless there was a refusal before
infixl 10 ◌>>=◌
abbrev pub ◌>>=◌ : {A B : Type 0} → Result A JobFault → (A → Result B JobFault) → Result B JobFault
(Ok x) >>= next = next x
(Err refusal) >>= next = Err refusal

-- a part of the file, which is missing, of another form or against a rule where there is none
abbrev pub shaped : {A : Type 0} → Part → Option A → Result A JobFault
shaped part None = Err (Shape part 0)
shaped part (Some x) = Ok x

-- a part of the file, of which the item with that number is against a rule
abbrev pub shaped_at : {A : Type 0} → Part → Result A ℕ → Result A JobFault
shaped_at part (Err place) = Err (Shape part place)
shaped_at part (Ok x) = Ok x

-- at most so many
abbrev pub within : Which → ℕ → ℕ → Result ℕ JobFault
within which most count = if nat_le count most then Ok count else Err (Limit which count)
