-- The range of what a job file says is a range.
use Rattle.std.proofs.Common.{◌≡◌, ℕ, Bool, true, false, List, Option, Some, None, Result, Ok, Err, refl, ap, subst}
use Rattle.std.specs.Prelude.{if◌then◌else◌}
use Rattle.serde_json.specs.Data.{Data}
use Rattle.viz_base.specs.Jobs.{IsRange}
use Rattle.page_json.specs.declared.faults.JobFault.{JobFault}
use Rattle.page_json.specs.declared.faults.JobFault.TheVariants.{Range}
use Rattle.page_json.specs.Faults.{◌>>=◌}
use Rattle.page_json.specs.Jobs.{Parts, Raw, assertion_of, in_range, job_under, judged, judged_with, limited, parts_under, ranged, raw, raw_job, raw_job_with, value_of}
use Rattle.page_json.proofs.LimitLemmas.{in_range-good}

-- what comes last was reached through what comes first
from : {A B : Type 0} (first : Result A JobFault) (next : A → Result B JobFault) (end : B) → (first >>= next) ≡ Ok end → (x : A) × (next x ≡ Ok end)
from (Ok x) next end e = (x, e)
from (Err fault) next end e = absurd (cc)

within : (p : Parts) (job : Raw) (fits : Bool) → in_range p ≡ fits → (if fits then Ok (raw p) else Err Range) ≡ Ok job → IsRange job.range
within p job true is e =
    let same : raw p ≡ job = cc in
    subst IsRange (ap (λ (r : Raw). r.range) same) (in_range-good p is)
within p job false is e = absurd (cc)

-- under no assertion, or this one
of_value : (assertion : Option (List ℕ)) (d : Data) (job : Raw) → job_under assertion d ≡ Ok job → IsRange job.range
of_value assertion d job e =
    let parts = from (parts_under assertion d) (λ p. limited p >>= λ _. ranged p) job e in
    let limits = from (limited parts.0) (λ _. ranged parts.0) job parts.1 in
    within parts.0 job (in_range parts.0) refl limits.1

pub raw_range : (bytes : List ℕ) (job : Raw) → raw_job bytes ≡ Ok job → IsRange job.range
raw_range bytes job e = by_value (value_of bytes) e
  where
    by_value : (o : Option Data) → judged o ≡ Ok job → IsRange job.range
    by_value None f = absurd (cc)
    by_value (Some d) f = of_value (assertion_of d) d job f

pub raw_range_with : (assertion bytes : List ℕ) (job : Raw) → raw_job_with assertion bytes ≡ Ok job → IsRange job.range
raw_range_with assertion bytes job e = by_value (value_of bytes) e
  where
    by_value : (o : Option Data) → judged_with assertion o ≡ Ok job → IsRange job.range
    by_value None f = absurd (cc)
    by_value (Some d) f = of_value (Some assertion) d job f
