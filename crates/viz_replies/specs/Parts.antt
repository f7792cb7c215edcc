-- What the jobs of the parts of a range say together: at each of its worlds, what the job at the world says.
use Rattle.std.specs.Prelude.{◌≡◌, ℕ, ◌<◌, ◌≤◌, ◌&&◌, Bool, true, List, [], ◌∷◌, length, Ok}
use Rattle.std.specs.List.{AllByRecursion}
use Rattle.viz_base.specs.Jobs.{IsRange}
use Rattle.viz_base.specs.declared.jobs.Job.{Job}
use Rattle.viz_base.specs.declared.worlds.World.{World}
use Rattle.viz_base.specs.Worlds.{IsInRange}
use Rattle.cert_check.specs.Truths.{is_true_at}
use Rattle.page_json.specs.Jobs.{Raw, raw_job, raw_job_with}
use Rattle.page_build.specs.Jobs.{AreBuilt, IsBuiltAt}

-- all formulas of these jobs are true at a world
abbrev pub are_true_at : List Job → World → Bool
are_true_at [] world = true
are_true_at (job ∷ jobs) world = is_true_at job world && are_true_at jobs world

-- the job at a world of what a file says, which is true there exactly where the formulas of these jobs all are
pub record IsToldAt (raw : Raw) (digest : List ℕ) (jobs : List Job) (world : World) : Type 0 where
  pub job : Job
  pub digest_is : job.digest ≡ digest
  pub built : IsBuiltAt raw world.w world.s job
  pub truth : are_true_at jobs world ≡ is_true_at job world

-- the jobs of the parts of the range, and that at each of its worlds
pub record TellTheRange (raw : Raw) (digest : List ℕ) (jobs : List Job) : Type 0 where
  pub some : 0 < length jobs
  pub few : length jobs ≤ 12
  pub ranges : AllByRecursion (λ (job : Job). job.range ≡ raw.range) jobs
  pub told : (world : World) → IsInRange raw.range world → IsToldAt raw digest jobs world

abbrev pub HaveDigest : List ℕ → List Job → Type 0
HaveDigest digest jobs = AllByRecursion (λ (job : Job). job.digest ≡ digest) jobs

-- so it is with the jobs of what a file says
abbrev pub PartsTell : Type 0
PartsTell = (raw : Raw) (digest : List ℕ) (jobs : List Job) → IsRange raw.range → HaveDigest digest jobs
    → AreBuilt raw jobs → TellTheRange raw digest jobs

-- what a file says has a range
abbrev pub HaveRanges : Type 0
HaveRanges = (bytes : List ℕ) (raw : Raw) → raw_job bytes ≡ Ok raw → IsRange raw.range

-- so it is under another assertion
abbrev pub HaveRangesWith : Type 0
HaveRangesWith = (assertion bytes : List ℕ) (raw : Raw) → raw_job_with assertion bytes ≡ Ok raw → IsRange raw.range
