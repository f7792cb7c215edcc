-- What the jobs of the parts of a range say together.
use Rattle.std.specs.Prelude.{◌≡◌, ◌↔◌, ℕ, List, true, Ok}
use Rattle.std.specs.List.{AllByRecursion}
use Rattle.viz_base.specs.declared.jobs.Job.{Job}
use Rattle.viz_base.specs.declared.worlds.World.{World}
use Rattle.viz_base.specs.Worlds.{IsInRange}
use Rattle.page_json.specs.Jobs.{Raw, raw_job}
use Rattle.cert_check.specs.Truths.{Holds, is_true_at}
use Rattle.viz_replies.specs.Jobs.{SpellJobs, SpellsJobAt}
use Rattle.viz_replies.specs.Truths.{IsTrueEverywhere, IsTrueThere}

-- the formula of each of these jobs is true at the world
abbrev pub AreTrueAt : List Job → World → Type 0
AreTrueAt jobs world = AllByRecursion (λ job. is_true_at job world ≡ true) jobs

-- at a world of the range they are all true exactly where the assertion as it is written is true there
abbrev pub PartsAreTrueThere : Type 0
PartsAreTrueThere = (bytes : List ℕ) (jobs : List Job) (raw : Raw) (world : World) → SpellJobs bytes jobs
    → raw_job bytes ≡ Ok raw → IsInRange raw.range world → IsTrueThere bytes world ↔ AreTrueAt jobs world

-- they all hold exactly where the assertion as it is written is true everywhere
abbrev pub PartsHold : Type 0
PartsHold = (bytes : List ℕ) (jobs : List Job) → SpellJobs bytes jobs
    → IsTrueEverywhere bytes ↔ AllByRecursion Holds jobs

-- bytes that spell jobs spell one job at each world of the range
abbrev pub OneJobThere : Type 0
OneJobThere = (bytes : List ℕ) (jobs : List Job) (raw : Raw) (world : World) → SpellJobs bytes jobs
    → raw_job bytes ≡ Ok raw → IsInRange raw.range world → (job : Job) × SpellsJobAt bytes world.w world.s job
    × ((other : Job) → SpellsJobAt bytes world.w world.s other → other ≡ job)
