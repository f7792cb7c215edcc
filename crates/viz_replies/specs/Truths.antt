-- What a job file says of one world: its assertion as it is written, over the page's rendering there, both by the rules
-- that are met at the world (CSS 2.1; Media Queries 3).
use Rattle.std.specs.Prelude.{◌≡◌, ℕ, List, true, false, Ok}
use Rattle.viz_base.specs.declared.jobs.Job.{Job}
use Rattle.viz_base.specs.declared.worlds.World.{World}
use Rattle.viz_base.specs.Worlds.{IsInRange}
use Rattle.page_json.specs.Jobs.{Raw, raw_job}
use Rattle.cert_check.specs.Truths.{is_true_at}
use Rattle.viz_replies.specs.Jobs.{SpellsJobAt}

-- the assertion as it is written is true of the page's rendering at the world
pub record IsTrueThere (bytes : List ℕ) (world : World) : Type 0 where
  pub job : Job
  pub spelled : SpellsJobAt bytes world.w world.s job
  pub truth : is_true_at job world ≡ true

-- the world is one of the range, and the assertion as it is written is false of the page's rendering there
pub record IsFalseThere (bytes : List ℕ) (world : World) : Type 0 where
  pub job : Job
  pub spelled : SpellsJobAt bytes world.w world.s job
  pub in_range : IsInRange job.range world
  pub untrue : is_true_at job world ≡ false

-- the assertion as it is written is true of the page's rendering at each world of the range
pub record IsTrueEverywhere (bytes : List ℕ) : Type 0 where
  pub raw : Raw
  pub read : raw_job bytes ≡ Ok raw
  pub holds : (world : World) → IsInRange raw.range world → IsTrueThere bytes world
