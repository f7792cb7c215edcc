-- What a survey of a job file tells of an assertion.
use Rattle.std.specs.Prelude.{◌≡◌, ℕ, suc, ◌+◌, ◌*◌, ◌<◌, true, false, List, [], ◌∷◌, Ok}
use Rattle.sha2.specs.Sha256.{sha256}
use Rattle.viz_base.specs.declared.jobs.Job.{Job}
use Rattle.viz_base.specs.declared.worlds.Rect.{Rect}
use Rattle.viz_base.specs.declared.worlds.World.{World}
use Rattle.cert_check.specs.Truths.{is_true_at}
use Rattle.page_json.specs.Jobs.{Raw, raw_job_with}
use Rattle.page_build.specs.Jobs.{AreJobsWith, IsBuiltAt}
use Rattle.viz_tables.specs.declared.words.Word.{Word}
use Rattle.viz_tables.specs.declared.words.Word.TheVariants.{Holds, Fails, Undecided}
use Rattle.viz_tables.specs.declared.words.Line.{Line}
use Rattle.viz_tables.specs.Words.{AreLines, IsWorldAt, height_of, undecided_line}

-- ---- one world

-- the bytes spell this job at a viewport's width and a default font size, in pixels, under an assertion: the page of
-- the rules that are met there (CSS 2.1; Media Queries 3), and the assertion as it is written
pub record IsJobThere (assertion bytes : List ℕ) (w s : ℕ) (job : Job) : Type 0 where
  pub raw : Raw
  pub read : raw_job_with assertion bytes ≡ Ok raw
  pub digest : job.digest ≡ sha256 bytes
  pub built : IsBuiltAt raw w s job

-- the assertion is true of the page's rendering at a world
pub record IsTrueThere (assertion bytes : List ℕ) (world : World) : Type 0 where
  pub job : Job
  pub spelled : IsJobThere assertion bytes world.w world.s job
  pub truth : is_true_at job world ≡ true

-- it is false there
pub record IsFalseThere (assertion bytes : List ℕ) (world : World) : Type 0 where
  pub job : Job
  pub spelled : IsJobThere assertion bytes world.w world.s job
  pub untrue : is_true_at job world ≡ false

-- ---- widths

-- What is said of a width: that the assertion is true at each world of the range with that width, or false at one of
-- them, or nothing, where there are fewer turns than two for each of them less one.
abbrev pub IsTold : (assertion bytes : List ℕ) → Rect → ℕ → Word → ℕ → Type 0
IsTold assertion bytes range turns Holds w = (world : World) → IsWorldAt range w world
    → IsTrueThere assertion bytes world
IsTold assertion bytes range turns Fails w = (world : World) × IsWorldAt range w world
    × IsFalseThere assertion bytes world
IsTold assertion bytes range turns Undecided w = turns + 1 < 2 * height_of range

-- The bytes spell jobs under the assertion. The lines go through the widths of their range in order and without gap,
-- each is right at each of its widths, and no two neighbours say the same. With no turns there is one.
pub record IsSurvey (assertion bytes : List ℕ) (turns : ℕ) (lines : List Line) : Type 0 where
  pub jobs : List Job
  pub spelled : AreJobsWith assertion bytes jobs
  pub told : AreLines (IsTold assertion bytes spelled.raw.range turns) spelled.raw.range.wl
      (suc spelled.raw.range.wh) lines
  pub unturned : turns ≡ 0 → lines ≡ undecided_line spelled.raw.range ∷ []
