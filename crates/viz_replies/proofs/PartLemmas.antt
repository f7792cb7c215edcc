-- The jobs of the parts of a range, and the job at a world.
use Rattle.std.proofs.Common.{◌≡◌, ◌∙◌, ℕ, true, List, [], ◌∷◌, Ok, refl, sym, ap, subst}
use Rattle.std.specs.Prelude.{◌↔◌}
use Rattle.std.specs.List.{AllByRecursion}
use Rattle.std.proofs.lemmas.Bool.{and_from, and_parts}
use Rattle.sha2.specs.Sha256.{sha256}
use Rattle.viz_base.specs.declared.jobs.Job.{Job}
use Rattle.viz_base.specs.declared.worlds.Rect.{Rect}
use Rattle.viz_base.specs.declared.worlds.World.{World}
use Rattle.viz_base.proofs.Sameness.{same_Ok}
use Rattle.viz_base.specs.Worlds.{IsInRange}
use Rattle.cert_check.specs.Truths.{Holds, is_true_at}
use Rattle.page_json.specs.Jobs.{Raw, raw_job}
use Rattle.page_build.specs.Jobs.{AreBuilt, IsJobAt}
use Rattle.page_build.specs.Laws.{OneAnswer}
use Rattle.viz_replies.specs.Parts.{HaveRanges, IsToldAt, PartsTell, TellTheRange, are_true_at}
use Rattle.viz_replies.proofs.PartTruths.{ranges_of}
use Rattle.viz_replies.specs.Jobs.{SpellJobs, SpellsJobAt}
use Rattle.viz_replies.specs.Laws.{AreTrueAt}
use Rattle.viz_replies.specs.Truths.{IsTrueEverywhere, IsTrueThere}

pub record PartLaws : Type 0 where
  pub answer : OneAnswer
  pub tell : PartsTell
  pub ranges : HaveRanges

-- ---- at a world of the range

-- all formulas are true where each is
each_true : (jobs : List Job) (world : World) → are_true_at jobs world ≡ true → AreTrueAt jobs world
each_true [] world is = tt
each_true (job ∷ jobs) world is =
    let both = and_parts (is_true_at job world) (are_true_at jobs world) is in
    (both.0, each_true jobs world both.1)

all_true : (jobs : List Job) (world : World) → AreTrueAt jobs world → are_true_at jobs world ≡ true
all_true [] world each = refl
all_true (job ∷ jobs) world each = and_from (is_true_at job world) (are_true_at jobs world) each.0 (all_true jobs world each.1)

-- the same range is told by each reading
pub job_ranges : (bytes : List ℕ) (jobs : List Job) (raw : Raw) → SpellJobs bytes jobs → raw_job bytes ≡ Ok raw → AllByRecursion (λ (job : Job). job.range ≡ raw.range) jobs
job_ranges bytes jobs raw spelled read =
    let same : spelled.read.raw ≡ raw = same_Ok (sym spelled.read.read ∙ read) in
    subst (λ (r : Raw). AllByRecursion (λ (job : Job). job.range ≡ r.range) jobs) same (ranges_of spelled.read.built.each)

module _ (laws : PartLaws) (bytes : List ℕ) (jobs : List Job) (raw : Raw) (world : World) (spelled : SpellJobs bytes jobs) (read : raw_job bytes ≡ Ok raw) (inside : IsInRange raw.range world) where
  told : IsToldAt raw (sha256 bytes) jobs world
  told =
      let built : AreBuilt raw jobs = subst (λ (r : Raw). AreBuilt r jobs) (same_Ok (sym spelled.read.read ∙ read)) spelled.read.built in
      (laws.tell raw (sha256 bytes) jobs (laws.ranges bytes raw read) spelled.read.digests built).told world inside

  at_world : IsJobAt bytes world.w world.s told.job
  at_world = record { raw = raw; read = read; digest = told.digest_is; built = told.built }

  one_job : (other : Job) → IsJobAt bytes world.w world.s other → other ≡ told.job
  one_job other at = same_Ok (laws.answer.job bytes world.w world.s (Ok other) (Ok told.job) at at_world)

  true_as_written : (there : Job) → there ≡ told.job → is_true_at there world ≡ true → are_true_at jobs world ≡ true
  true_as_written there same is = told.truth ∙ (ap (λ (j : Job). is_true_at j world) (sym same) ∙ is)

  pub true_there : IsTrueThere bytes world ↔ AreTrueAt jobs world
  true_there = (
    λ h. each_true jobs world (true_as_written h.job (one_job h.job h.spelled.read) h.truth),
    λ each. record { job = told.job; spelled = record { short = spelled.short; read = at_world }; truth = sym told.truth ∙ all_true jobs world each },
  )

  pub one_there : (job : Job) × SpellsJobAt bytes world.w world.s job × ((other : Job) → SpellsJobAt bytes world.w world.s other → other ≡ job)
  one_there = (told.job, record { short = spelled.short; read = at_world }, λ other h. one_job other h.read)

-- ---- over the range

true_over : (range : Rect) (jobs : List Job) → AllByRecursion (λ (job : Job). job.range ≡ range) jobs → ((world : World) → IsInRange range world → AreTrueAt jobs world) → AllByRecursion Holds jobs
true_over range [] ranges all = tt
true_over range (job ∷ jobs) ranges all = (
  λ world inside. (all world (subst (λ r. IsInRange r world) ranges.0 inside)).0,
  true_over range jobs ranges.1 (λ world inside. (all world inside).1),
)

true_of : (range : Rect) (jobs : List Job) → AllByRecursion (λ (job : Job). job.range ≡ range) jobs → AllByRecursion Holds jobs → (world : World) → IsInRange range world → AreTrueAt jobs world
true_of range [] ranges hold world inside = tt
true_of range (job ∷ jobs) ranges hold world inside =
    (hold.0 world (subst (λ r. IsInRange r world) (sym ranges.0) inside), true_of range jobs ranges.1 hold.1 world inside)

pub true_everywhere : PartLaws → (bytes : List ℕ) (jobs : List Job) → SpellJobs bytes jobs → IsTrueEverywhere bytes ↔ AllByRecursion Holds jobs
true_everywhere laws bytes jobs spelled = (
  λ h. true_over h.raw.range jobs (job_ranges bytes jobs h.raw spelled h.read)
      (λ world inside. (true_there laws bytes jobs h.raw world spelled h.read inside).0 (h.holds world inside)),
  λ hold. record {
    raw = spelled.read.raw;
    read = spelled.read.read;
    holds = λ world inside. (true_there laws bytes jobs spelled.read.raw world spelled spelled.read.read inside).1
        (true_of spelled.read.raw.range jobs (job_ranges bytes jobs spelled.read.raw spelled spelled.read.read) hold world inside);
  },
)

-- ---- all of them

pub parts_of_bytes : PartsTell → HaveRanges → (bytes : List ℕ) (jobs : List Job) (spelled : SpellJobs bytes jobs) → TellTheRange spelled.read.raw (sha256 bytes) jobs
parts_of_bytes tell ranges bytes jobs spelled =
    tell spelled.read.raw (sha256 bytes) jobs (ranges bytes spelled.read.raw spelled.read.read) spelled.read.digests spelled.read.built
