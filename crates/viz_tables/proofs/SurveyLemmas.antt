-- What lines of the parts' jobs tell of the assertion as it is written.
use Rattle.std.proofs.Common.{◌≡◌, ◌∙◌, ℕ, suc, ◌<◌, List, [], ◌∷◌, length, Result, true, false, Ok, Err, sym, ap, subst, arith}
use Rattle.std.specs.List.{AllByRecursion}
use Rattle.sha2.specs.Sha256.{sha256}
use Rattle.std.specs.Prelude.{IfOk}
use Rattle.viz_base.specs.declared.memory.Mem.{Mem}
use Rattle.viz_base.specs.declared.jobs.Job.{Job}
use Rattle.viz_base.specs.declared.worlds.Rect.{Rect}
use Rattle.viz_base.specs.declared.worlds.World.{World}
use Rattle.page_build.specs.Jobs.{AreJobsWith}
use Rattle.viz_replies.specs.Parts.{HaveRangesWith, IsToldAt, PartsTell, TellTheRange, are_true_at}
use Rattle.viz_replies.proofs.PartTruths.{ranges_of}
use Rattle.viz_tables.specs.declared.words.Word.{Word}
use Rattle.viz_tables.specs.declared.words.Word.TheVariants.{Holds, Fails, Undecided}
use Rattle.viz_tables.specs.declared.words.Line.{Line}
use Rattle.viz_tables.specs.Searches.{AreSurveyed, HaveRange}
use Rattle.viz_tables.specs.Surveys.{IsFalseThere, IsJobThere, IsSurvey, IsTold, IsTrueThere}
use Rattle.viz_tables.specs.Words.{AreLinesOf, IsRight, undecided_line}
use Rattle.viz_tables.proofs.LineLemmas.{lines_map}

abbrev AreOver : Rect → List Job → Type 0
AreOver range jobs = AllByRecursion (λ (job : Job). job.range ≡ range) jobs

-- ---- ranges

one_range : (a b : Rect) (jobs : List Job) → 0 < length jobs → AreOver a jobs → AreOver b jobs → a ≡ b
one_range a b [] some h k = absurd (omega (arith, some))
one_range a b (job ∷ jobs) some h k = sym h.0 ∙ k.0

pub surveyed_by : (range : Rect) (jobs : List Job) (turns : ℕ) (r : Result (List Line) Mem) → AreOver range jobs → IfOk r (AreLinesOf range (are_true_at jobs) turns)
    → (turns ≡ 0 → IfOk r (λ lines. lines ≡ undecided_line range ∷ [])) → IfOk r (AreSurveyed jobs turns)
surveyed_by range jobs turns (Ok lines) over h none = (range, over, h, none)
surveyed_by range jobs turns (Err fault) over h none = tt

-- ---- surveys

pub have_range : HaveRangesWith → (assertion bytes : List ℕ) (jobs : List Job) → AreJobsWith assertion bytes jobs → HaveRange jobs
have_range have assertion bytes jobs spelled = (spelled.raw.range, have assertion bytes spelled.raw spelled.read, ranges_of spelled.built.each)

module _ (tell : PartsTell) (have : HaveRangesWith) (assertion bytes : List ℕ) (jobs : List Job) (spelled : AreJobsWith assertion bytes jobs) where
  parts : TellTheRange spelled.raw (sha256 bytes) jobs
  parts = tell spelled.raw (sha256 bytes) jobs (have assertion bytes spelled.raw spelled.read) spelled.digests spelled.built

  pub some_job : 0 < length jobs
  some_job = parts.some

  job_there : (world : World) (at : IsToldAt spelled.raw (sha256 bytes) jobs world) → IsJobThere assertion bytes world.w world.s at.job
  job_there world at = record { raw = spelled.raw; read = spelled.read; digest = at.digest_is; built = at.built }

  true_there : (world : World) → IsToldAt spelled.raw (sha256 bytes) jobs world → are_true_at jobs world ≡ true → IsTrueThere assertion bytes world
  true_there world at is = record { job = at.job; spelled = job_there world at; truth = sym at.truth ∙ is }

  false_there : (world : World) → IsToldAt spelled.raw (sha256 bytes) jobs world → are_true_at jobs world ≡ false → IsFalseThere assertion bytes world
  false_there world at is = record { job = at.job; spelled = job_there world at; untrue = sym at.truth ∙ is }

  told : (turns : ℕ) (word : Word) (w : ℕ) → IsRight spelled.raw.range (are_true_at jobs) turns word w → IsTold assertion bytes spelled.raw.range turns word w
  told turns Holds w h = λ world is. true_there world (parts.told world is.inside) (h world is)
  told turns Fails w h = (h.0, h.1, false_there h.0 (parts.told h.0 h.1.inside) h.2)
  told turns Undecided w h = h

  pub surveyed_lines : (turns : ℕ) (lines : List Line) → AreSurveyed jobs turns lines → IsSurvey assertion bytes turns lines
  surveyed_lines turns lines h =
      let range = spelled.raw.range in
      let same : h.0 ≡ range = one_range h.0 range jobs some_job h.1 parts.ranges in
      let are : AreLinesOf range (are_true_at jobs) turns lines = subst (λ r. AreLinesOf r (are_true_at jobs) turns lines) same h.2 in
      record {
        jobs = jobs;
        spelled = spelled;
        told = lines_map 0 range.wl (suc range.wh) lines (λ word w least is. told turns word w is) (omega arith) are;
        unturned = λ none. h.3 none ∙ ap (λ r. undecided_line r ∷ []) same;
      }
