-- What is replied about a generated job, which no file holds.
use Rattle.std.specs.Prelude.{◌≡◌, ◌⊎◌, ℕ, List, [], ◌∷◌, ◌++◌, length, codes}
use Rattle.viz_base.specs.declared.jobs.Job.{Job}
use Rattle.viz_base.specs.declared.worlds.World.{World}
use Rattle.viz_base.specs.declared.worlds.Rect.{Rect}
use Rattle.viz_base.specs.Worlds.{world_count}
use Rattle.prove_search.specs.Outcomes.{IsUndecided}
use Rattle.viz_replies.specs.Generated.{job_text}
use Rattle.viz_replies.specs.declared.reply.Answer.{Answer}
use Rattle.viz_replies.specs.declared.reply.Answer.TheVariants as ends
use Rattle.viz_replies.specs.Lines.{numbered, spaced}
use Rattle.viz_replies.specs.Jobs.{SpellJobs, AreNoJobs}
use Rattle.viz_replies.specs.Replies.{AreProofs, IsRefusal, IsFirstOpen, IsFound, part_most}

-- ---- gen

-- the text of the job that the seed tells, with so many sections
pub record IsGenerated (seed sections : ℕ) (answer : Answer) (output : List ℕ) : Type 0 where
  pub done : answer ≡ ends.Done
  pub text : output ≡ job_text seed sections

-- ---- trial

-- how many boxes the job's page has, how many worlds its range, and what came of it
abbrev pub trial_line : Job → List ℕ → List ℕ
trial_line job end =
    codes "trial boxes"
    ++ (spaced (length job.tree.boxes) ++ (codes " worlds" ++ (spaced (world_count job.range) ++ end)))

-- a world at which the job's formula is false
abbrev pub violated_end : World → List ℕ
violated_end world = numbered (codes " violated") (world.w ∷ world.s ∷ [])

-- what is replied of a search of the jobs of all parts, of which this is the first: all are proved
pub record IsProvedTrial (turns : ℕ) (job : Job) (jobs : List Job) (output : List ℕ) : Type 0 where
  pub texts : List ℕ
  pub proofs : AreProofs turns (part_most (length jobs)) jobs texts
  pub text : output ≡ trial_line job (codes " proved\n")

-- a world of the range at which a part's formula is false
pub record IsViolatedTrial (turns : ℕ) (job : Job) (jobs : List Job) (output : List ℕ) : Type 0 where
  pub world : World
  pub found : IsFound turns jobs world
  pub text : output ≡ trial_line job (violated_end world)

-- the turns left a rectangle of a part open
pub record IsOpenTrial (turns : ℕ) (job : Job) (jobs : List Job) (output : List ℕ) : Type 0 where
  pub left : Job
  pub first : IsFirstOpen turns (part_most (length jobs)) jobs left
  pub part : Rect
  pub undecided : IsUndecided left.range turns part
  pub text : output ≡ trial_line job (codes " undecided\n")

-- what is replied of such a search
abbrev pub IsTrialOf : ℕ → Job → List Job → Answer → List ℕ → Type 0
IsTrialOf turns job jobs ends.Done output = IsProvedTrial turns job jobs output
IsTrialOf turns job jobs ends.Violated output = IsViolatedTrial turns job jobs output
IsTrialOf turns job jobs ends.Undecided output = IsOpenTrial turns job jobs output
IsTrialOf turns job jobs answer output = ⊥

-- the bytes spell jobs, and this is the reply of their trial
pub record IsTrialOnJobs (bytes : List ℕ) (turns : ℕ) (answer : Answer) (output : List ℕ) : Type 0 where
  pub job : Job
  pub more : List Job
  pub spelled : SpellJobs bytes (job ∷ more)
  pub trial : IsTrialOf turns job (job ∷ more) answer output

-- the reply of the trial of the jobs that the bytes spell, or their refusal
abbrev pub IsTrialOn : List ℕ → ℕ → Answer → List ℕ → Type 0
IsTrialOn bytes turns answer output = IsTrialOnJobs bytes turns answer output
    ⊎ IsRefusal (AreNoJobs bytes) answer output

-- the reply of the trial of the generated job
abbrev pub IsTrial : (seed sections turns : ℕ) → Answer → List ℕ → Type 0
IsTrial seed sections turns answer output = IsTrialOn (job_text seed sections) turns answer output
