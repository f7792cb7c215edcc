-- What the parts of a reply come to.
use Rattle.std.specs.Prelude.{◌≡◌, ℕ, ◌<◌, ◌≤◌, List, [], ◌∷◌, length, slice_get, Some, codes}
use Rattle.viz_base.specs.declared.jobs.Job.{Job}
use Rattle.viz_base.specs.declared.worlds.World.{World}
use Rattle.cert_file.specs.declared.verdict.FileVerdict.{FileVerdict}
use Rattle.cert_file.specs.declared.verdict.FileVerdict.TheVariants.{Accepted, Rejected, Grammar}
use Rattle.viz_replies.specs.declared.reply.Answer.{Answer}
use Rattle.viz_replies.specs.declared.reply.Answer.TheVariants as ends
use Rattle.viz_replies.specs.declared.jobs.JobRead.{JobRead}
use Rattle.viz_replies.specs.declared.jobs.JobRead.TheVariants as of_job
use Rattle.viz_replies.specs.declared.jobs.JobsRead.{JobsRead}
use Rattle.viz_replies.specs.declared.jobs.JobsRead.TheVariants as of_jobs
use Rattle.viz_replies.specs.declared.searches.Found.{Found}
use Rattle.viz_replies.specs.declared.searches.Found.TheVariants as found
use Rattle.viz_replies.specs.Lines.{numbered}
use Rattle.viz_replies.specs.Jobs.{SpellJobs, SpellsJobAt, AreNoJobs, IsNoJobAt}
use Rattle.viz_replies.specs.Truths.{IsFalseThere}
use Rattle.viz_replies.specs.Replies.{IsRefusal, open_line, reject_line, violation_text}
use Rattle.viz_replies.specs.Trials.{trial_line, violated_end}

-- the job that the bytes spell at a width and a size, or their refusal
abbrev pub IsJobRead : List ℕ → (w s : ℕ) → JobRead → Type 0
IsJobRead bytes w s (of_job.Read job) = SpellsJobAt bytes w s job
IsJobRead bytes w s (of_job.Refused reply) = IsRefusal (IsNoJobAt bytes w s) reply.answer reply.output.items

-- the jobs that the bytes spell: there is one at least, and there are at most 12
pub record AreSpelled (bytes : List ℕ) (jobs : List Job) : Type 0 where
  pub spelled : SpellJobs bytes jobs
  pub some : 0 < length jobs
  pub few : length jobs ≤ 12

-- the jobs that the bytes spell, or their refusal
abbrev pub AreJobsRead : List ℕ → JobsRead → Type 0
AreJobsRead bytes (of_jobs.Read jobs) = AreSpelled bytes jobs
AreJobsRead bytes (of_jobs.Refused reply) = IsRefusal (AreNoJobs bytes) reply.answer reply.output.items

-- a violation at a world, with whom the assertion blames there, and the boxes there
pub record IsToldOf (bytes : List ℕ) (world : World) (answer : Answer) (output : List ℕ) : Type 0 where
  pub violated : answer ≡ ends.Violated
  pub there : IsFalseThere bytes world
  pub text : output ≡ violation_text there.job world

-- what a search found of bytes can be told: a world that it found is one at which the assertion is false
abbrev pub CanBeTold : List ℕ → Found → Type 0
CanBeTold bytes (found.Violated world) = IsFalseThere bytes world
CanBeTold bytes search = Unit {0}

-- what is replied of a search of the jobs that the bytes spell
abbrev pub IsSearchReply : List ℕ → Found → Answer → List ℕ → Type 0
IsSearchReply bytes (found.Proved texts) answer output = (answer ≡ ends.Done) × (output ≡ texts.items)
IsSearchReply bytes (found.Violated world) answer output = IsToldOf bytes world answer output
IsSearchReply bytes (found.Undecided form part) answer output = (answer ≡ ends.Undecided) × (output ≡ open_line form part)

-- what is replied of a verdict on a certificate file
abbrev pub IsVerdictReply : List Job → FileVerdict → Answer → List ℕ → Type 0
IsVerdictReply jobs Accepted answer output = (answer ≡ ends.Done) × (output ≡ codes "accepted\n")
IsVerdictReply jobs (Rejected part reject) answer output = (job : Job) × (slice_get jobs part ≡ Some job)
    × (answer ≡ ends.CertRefused) × (output ≡ reject_line job.form (length jobs) part reject)
IsVerdictReply jobs (Grammar at) answer output = (answer ≡ ends.CertRefused)
    × (output ≡ numbered (codes "rejected grammar") (at ∷ []))

-- what is replied of a search on trial
abbrev pub IsTrialReply : Job → Found → Answer → List ℕ → Type 0
IsTrialReply job (found.Proved texts) answer output =
    (answer ≡ ends.Done) × (output ≡ trial_line job (codes " proved\n"))
IsTrialReply job (found.Violated world) answer output =
    (answer ≡ ends.Violated) × (output ≡ trial_line job (violated_end world))
IsTrialReply job (found.Undecided form part) answer output =
    (answer ≡ ends.Undecided) × (output ≡ trial_line job (codes " undecided\n"))
