-- What the steps of a renewal come to.
use Rattle.std.specs.Prelude.{◌≡◌, ℕ, List, length, Bool, true, false, Option, Some, None}
use Rattle.viz_base.specs.declared.jobs.Job.{Job}
use Rattle.viz_base.specs.declared.worlds.Rect.{Rect}
use Rattle.cert_text.specs.declared.certificate.Cert.{Cert}
use Rattle.cert_check.specs.Verdicts.{Passes}
use Rattle.prove_search.specs.Outcomes.{IsUndecided}
use Rattle.viz_replies.specs.declared.searches.Found.{Found}
use Rattle.viz_replies.specs.declared.searches.Found.TheVariants as found
use Rattle.viz_replies.specs.Replies.{AreProofs, IsFirstOpen, IsFound, part_most}
use Rattle.viz_replies.specs.steps.Searches.{IsOpen, IsProvedBehind}
use Rattle.viz_renew.specs.Renewals.{AllStand, ArePlainlyRight, IsPlainlyRight, unbounded}

-- whether a certificate is kept as it is: it passes and is of form 1, or isn't plain and right
abbrev pub IsJudged : Job → Cert → Bool → Type 0
IsJudged job cert true = Passes job cert × (cert.form ≡ 1)
IsJudged job cert false = IsPlainlyRight job cert → ⊥

-- whether all are: they stand, or aren't all plain and right
abbrev pub AreJudged : List Job → List Cert → Bool → Type 0
AreJudged jobs certs true = AllStand jobs certs
AreJudged jobs certs false = ArePlainlyRight jobs certs → ⊥

-- a job is proved, or why it isn't
abbrev pub IsRenewalStep : (turns most : ℕ) → Job → (old new : List ℕ) → Option Found → Type 0
IsRenewalStep turns most job old new None = IsProvedBehind unbounded most job old new
IsRenewalStep turns most job old new (Some end) = IsOpen turns job end

-- the first part of some jobs that isn't proved is open so
pub record IsLeft (turns : ℕ) (jobs : List Job) (form : ℕ) (part : Rect) : Type 0 where
  pub job : Job
  pub first : IsFirstOpen unbounded (part_most (length jobs)) jobs job
  pub form_is : form ≡ job.form
  pub undecided : IsUndecided job.range turns part

-- what a renewal of the jobs of all parts comes to
abbrev pub IsRenewalSearch : ℕ → List Job → Found → Type 0
IsRenewalSearch turns jobs (found.Proved texts) = AreProofs unbounded (part_most (length jobs)) jobs texts.items
IsRenewalSearch turns jobs (found.Violated world) = IsFound unbounded jobs world
IsRenewalSearch turns jobs (found.Undecided form part) = IsLeft turns jobs form part
