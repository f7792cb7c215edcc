-- What a search of the jobs of all parts comes to.
use Rattle.std.specs.Prelude.{◌≡◌, ℕ, ◌<◌, List, ◌++◌, length, Option, Some, None}
use Rattle.viz_base.specs.declared.jobs.Job.{Job}
use Rattle.viz_base.specs.declared.worlds.Rect.{Rect}
use Rattle.cert_text.specs.declared.certificate.Cert.{Cert}
use Rattle.cert_text.specs.Texts.{CertText}
use Rattle.prove_search.specs.Outcomes.{IsProof, IsUndecided, IsViolation}
use Rattle.viz_replies.specs.declared.searches.Found.{Found}
use Rattle.viz_replies.specs.declared.searches.Found.TheVariants as found
use Rattle.viz_replies.specs.Replies.{AreProofs, IsFirstOpen, IsFound, part_most}

-- the text of a certificate that proves the job, behind what there was
pub record IsProvedBehind (turns most : ℕ) (job : Job) (old new : List ℕ) : Type 0 where
  pub cert : Cert
  pub proof : IsProof job turns most cert
  pub text : List ℕ
  pub spelled : CertText cert text
  pub behind : new ≡ old ++ text

-- why a job isn't proved
abbrev pub IsOpen : ℕ → Job → Found → Type 0
IsOpen turns job (found.Proved texts) = ⊥
IsOpen turns job (found.Violated world) = (0 < turns) × IsViolation job job.range world
IsOpen turns job (found.Undecided form part) = (form ≡ job.form) × IsUndecided job.range turns part

-- a job is proved, or why it isn't
abbrev pub IsStep : (turns most : ℕ) → Job → (old new : List ℕ) → Option Found → Type 0
IsStep turns most job old new None = IsProvedBehind turns most job old new
IsStep turns most job old new (Some end) = IsOpen turns job end

-- the first part of some jobs that isn't proved is open so
pub record IsLeft (turns : ℕ) (jobs : List Job) (form : ℕ) (part : Rect) : Type 0 where
  pub job : Job
  pub first : IsFirstOpen turns (part_most (length jobs)) jobs job
  pub form_is : form ≡ job.form
  pub undecided : IsUndecided job.range turns part

-- what a search of the jobs of all parts comes to
abbrev pub IsSearch : ℕ → List Job → Found → Type 0
IsSearch turns jobs (found.Proved texts) = AreProofs turns (part_most (length jobs)) jobs texts.items
IsSearch turns jobs (found.Violated world) = IsFound turns jobs world
IsSearch turns jobs (found.Undecided form part) = IsLeft turns jobs form part
