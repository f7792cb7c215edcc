-- The renewal of a certificate file under a job file.
use Rattle.std.specs.Prelude.{◌≡◌, ◌⊎◌, ℕ, ◌-◌, ◌^◌, List, [], ◌∷◌, length}
use Rattle.viz_base.specs.declared.jobs.Job.{Job}
use Rattle.viz_base.specs.declared.worlds.World.{World}
use Rattle.viz_base.specs.declared.worlds.Rect.{Rect}
use Rattle.cert_text.specs.declared.certificate.Cert.{Cert}
use Rattle.cert_check.specs.Right.{AreUnitsAndGrids, Right}
use Rattle.cert_check.specs.Verdicts.{Passes}
use Rattle.cert_file.specs.Files.{AreTexts}
use Rattle.prove_search.specs.Outcomes.{IsUndecided}
use Rattle.viz_replies.specs.declared.reply.Answer.{Answer}
use Rattle.viz_replies.specs.declared.reply.Answer.TheVariants as ends
use Rattle.viz_replies.specs.Replies.{AreProofs, IsFirstOpen, IsFound, open_line, part_most, violation_text}
use Rattle.viz_replies.specs.Truths.{IsFalseThere}
use Rattle.viz_renew.specs.Files.{IsReplyOver}

-- turns that bound nothing: what is kept takes none, so a renewal may have more grids and leaves than it had turns
abbrev pub unbounded : ℕ
unbounded = 2 ^ 64 - 1

-- each certificate is of form 1 and right for its part's job, which holds
pub data AllStand : List Job → List Cert → Type 0 where
  nothing : AllStand [] []
  first : {job : Job} {jobs : List Job} {cert : Cert} {certs : List Cert} → Passes job cert → cert.form ≡ 1
      → AllStand jobs certs → AllStand (job ∷ jobs) (cert ∷ certs)

-- all certificates of the file do, and the output is their texts
pub record AreKept (jobs : List Job) (certs : List Cert) (output : List ℕ) : Type 0 where
  pub stand : AllStand jobs certs
  pub texts : AreTexts certs output

-- a part of the range that the turns left open for the first job that isn't proved
pub record IsLeftOpen (turns : ℕ) (jobs : List Job) (output : List ℕ) : Type 0 where
  pub job : Job
  pub first : IsFirstOpen unbounded (part_most (length jobs)) jobs job
  pub part : Rect
  pub undecided : IsUndecided job.range turns part
  pub text : output ≡ open_line job.form part

-- a world at which the formula of the first job that isn't proved is false, and so the assertion as it is written
pub record IsViolated (bytes : List ℕ) (jobs : List Job) (output : List ℕ) : Type 0 where
  pub world : World
  pub found : IsFound unbounded jobs world
  pub there : IsFalseThere bytes world
  pub text : output ≡ violation_text there.job world

-- as what `prove` replies, but for the count of grids and leaves; or the file's certificates are all right as they are
abbrev pub IsEnd : List ℕ → List Job → List Cert → ℕ → Answer → List ℕ → Type 0
IsEnd bytes jobs certs turns ends.Done output =
    AreKept jobs certs output ⊎ AreProofs unbounded (part_most (length jobs)) jobs output
IsEnd bytes jobs certs turns ends.Undecided output = IsLeftOpen turns jobs output
IsEnd bytes jobs certs turns ends.Violated output = IsViolated bytes jobs output
IsEnd bytes jobs certs turns answer output = ⊥

-- a certificate is of form 1, has unit splits and grids alone, and is right for a job
pub record IsPlainlyRight (job : Job) (cert : Cert) : Type 0 where
  pub form : cert.form ≡ 1
  pub plain : AreUnitsAndGrids job cert
  pub right : Right job cert

-- so is each for its part's job
pub data ArePlainlyRight : List Job → List Cert → Type 0 where
  nothing : ArePlainlyRight [] []
  first : {job : Job} {jobs : List Job} {cert : Cert} {certs : List Cert} → IsPlainlyRight job cert
      → ArePlainlyRight jobs certs → ArePlainlyRight (job ∷ jobs) (cert ∷ certs)

-- What is replied of jobs and the certificates of a file, each with its part's digest. Those that are all plain and right
-- are written as they are, for each count of turns.
pub record IsRenewal (bytes : List ℕ) (jobs : List Job) (certs : List Cert) (turns : ℕ) (answer : Answer)
    (output : List ℕ) : Type 0 where
  pub end : IsEnd bytes jobs certs turns answer output
  pub plain : ArePlainlyRight jobs certs → (answer ≡ ends.Done) × AreTexts certs output

-- what `renew` replies
abbrev pub IsReplyToRenew : (bytes cert : List ℕ) → ℕ → Answer → List ℕ → Type 0
IsReplyToRenew bytes cert turns answer output =
    IsReplyOver bytes cert answer output (λ jobs certs. IsRenewal bytes jobs certs turns answer output)
