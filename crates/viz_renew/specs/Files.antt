-- A job file and a certificate file: which of them is refused, or the jobs and certificates that they spell.
use Rattle.std.specs.Prelude.{◌≡◌, ◌⊎◌, ℕ, ◌<◌, ◌≤◌, List, length}
use Rattle.viz_base.specs.declared.jobs.Job.{Job}
use Rattle.cert_text.specs.declared.certificate.Cert.{Cert}
use Rattle.cert_file.specs.Files.{AreReadFor}
use Rattle.viz_replies.specs.declared.reply.Answer.{Answer}
use Rattle.viz_replies.specs.declared.reply.Answer.TheVariants as ends
use Rattle.viz_replies.specs.Certificates.{IsTooLongCert, IsUnspelled, cert_most}
use Rattle.viz_replies.specs.Jobs.{AreRefused, SpellJobs, job_most, long_line}

-- a job file that is too long comes first
pub record IsLongJob (bytes : List ℕ) (answer : Answer) (output : List ℕ) : Type 0 where
  pub long : job_most < length bytes
  pub answer_is : answer ≡ ends.JobRefused
  pub text : output ≡ long_line

-- a certificate file that is too long comes second
pub record IsLongCert (bytes cert : List ℕ) (answer : Answer) (output : List ℕ) : Type 0 where
  pub short_job : length bytes ≤ job_most
  pub why : IsTooLongCert cert output
  pub answer_is : answer ≡ ends.CertRefused

-- a job file that is refused comes third
pub record IsRefusedJob (bytes cert : List ℕ) (answer : Answer) (output : List ℕ) : Type 0 where
  pub short_cert : length cert ≤ cert_most
  pub why : AreRefused bytes output
  pub answer_is : answer ≡ ends.JobRefused

-- a certificate file that isn't as many certificates as the job has parts comes last
pub record IsNoCertFile (bytes cert : List ℕ) (answer : Answer) (output : List ℕ) : Type 0 where
  pub jobs : List Job
  pub spelled : SpellJobs bytes jobs
  pub why : IsUnspelled (length jobs) cert output
  pub answer_is : answer ≡ ends.CertRefused

-- one of both files is refused
abbrev pub IsRefused : (bytes cert : List ℕ) → Answer → List ℕ → Type 0
IsRefused bytes cert answer output =
    IsLongJob bytes answer output
    ⊎ (IsLongCert bytes cert answer output
    ⊎ (IsRefusedJob bytes cert answer output ⊎ IsNoCertFile bytes cert answer output))

-- both spell jobs, one for each part, and certificates, each taken with the digest of its part's job in place of its own
pub record AreSpelledBy (bytes cert : List ℕ) (replied : List Job → List Cert → Type 0) : Type 0 where
  pub short : length cert ≤ cert_most
  pub jobs : List Job
  pub spelled : SpellJobs bytes jobs
  pub certs : List Cert
  pub read : AreReadFor jobs cert certs
  pub reply : replied jobs certs

-- what is replied where both are spelled, or the refusal
abbrev pub IsReplyOver : (bytes cert : List ℕ) → Answer → List ℕ → (List Job → List Cert → Type 0) → Type 0
IsReplyOver bytes cert answer output replied =
    AreSpelledBy bytes cert replied ⊎ IsRefused bytes cert answer output
