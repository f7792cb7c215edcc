-- What was read of a certificate file up to a part, and one certificate more.
use Rattle.std.specs.Prelude.{◌≡◌, ℕ, ◌≤◌, List, [], ◌∷◌, ◌++◌, length, take}
use Rattle.viz_base.specs.declared.jobs.Job.{Job}
use Rattle.cert_text.specs.declared.certificate.Cert.{Cert}
use Rattle.cert_text.specs.Texts.{CertText}
use Rattle.cert_file.specs.declared.reading.Front.{Front}
use Rattle.cert_file.specs.Files.{AreTexts, renamed, with_digest}

-- the bytes begin with the text of this certificate
pub record IsReadFront (bytes : List ℕ) (front : Front) : Type 0 where
  pub within : front.length ≤ length bytes
  pub text : CertText front.cert (take front.length bytes)

-- so it is with one certificate, which goes behind the others with the job's digest
pub record IsReadMore (job : Job) (bytes : List ℕ) (old new : List Cert) (n : ℕ) : Type 0 where
  pub within : n ≤ length bytes
  pub cert : Cert
  pub text : CertText cert (take n bytes)
  pub pushed : new ≡ old ++ with_digest job.digest cert ∷ []
  pub spelled : List ℕ
  pub spells : CertText (with_digest job.digest cert) spelled

-- the bytes before `at` are the texts of certificates, one for each of the jobs
pub record AreReadUpTo (jobs : List Job) (bytes : List ℕ) (at : ℕ) (certs : List Cert) : Type 0 where
  pub within : at ≤ length bytes
  pub given : List Cert
  pub texts : AreTexts given (take at bytes)
  pub as_many : length given ≡ length jobs
  pub are : certs ≡ renamed jobs given
  pub spelled : List ℕ
  pub spell : AreTexts certs spelled
