-- Certificate files: the texts of certificates, one for each part of a job, one after another.
use Rattle.std.specs.Prelude.{◌≡◌, ℕ, suc, ◌≤◌, List, [], ◌∷◌, ◌++◌, length, take, ⊤}
use Rattle.viz_base.specs.declared.jobs.Job.{Job}
use Rattle.cert_text.specs.declared.certificate.Cert.{Cert}
use Rattle.cert_text.specs.declared.certificate.CertFault.{CertFault}
use Rattle.cert_text.specs.declared.certificate.CertFault.TheVariants as of_fault
use Rattle.cert_text.specs.Texts.{CertText}
use Rattle.cert_check.specs.declared.verdicts.Reject.{Reject}
use Rattle.cert_check.specs.Verdicts.{IsCause, Passes}
use Rattle.cert_file.specs.declared.verdict.FileVerdict.{FileVerdict}
use Rattle.cert_file.specs.declared.verdict.FileVerdict.TheVariants.{Accepted, Rejected, Grammar}

-- ---- texts

-- the bytes are the texts of these certificates, one behind another
pub data AreTexts : List Cert → List ℕ → Type 0 where
  nothing : AreTexts [] []
  first : {cert : Cert} {certs : List Cert} {text rest : List ℕ}
      → CertText cert text → AreTexts certs rest → AreTexts (cert ∷ certs) (text ++ rest)

-- so many certificates have these bytes as their texts
pub record IsFileOf (count : ℕ) (bytes : List ℕ) : Type 0 where
  pub certs : List Cert
  pub as_many : length certs ≡ count
  pub texts : AreTexts certs bytes

-- a file of so many certificates begins with these bytes
abbrev pub BeginsFile : ℕ → List ℕ → Type 0
BeginsFile count bytes = (more : List ℕ) × IsFileOf count (bytes ++ more)

-- the bytes are no file of so many certificates, and their longest prefix that begins one has the length `at`
pub record IsNoFile (count : ℕ) (bytes : List ℕ) (at : ℕ) : Type 0 where
  pub no_file : IsFileOf count bytes → ⊥
  pub within : at ≤ length bytes
  pub begins : BeginsFile count (take at bytes)
  pub longest : (n : ℕ) → n ≤ length bytes → BeginsFile count (take n bytes) → n ≤ at

-- ---- verdicts

-- each certificate passes for its part's job
pub data AllPass : List Job → List Cert → Type 0 where
  nothing : AllPass [] []
  first : {job : Job} {jobs : List Job} {cert : Cert} {certs : List Cert}
      → Passes job cert → AllPass jobs certs → AllPass (job ∷ jobs) (cert ∷ certs)

-- those of this many parts pass, and that of the next is rejected so; there is one for each part
pub data IsFirstWrong : List Job → List Cert → ℕ → Reject → Type 0 where
  here : {job : Job} {jobs : List Job} {cert : Cert} {certs : List Cert} {reject : Reject}
      → IsCause job cert reject → length certs ≡ length jobs → IsFirstWrong (job ∷ jobs) (cert ∷ certs) 0 reject
  later : {job : Job} {jobs : List Job} {cert : Cert} {certs : List Cert} {part : ℕ} {reject : Reject}
      → Passes job cert → IsFirstWrong jobs certs part reject
      → IsFirstWrong (job ∷ jobs) (cert ∷ certs) (suc part) reject

-- the bytes are the texts of certificates, which all pass
pub record IsAccepted (jobs : List Job) (bytes : List ℕ) : Type 0 where
  pub certs : List Cert
  pub texts : AreTexts certs bytes
  pub pass : AllPass jobs certs

-- the bytes are the texts of as many certificates as there are parts, and this is the first that is wrong
pub record IsWrong (jobs : List Job) (bytes : List ℕ) (part : ℕ) (reject : Reject) : Type 0 where
  pub certs : List Cert
  pub texts : AreTexts certs bytes
  pub wrong : IsFirstWrong jobs certs part reject

-- the verdict on the bytes of a certificate file, for the jobs of its parts
abbrev pub IsFileVerdict : List Job → List ℕ → FileVerdict → Type 0
IsFileVerdict jobs bytes Accepted = IsAccepted jobs bytes
IsFileVerdict jobs bytes (Rejected part reject) = IsWrong jobs bytes part reject
IsFileVerdict jobs bytes (Grammar at) = IsNoFile (length jobs) bytes at

-- ---- certificates for other jobs

-- the certificate with this digest in place of its own
abbrev pub with_digest : List ℕ → Cert → Cert
with_digest digest cert = record { form = cert.form; job = digest; root = cert.root }

-- each with that of its part's job
abbrev pub renamed : List Job → List Cert → List Cert
renamed [] certs = []
renamed (job ∷ jobs) [] = []
renamed (job ∷ jobs) (cert ∷ certs) = with_digest job.digest cert ∷ renamed jobs certs

-- the bytes are the texts of certificates, one for each part, and these are they with those digests, which have texts
pub record AreReadFor (jobs : List Job) (bytes : List ℕ) (certs : List Cert) : Type 0 where
  pub given : List Cert
  pub texts : AreTexts given bytes
  pub as_many : length given ≡ length jobs
  pub are : certs ≡ renamed jobs given
  pub spelled : List ℕ
  pub spell : AreTexts certs spelled

-- why bytes are no file of so many certificates; want of memory says nothing
abbrev pub IsFileFault : CertFault → ℕ → List ℕ → Type 0
IsFileFault of_fault.Mem count bytes = ⊤
IsFileFault (of_fault.Grammar at) count bytes = IsNoFile count bytes at
