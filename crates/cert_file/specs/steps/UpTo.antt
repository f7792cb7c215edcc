-- What was read of a certificate file up to a part.
use Rattle.std.specs.Prelude.{◌≡◌, ℕ, ◌≤◌, List, length, take, Option, Some, None}
use Rattle.viz_base.specs.declared.jobs.Job.{Job}
use Rattle.cert_text.specs.declared.certificate.Cert.{Cert}
use Rattle.cert_text.specs.Texts.{CertText}
use Rattle.cert_text.specs.Pieces.{HasNoText}
use Rattle.cert_check.specs.declared.verdicts.Verdict.{Verdict}
use Rattle.cert_check.specs.declared.verdicts.Verdict.TheVariants.{Accepted, Rejected}
use Rattle.cert_check.specs.Bytes.{IsSpelledVerdict}
use Rattle.cert_file.specs.declared.checking.Wrong.{Wrong}
use Rattle.cert_file.specs.declared.checking.Found.{Found}
use Rattle.cert_file.specs.declared.checking.Found.TheVariants.{Read, Grammar}
use Rattle.cert_file.specs.Files.{AreTexts, AllPass, IsFirstWrong}

-- ---- one certificate

-- the first `n` bytes are a certificate's text
abbrev pub HasText : List ℕ → ℕ → Type 0
HasText bytes n = (n ≤ length bytes) × ((cert : Cert) × CertText cert (take n bytes))

-- what is wrong with the certificate of a part that has this verdict
abbrev pub wrong_of : ℕ → Verdict → Option Wrong
wrong_of part Accepted = None
wrong_of part (Rejected reject) = Some (record { part = part; reject = reject })

-- what stands at the front of the bytes, where all certificates before it pass: the text of one, which is judged
abbrev pub IsJudged : Job → ℕ → List ℕ → Found → Type 0
IsJudged job part bytes (Read n first) = (n ≤ length bytes)
    × ((verdict : Verdict) × (first ≡ wrong_of part verdict) × IsSpelledVerdict job (take n bytes) verdict)
IsJudged job part bytes (Grammar at) = HasNoText bytes at

-- and behind a wrong one: the text of one, which is not judged
abbrev pub IsPassed : Wrong → List ℕ → Found → Type 0
IsPassed wrong bytes (Read n first) = (first ≡ Some wrong) × HasText bytes n
IsPassed wrong bytes (Grammar at) = HasNoText bytes at

abbrev pub IsFound : Job → ℕ → List ℕ → Option Wrong → Found → Type 0
IsFound job part bytes None found = IsJudged job part bytes found
IsFound job part bytes (Some wrong) found = IsPassed wrong bytes found

-- ---- the certificates so far

-- all pass, or this is the first that is wrong
abbrev pub AreJudged : List Job → List Cert → Option Wrong → Type 0
AreJudged jobs certs None = AllPass jobs certs
AreJudged jobs certs (Some wrong) = IsFirstWrong jobs certs wrong.part wrong.reject

-- the bytes before `at` are the texts of certificates, one for each of the jobs, and so they are judged
pub record IsUpTo (jobs : List Job) (bytes : List ℕ) (at : ℕ) (wrong : Option Wrong) : Type 0 where
  pub within : at ≤ length bytes
  pub certs : List Cert
  pub texts : AreTexts certs (take at bytes)
  pub judged : AreJudged jobs certs wrong
