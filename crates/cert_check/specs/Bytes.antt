-- The verdict on the bytes of a certificate.
use Rattle.std.specs.Prelude.{ℕ, ◌≤◌, List, length, take}
use Rattle.viz_base.specs.declared.jobs.Job.{Job}
use Rattle.cert_text.specs.declared.certificate.Cert.{Cert}
use Rattle.cert_text.specs.Texts.{CertText}
use Rattle.cert_text.specs.Fault.{IsNoText}
use Rattle.cert_text.specs.Pieces.{HasNoText}
use Rattle.cert_check.specs.declared.verdicts.Verdict.{Verdict}
use Rattle.cert_check.specs.declared.verdicts.Verdict.TheVariants as of_cert
use Rattle.cert_check.specs.declared.bytes.BytesVerdict.{BytesVerdict}
use Rattle.cert_check.specs.declared.bytes.BytesVerdict.TheVariants.{Accepted, Rejected, Grammar}
use Rattle.cert_check.specs.declared.bytes.Front.{Front}
use Rattle.cert_check.specs.declared.bytes.Front.TheVariants as of_front
use Rattle.cert_check.specs.Verdicts.{IsVerdict}

-- the bytes spell a certificate, and this is the verdict on it
abbrev pub IsSpelledVerdict : Job → List ℕ → Verdict → Type 0
IsSpelledVerdict job bytes verdict = (cert : Cert) × CertText cert bytes × IsVerdict job cert verdict

-- The verdict on bytes, for a job. They are refused by the grammar exactly where no certificate spells them; else it is
-- the verdict on the certificate that they spell.
abbrev pub IsBytesVerdict : Job → List ℕ → BytesVerdict → Type 0
IsBytesVerdict job bytes Accepted = IsSpelledVerdict job bytes of_cert.Accepted
IsBytesVerdict job bytes (Rejected reject) = IsSpelledVerdict job bytes (of_cert.Rejected reject)
IsBytesVerdict job bytes (Grammar at) = IsNoText bytes at

-- What is found of bytes that may go on behind a certificate's text, for a job: the first `n` of them are a
-- certificate's text, and this is the verdict on it; or no certificate's text stands at their front.
abbrev pub IsFront : Job → List ℕ → Front → Type 0
IsFront job bytes (of_front.Judged verdict n) = (n ≤ length bytes) × IsSpelledVerdict job (take n bytes) verdict
IsFront job bytes (of_front.Grammar at) = HasNoText bytes at
