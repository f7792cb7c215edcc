-- Why bytes are no certificate's text, and how far they could be one's.
use Rattle.std.specs.Prelude.{ℕ, ◌≤◌, List, ◌++◌, length, take}
use Rattle.cert_text.specs.declared.certificate.Cert.{Cert}
use Rattle.cert_text.specs.declared.certificate.CertFault.{CertFault}
use Rattle.cert_text.specs.declared.certificate.CertFault.TheVariants.{Mem, Grammar}
use Rattle.cert_text.specs.Texts.{CertText}

-- some certificate's text begins with these bytes
abbrev pub BeginsText : List ℕ → Type 0
BeginsText bytes = (cert : Cert) × (more : List ℕ) × CertText cert (bytes ++ more)

-- no certificate spells the bytes, and their longest prefix that begins some certificate's text has the length `at`
pub record IsNoText (bytes : List ℕ) (at : ℕ) : Type 0 where
  pub no_text : (cert : Cert) → CertText cert bytes → ⊥
  pub within : at ≤ length bytes
  pub begins : BeginsText (take at bytes)
  pub longest : (n : ℕ) → n ≤ length bytes → BeginsText (take n bytes) → n ≤ at

-- the cause of a fault; want of memory says nothing
abbrev pub IsFault : CertFault → List ℕ → Type 0
IsFault Mem bytes = Unit {0}
IsFault (Grammar at) bytes = IsNoText bytes at
