-- How many nodes a certificate's text has.
use Rattle.std.proofs.Common.{ℕ, ◌≤◌, List, length, arith}
use Rattle.cert_text.specs.declared.certificate.Cert.{Cert}
use Rattle.cert_text.specs.Texts.{CertText}
use Rattle.cert_text.proofs.NodeCounts.{count_bound}
use Rattle.cert_semantics.specs.Paths.{root}
use Rattle.cert_semantics.specs.Nodes.{nodes_of}
use Rattle.cert_check.proofs.Tellings.{count_is}

pub few : (form : ℕ) (cert : Cert) (text : List ℕ) → CertText cert text → length (nodes_of form cert) ≤ length text
few form cert text h =
    let nodes = count_bound cert text h in
    let count = count_is cert.root (root form) in
    omega arith
