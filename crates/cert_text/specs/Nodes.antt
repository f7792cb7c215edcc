-- How many nodes a certificate has.
use Rattle.std.specs.Prelude.{ℕ, ◌+◌}
use Rattle.cert_text.specs.declared.certificate.CertNode.{CertNode}
use Rattle.cert_text.specs.declared.certificate.CertNode.TheOpen.{CertNode-F}
use Rattle.cert_text.specs.declared.certificate.CertNode.TheFolds.{fold-CertNode}

abbrev pub count_step : CertNode-F ℕ → ℕ
count_step (CertNode-F.Def row d below) = 1 + below
count_step (CertNode-F.Split row first second) = 1 + (first + second)
count_step (CertNode-F.Lemma row why below) = 1 + below
count_step (CertNode-F.Void why) = 1
count_step CertNode-F.Grid = 1
count_step (CertNode-F.Leaf answers) = 1

-- a node and all below it
abbrev pub node_count : CertNode → ℕ
node_count = fold-CertNode ℕ count_step
