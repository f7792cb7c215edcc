use Rattle.std.proofs.Common.{subst}
use Rattle.cert_file.specs.Files.{AreReadFor}
use Rattle.viz_renew.proofs.files.read_certificates.Goals as goal

pub returns-in-Ok : goal.returns-in-Ok
returns-in-Ok c = record {
  spelled = c.requires.spelled;
  short = c.requires.short;
  read = subst (λ js. AreReadFor js c.args.cert.now c.in-Ok.certs) c.as_slice.ensures c.in-Ok.ensures;
}
