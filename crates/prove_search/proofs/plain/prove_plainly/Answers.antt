use Rattle.std.proofs.Common.{subst, sym}
use Rattle.cert_text.specs.Texts.{CertText}
use Rattle.prove_search.specs.Outcomes.{IsProof, plain_most}
use Rattle.prove_search.proofs.Proved.{proves}
use Rattle.prove_search.proofs.plain.prove_plainly.Goals as goal

pub write_cert-requires : goal.write_cert-requires
write_cert-requires c =
    let job = c.args.job.now in
    let proof = proves job c.args.turns c.in-Ok.closed job.ok.in_range c.certificate-cert.ensures.spelled c.in-Ok.ensures in
    (proof.text, subst (λ cert. CertText cert proof.text) (sym c.certificate-cert.ensures.parts) proof.spelled)

pub returns-in_ok-write_cert-in-Ok-clause-outcome : goal.returns-in_ok-write_cert-in-Ok-clause-outcome
returns-in_ok-write_cert-in-Ok-clause-outcome c =
    let job = c.args.job.now in
    let proof = proves job c.args.turns c.in-Ok.closed job.ok.in_range c.certificate-cert.ensures.spelled c.in-Ok.ensures in
    record {
      cert = c.certificate-cert.result;
      proof = subst (λ cert. IsProof job c.args.turns plain_most cert) (sym c.certificate-cert.ensures.parts) proof;
      spelled = c.in_ok-write_cert-in-Ok.ensures;
    }
