use Rattle.std.proofs.Common.{◌∙◌, ◌++◌, ap}
use Rattle.cert_file.specs.Files.{AreTexts}
use Rattle.viz_renew.proofs.FileLemmas.{text_at, texts_more}
use Rattle.viz_renew.proofs.parts.texts_of.Goals as goal

pub loop-cert-init : goal.loop-cert-init
loop-cert-init c = rw c.new-texts.ensures.items AreTexts.nothing

pub write_cert-requires : goal.write_cert-requires
write_cert-requires c = text_at c.requires.1 c.loop-cert.cert-index c.cert-item.result c.loop-cert-test.true c.cert-item.is

pub loop-cert-preserved : goal.loop-cert-preserved
loop-cert-preserved c =
    texts_more c.args.certs.now c.loop-cert.cert-index c.cert-item.result c.in_ok-text.text.items c.loop-cert.texts.items _ c.loop-cert-test.true c.cert-item.is c.loop-cert.invariant c.in_ok-text.ensures
    (c.in_ok-extend_from_slice.ensures.items ∙ ap (λ x. c.loop-cert.texts.items ++ x) c.as_slice.ensures.value)
