use Rattle.std.proofs.Common.{take}
use Rattle.cert_file.specs.Files.{AreTexts}
use Rattle.viz_renew.proofs.parts.texts_of.Given as goal

abbrev pub invariant-loop-cert : goal.invariant-loop-cert
invariant-loop-cert l = AreTexts (take l.cert-index l.certs) l.texts.items
