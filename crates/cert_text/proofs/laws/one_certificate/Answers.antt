use Rattle.std.proofs.Common.{◌≡◌, ◌++◌, [], sym, subst}
use Rattle.std.proofs.lemmas.List.{append-nil}
use Rattle.cert_text.specs.Texts.{CertText}
use Rattle.cert_text.proofs.Language.{agree_begins}
use Rattle.cert_text.proofs.Certificates.{good_cert}
use Rattle.cert_text.proofs.laws.one_certificate.Goals as goal

pub returns : goal.returns
returns c = λ first second text h k.
    (agree_begins (first ≡ second) text [] (good_cert.plain first second text (text ++ []) h (subst (λ t. CertText second t) (sym (append-nil text)) k))).1
