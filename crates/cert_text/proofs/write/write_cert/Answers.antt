use Rattle.std.proofs.Common.{◌≡◌}
use Rattle.cert_text.specs.Texts.{cert_text}
use Rattle.cert_text.proofs.write.write_cert.Goals as goal

pub returns : goal.returns
returns c =
    let written : c.push_cert.new.text.items ≡ cert_text c.args.cert.now = rw c.new-text.ensures.items at c.in_ok-push_cert.ensures in
    (c.requires.1.0, written)
