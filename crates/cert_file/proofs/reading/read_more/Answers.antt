use Rattle.cert_text.specs.Texts.{cert_text}
use Rattle.cert_file.specs.Files.{with_digest}
use Rattle.cert_file.proofs.ReadLemmas.{spelled_so}
use Rattle.cert_file.proofs.reading.read_more.Goals as goal

pub returns-in-Ok-clause-read : goal.returns-in-Ok-clause-read
returns-in-Ok-clause-read c =
    let front = c.in_ok-front.front in
    let digest = c.args.job.now.digest in
    let is = c.with_digest.ensures.cert in
    record {
      within = c.in_ok-front.ensures.read.within;
      cert = front.cert;
      text = c.in_ok-front.ensures.read.text;
      pushed = rw is at c.in-Ok.ensures.ok;
      spelled = cert_text (with_digest digest front.cert);
      spells = spelled_so digest front.cert _ c.with_digest.ensures.spelled c.in_ok-front.ensures.read.text;
    }
