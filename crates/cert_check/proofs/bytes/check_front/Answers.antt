use Rattle.std.proofs.Common.{◌∙◌, ap}
use Rattle.cert_text.specs.Pieces.{bytes_of}
use Rattle.cert_check.proofs.Findings.{front_judged}
use Rattle.cert_check.proofs.bytes.check_front.Goals as goal

pub returns-in-Ok : goal.returns-in-Ok
returns-in-Ok c =
    let reading = c.judge_whole.new.reader in
    let bytes = c.judge_whole.ensures.bytes ∙ ap bytes_of c.new-reader.ensures.front in
    front_judged c.args.job.now reading c.in-Ok.verdict c.in-Ok.ensures.found c.args.bytes.now bytes c.place.result c.place.ensures
