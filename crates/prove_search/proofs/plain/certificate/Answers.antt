use Rattle.prove_search.proofs.Proved.{digest_spelled}
use Rattle.prove_search.proofs.plain.certificate.Goals as goal

pub returns-clause-spelled : goal.returns-clause-spelled
returns-clause-spelled c = digest_spelled c.args.digest.now c.told-digest c.fits-digest
