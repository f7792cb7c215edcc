use Rattle.std.proofs.Common.{[], ◌∷◌, refl}
use Rattle.cert_text.specs.declared.due.Due.TheVariants.{Head as HeadDue}
use Rattle.cert_text.proofs.Readings.{taken_none}
use Rattle.cert_text.proofs.StreamNodes.{leads_begins}
use Rattle.cert_text.proofs.stream.Reader.new.Goals as goal

pub returns-clause-given : goal.returns-clause-given
returns-clause-given c = (leads_begins [] (HeadDue ∷ []) refl, taken_none c.args.bytes.now)
