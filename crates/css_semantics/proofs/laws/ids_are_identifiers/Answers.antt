use Rattle.css_semantics.proofs.Names.{hash_name}
use Rattle.css_semantics.proofs.laws.ids_are_identifiers.Goals as goal

pub returns : goal.returns
returns c = λ text h. hash_name text h
