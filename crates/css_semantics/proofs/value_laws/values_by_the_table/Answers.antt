use Rattle.css_semantics.proofs.TableLemmas.{part_has}
use Rattle.css_semantics.proofs.value_laws.values_by_the_table.Goals as goal

pub returns : goal.returns
returns c = part_has
