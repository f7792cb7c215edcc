use Rattle.std.proofs.Common.{refl}
use Rattle.logic_semantics.proofs.values_of_edges.Goals as goal

pub returns-clause-boxes : goal.returns-clause-boxes
returns-clause-boxes c = λ scene names name box is. record {
  margin = record { left = rw is refl; top = rw is refl; right = rw is refl; bottom = rw is refl };
  border = record { left = rw is refl; top = rw is refl; right = rw is refl; bottom = rw is refl };
  padding = record { left = rw is refl; top = rw is refl; right = rw is refl; bottom = rw is refl };
  content = record { left = rw is refl; top = rw is refl; right = rw is refl; bottom = rw is refl };
}

pub returns-clause-viewport : goal.returns-clause-viewport
returns-clause-viewport c = λ r world names. (refl, refl, refl)
