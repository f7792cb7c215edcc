use Rattle.layout_laws.proofs.Collapsing.{first_is_none, next_is_kept}
use Rattle.layout_laws.proofs.spaces.white_space_stands_alone.Goals as goal

pub returns-clause-first : goal.returns-clause-first
returns-clause-first c = first_is_none

pub returns-clause-next : goal.returns-clause-next
returns-clause-next c = next_is_kept
