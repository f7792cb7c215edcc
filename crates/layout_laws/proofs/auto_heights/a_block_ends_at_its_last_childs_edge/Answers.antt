use Rattle.std.proofs.Common.{refl}
use Rattle.layout_laws.proofs.auto_heights.a_block_ends_at_its_last_childs_edge.Goals as goal

pub returns-clause-joined : goal.returns-clause-joined
returns-clause-joined c tree w inside cb top p k f t = rw (f, t) refl

pub returns-clause-apart : goal.returns-clause-apart
returns-clause-apart c tree w inside cb top p k f t = rw (f, t) refl
