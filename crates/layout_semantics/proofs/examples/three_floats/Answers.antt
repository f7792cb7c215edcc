use Rattle.std.proofs.Common.{refl}
use Rattle.layout_semantics.proofs.OnPages.{renderings_on_pages}
use Rattle.layout_semantics.proofs.examples.three_floats.Goals as goal

pub returns : goal.returns
unfolding renderings_on_pages
returns c = λ ok. refl
