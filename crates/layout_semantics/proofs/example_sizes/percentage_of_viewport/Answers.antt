use Rattle.std.proofs.Common.{refl}
use Rattle.layout_semantics.proofs.OnPages.{renderings_on_pages}
use Rattle.layout_semantics.proofs.example_sizes.percentage_of_viewport.Goals as goal

pub returns-clause-low : goal.returns-clause-low
unfolding renderings_on_pages
returns-clause-low c = λ ok. refl

pub returns-clause-high : goal.returns-clause-high
unfolding renderings_on_pages
returns-clause-high c = λ ok. refl
