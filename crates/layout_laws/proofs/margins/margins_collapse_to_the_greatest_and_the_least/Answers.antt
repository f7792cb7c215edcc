use Rattle.std.proofs.Common.{arith}
use Rattle.std.proofs.lemmas.Int.{ints}
use Rattle.layout_laws.proofs.Collapsed.{most_is, least_is}
use Rattle.layout_laws.proofs.margins.margins_collapse_to_the_greatest_and_the_least.Goals as goal

pub returns : goal.returns
returns c margins most least m l = let up = most_is margins most m in let down = least_is margins least l in omega (arith, ints)
