use Rattle.std.proofs.Common.{arith}
use Rattle.std.proofs.lemmas.Grind.{common_steps}
use Rattle.viz_base.specs.Words.{words_of}
use Rattle.page_boxes.proofs.words.words_of.Goals as goal

pub returns : goal.returns
unfolding words_of
returns c = grind (arith, common_steps)
