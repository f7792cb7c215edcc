use Rattle.vis_read.proofs.OneText.{answers_are_one, tokens_are_one}
use Rattle.vis_read.proofs.laws.one_answer.Goals as goal

pub returns : goal.returns
returns c = record { tokens = tokens_are_one; answer = answers_are_one }
