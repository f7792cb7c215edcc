use Rattle.std.proofs.Common.{arith}
use Rattle.std.proofs.lemmas.Grind.{common_steps}
use Rattle.lay_tree.proofs.ContentLemmas.{content-line}
use Rattle.lay_tree.proofs.contents.+lines.Goals as goal

pub is_in_lines-returns-then-is_in_line : goal.is_in_lines-returns-then-is_in_line
is_in_lines-returns-then-is_in_line t c = let is = content-line c.args.tree.now c.args.at in grind (arith, common_steps)

pub is_in_lines-returns : goal.is_in_lines-returns
is_in_lines-returns t c = let is = content-line c.args.tree.now c.args.at in grind (arith, common_steps)
