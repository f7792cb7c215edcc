use Rattle.std.proofs.Common.{arith, drop, ◌∙◌, sym}
use Rattle.css_value.proofs.PartLemmas.{stretch_none}
use Rattle.css_value.proofs.brackets.bracket_len.Goals as goal

pub returns-then-is_none-clause-is : goal.returns-then-is_none-clause-is
returns-then-is_none-clause-is c = omega (arith, c.loop-at.invariant, stretch_none c.loop-at.marks (drop c.loop-at.at c.args.tokens.now) (sym c.is_none.ensures ∙ c.if-is_none.true))
