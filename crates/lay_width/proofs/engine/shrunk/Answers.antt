use Rattle.std.proofs.Common.{arith}
use Rattle.lay_width.proofs.ClampedTerms.{shrunk-by}
use Rattle.lay_width.proofs.engine.shrunk.Goals as goal

pub returns-clause-value : goal.returns-clause-value
returns-clause-value g c = λ e o p. let is = shrunk-by c.args.tree.now e.world c.args.b (g.S.Steady.at c.args.cb.now e) in grind arith
