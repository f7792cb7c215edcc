use Rattle.std.proofs.Common.{arith}
use Rattle.viz_calc.proofs.PlainLemmas.{world-stays}
use Rattle.viz_calc.proofs.plain.plain_stays.Goals as goal

pub returns : goal.returns
returns c = let same = world-stays c.args.old.now.world c.args.new.now.world c.requires in grind arith
