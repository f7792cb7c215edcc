use Rattle.std.proofs.Common.{arith, ◌-ℤ◌}
use Rattle.std.proofs.lemmas.Int.{to_z-of_z}
use Rattle.viz_calc.proofs.PlainLemmas.{Cause-fitted}
use Rattle.viz_calc.proofs.plain.PlainCalc.sub.Goals as goal

pub returns-clause-cause : goal.returns-clause-cause
returns-clause-cause c = Cause-fitted c.args.self.now.world (c.args.a.now -ℤ c.args.b.now) _ (grind (arith, to_z-of_z, c.difference.ensures))
