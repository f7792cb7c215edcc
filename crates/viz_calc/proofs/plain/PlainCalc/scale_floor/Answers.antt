use Rattle.std.proofs.Common.{arith, pos, ◌*ℤ◌}
use Rattle.std.specs.Int.{int_div_euclid}
use Rattle.std.proofs.lemmas.Int.{to_z-of_z}
use Rattle.viz_calc.proofs.PlainLemmas.{Cause-fitted}
use Rattle.viz_calc.proofs.plain.PlainCalc.scale_floor.Goals as goal

pub returns-clause-cause : goal.returns-clause-cause
returns-clause-cause c = Cause-fitted c.args.self.now.world (int_div_euclid (c.args.num *ℤ c.args.a.now) (pos c.args.den)) _ (grind (arith, to_z-of_z, c.scaled.ensures))
