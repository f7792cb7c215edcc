use Rattle.std.proofs.Common.{refl}
use Rattle.sym_calc.specs.Calc.{facts_of, named_of}
use Rattle.sym_calc.specs.Kept.{reading_by, kept_is_open}
use Rattle.sym_calc.proofs.laws.sym_keeps_its_worlds.Goals as goal

pub returns : goal.returns
returns c =
    let s = c.args.sym.now in
    λ w t. record { reading = reading_by s.path.now.origin.form (named_of s) w; world = refl; is_open = kept_is_open s.path.now.origin (facts_of s) (named_of s) w t }
