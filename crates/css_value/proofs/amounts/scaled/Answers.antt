use Rattle.std.proofs.Common.{◌≤◌, ◌^◌, ◌*ℤ◌, unsigned_abs, w64, FitsSigned, to_z-of_z, arith}
use Rattle.std.proofs.lemmas.Int.{ints, fits_signed_mul}
use Rattle.css_value.proofs.amounts.scaled.Goals as goal

pub overflow_mul-product : goal.overflow_mul-product
overflow_mul-product c =
    let large : unsigned_abs c.args.n ≤ 2 ^ 40 = omega (arith, ints, c.requires.low, c.requires.high) in
    let few : unsigned_abs c.args.times ≤ 2 ^ 20 = omega (arith, ints, c.requires.few, c.requires.small) in
    let fits : FitsSigned w64 (c.args.n *ℤ c.args.times) = fits_signed_mul w64 c.args.n c.args.times (2 ^ 40) (2 ^ 20) large few (omega arith) in
    rw (to_z-of_z c.ranges.n) (rw (to_z-of_z c.ranges.times) fits)
