use Rattle.std.proofs.Common.{◌∙◌, ◌≤◌, ◌^◌, ◌+◌, ◌*ℤ◌, pos, unsigned_abs, FitsSigned, to_z-of_z, arith, rules}
use Rattle.std.specs.Int.{w128}
use Rattle.std.proofs.lemmas.Int.{ints, fits_signed_mul}
use Rattle.page_boxes.proofs.fonts.product.Goals as goal

pub overflow_mul-result : goal.overflow_mul-result
overflow_mul-result c =
    let fits_num : FitsSigned w128 c.from.result = search rules in
    let fits_length : FitsSigned w128 c.from-2.result = search rules in
    let num = to_z-of_z fits_num ∙ (c.from.ensures ∙ to_z-of_z c.ranges.num) in
    let length = to_z-of_z fits_length ∙ c.from-2.ensures in
    let small : unsigned_abs c.args.num ≤ 2 ^ 63 = omega (arith, ints, c.ranges.num.sfits) in
    let fits : FitsSigned w128 (c.args.num *ℤ pos c.args.length) = fits_signed_mul w128 c.args.num (pos c.args.length) (2 ^ 63) (2 ^ 40 + 1) small c.requires (omega arith) in
    rw num (rw length fits)
