use Rattle.std.proofs.Common.{arith, ap, sum_by}
use Rattle.std.specs.Str.{chars}
use Rattle.viz_base.specs.FontSizes.{advance}
use Rattle.lay_length.proofs.Advances.{sum-most}
use Rattle.lay_length.proofs.texts.advances_of.Goals as goal

pub overflow_add-units : goal.overflow_add-units
overflow_add-units c =
    let all = sum-most c.args.font.now (chars c.args.text.now) in
    let step = ap (sum_by (advance c.args.font.now)) c.in-Some.ensures.letters in
    let is = c.advance_of.ensures in
    let so_far = c.loop-letter.invariant.all in
    omega arith

pub returns-clause-most : goal.returns-clause-most
returns-clause-most c = let all = sum-most c.args.font.now (chars c.args.text.now) in let so_far = c.loop-letter.invariant.all in omega arith
