use Rattle.std.proofs.Common.{rules, ◌<◌, ◌^◌, FitsSigned, to_z-of_z}
use Rattle.std.specs.Int.{w128}
use Rattle.cert_text.proofs.HavingText.{part_by}
use Rattle.cert_text.proofs.spelling.is_part.Goals as goal

pub returns : goal.returns
returns c =
    let fits : FitsSigned w128 c.args.times = c.ranges.times in
    let small : c.args.number < 2 ^ 32 = search rules in
    rw (to_z-of_z fits) (part_by c.args.times c.args.number fits small)
