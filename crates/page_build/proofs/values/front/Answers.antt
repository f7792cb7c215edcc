use Rattle.std.proofs.Common.{◌≤◌, length, sym, arith}
use Rattle.std.proofs.lemmas.List.{length-take-le, take_all}
use Rattle.page_build.proofs.values.front.Goals as goal

pub slice_bounds-result-end : goal.slice_bounds-result-end
slice_bounds-result-end c =
    let enough : 64 ≤ length c.args.bytes.now = omega arith in
    sym (length-take-le 64 c.args.bytes.now enough)

pub returns-else-bytes-gt64 : goal.returns-else-bytes-gt64
returns-else-bytes-gt64 c =
    let few : length c.args.bytes.now ≤ 64 = omega arith in
    sym (take_all 64 c.args.bytes.now few)
