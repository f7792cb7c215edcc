use Rattle.std.proofs.Common.{rules, pos, ◌<◌, length, FitsSigned, arith}
use Rattle.std.specs.Int.{w128}
use Rattle.std.proofs.lemmas.Int.{to_z-of_z}
use Rattle.lin_search.specs.Answers.{at_point}
use Rattle.lin_search.proofs.TermSums.{sum_more}
use Rattle.lin_search.proofs.points.value_at.Goals as goal

pub loop-term-preserved : goal.loop-term-preserved
loop-term-preserved c =
    let items = c.as_slice-term-items.result.now in
    let within : c.loop-term.term-index < length items = omega (arith, c.loop-term-test.true) in
    let fits : FitsSigned w128 c.in_ok-sum.sum = search rules in
    rw to_z-of_z (sum_more items c.loop-term.term-index (0, pos 0) _ _ _ (at_point c.args.values.now) within c.in_ok-sum.ensures c.loop-term.invariant)
