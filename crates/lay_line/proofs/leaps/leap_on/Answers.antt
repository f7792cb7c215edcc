use Rattle.std.proofs.Common.{◌<◌, ◌+◌, refl, sym, arith}
use Rattle.std.proofs.lemmas.Bool.Decides.{nat_tests}
use Rattle.lay_line.specs.Items.{bare_of}
use Rattle.lay_line.specs.steps.Leaping.{is_plain}
use Rattle.lay_line.proofs.AtOnce.{led-next, leap-more}
use Rattle.lay_line.proofs.leaps.leap_on.Goals as goal

pub loop-next-preserved : goal.loop-next-preserved
loop-next-preserved g c =
    let one = c.in_ok-one.one in
    let now = c.loop-next in
    let next = c.in-Some.next in
    let goes = c.in-Some.ensures.1.1 in
    let less : now.count < c.args.most = grind (arith, nat_tests, goes) in
    led-next (λ ps. is_plain (bare_of ps)) one.rest.pieces.now one.rest.marks.now c.args.most now.rest.pieces.now next.first.now next.rest.pieces.now now.rest.marks.now next.rest.marks.now now.count (now.count + 1)
    now.invariant c.in-Some.ensures.0 c.in-Some.ensures.1.0 less refl

pub returns : goal.returns
returns g c =
    let one = c.in_ok-one.one in
    let all = c.args.segments.now in
    leap-more (λ ps. is_plain (bare_of ps)) all.pieces.now all.marks.now one.first.now one.rest.pieces.now one.rest.marks.now c.args.most c.in_ok-one.ensures.0 c.loop-next.rest.pieces.now c.split_at.result.0.now c.loop-next.rest.marks.now
    c.loop-next.count c.saturating_sub-taken.result (sym c.if-not-is_plain.ensures) c.loop-next.invariant c.saturating_sub-taken.ensures c.split_at.ensures.front
