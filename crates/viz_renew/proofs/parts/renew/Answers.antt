use Rattle.std.proofs.Common.{◌<◌, length, lit<}
use Rattle.viz_replies.specs.Replies.{AreProofs, part_most}
use Rattle.viz_replies.proofs.SearchLemmas.{proved_more}
use Rattle.viz_renew.specs.Renewals.{unbounded}
use Rattle.viz_renew.proofs.RenewLemmas.{ends_open}
use Rattle.viz_renew.proofs.parts.renew.Goals as goal

pub loop-at-init : goal.loop-at-init
loop-at-init c = rw c.new-texts.ensures.items AreProofs.nothing

pub returns-in-Some : goal.returns-in-Some
returns-in-Some c =
    let open_so = rw c.in-Some.is at c.in_ok-end.ensures in
    let some : 0 < unbounded = lit< tt in
    ends_open c.args.turns c.args.jobs.now c.loop-at.at c.index-jobs-at.result c.loop-at.texts.items c.in-Some.end some c.loop-at-test.true c.index-jobs-at.is c.loop-at.invariant open_so

pub loop-at-preserved : goal.loop-at-preserved
loop-at-preserved c =
    let step = rw c.in_default.is at c.in_ok-end.ensures in
    let proved = rw c.part_most-most.ensures.given at step in
    proved_more unbounded (part_most (length c.args.jobs.now)) c.args.jobs.now c.loop-at.at c.index-jobs-at.result c.loop-at.texts.items c.renew_part.new.texts.items c.loop-at-test.true c.index-jobs-at.is
    c.loop-at.invariant proved
