use Rattle.std.proofs.Common.{length}
use Rattle.viz_replies.specs.Replies.{AreProofs, part_most}
use Rattle.viz_replies.proofs.SearchLemmas.{ends_open, proved_more}
use Rattle.viz_replies.proofs.searches.search.Goals as goal

pub loop-job-init : goal.loop-job-init
loop-job-init c = rw c.new-texts.ensures.items AreProofs.nothing

pub returns-in-Some : goal.returns-in-Some
returns-in-Some c =
    let open_so = rw c.in-Some.is at c.in_ok-end.ensures in
    ends_open c.args.turns c.args.jobs.now c.loop-job.job-index c.job-item.result c.loop-job.texts.items c.in-Some.end c.loop-job-test.true c.job-item.is c.loop-job.invariant open_so

pub loop-job-preserved : goal.loop-job-preserved
loop-job-preserved c =
    let step = rw c.in_default.is at c.in_ok-end.ensures in
    let proved = rw c.part_most-most.ensures.given at step in
    proved_more c.args.turns (part_most (length c.args.jobs.now)) c.args.jobs.now c.loop-job.job-index c.job-item.result c.loop-job.texts.items c.search_part.new.texts.items c.loop-job-test.true c.job-item.is
    c.loop-job.invariant proved
