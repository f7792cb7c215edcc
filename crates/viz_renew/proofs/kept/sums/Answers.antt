use Rattle.std.proofs.Common.{◌<◌, length, arith}
use Rattle.viz_renew.specs.Kept.{AddUp}
use Rattle.viz_renew.proofs.FileLemmas.{few_here}
use Rattle.viz_renew.proofs.SumLemmas.{sums_more, all_summed}
use Rattle.viz_renew.proofs.kept.sums.Goals as goal

pub loop-at-init : goal.loop-at-init
loop-at-init c = rw c.nothing-sums.ensures AddUp.nothing

pub pieces-requires : goal.pieces-requires
pieces-requires c =
    let inside : c.loop-at.at < length c.args.certs.now = omega arith in
    record { few = few_here c.args.certs.now c.requires.few c.loop-at.at c.index-certs-at.result inside c.index-certs-at.is c.index-jobs-at.result.form }

pub loop-at-preserved : goal.loop-at-preserved
loop-at-preserved c =
    sums_more c.args.jobs.now c.args.certs.now c.loop-at.at c.loop-at.sums c.requires.as_many c.loop-at.invariant c.index-jobs-at.result c.index-certs-at.result c.in_ok-kept.kept _ c.loop-at-test.true c.index-jobs-at.is c.index-certs-at.is
    c.in_ok-kept.ensures c.in_ok-sums.ensures

pub returns : goal.returns
returns c = all_summed c.args.jobs.now c.args.certs.now c.loop-at.at c.loop-at.sums c.requires.as_many c.loop-at.invariant (omega arith)
