use Rattle.std.proofs.Common.{◌≡◌, ◌+◌, false, arith}
use Rattle.cert_check.specs.Truths.{is_true_at}
use Rattle.viz_tables.specs.Searches.{at_width}
use Rattle.viz_tables.proofs.Widths.{only_one, up_to_next}
use Rattle.viz_tables.proofs.searching.fails_to.Goals as goal

pub loop-w-init : goal.loop-w-init
loop-w-init c =
    let world = c.args.world in
    (omega arith, c.requires.inside.width_most, only_one (λ x. is_true_at c.args.job.now (at_width x world) ≡ false) world.w c.requires.untrue)

pub loop-w-preserved : goal.loop-w-preserved
loop-w-preserved c =
    let world = c.args.world in
    let before = c.loop-w.invariant in
    let least = before.0 in
    let test = c.loop-w-test.true in
    let e = c.in_ok-holds_at.ensures in
    let f = c.if-branch.false in
    let next : is_true_at c.args.job.now (at_width (c.loop-w.w + 1) world) ≡ false = cc in
    (omega (arith, least), omega (arith, test), up_to_next (λ x. is_true_at c.args.job.now (at_width x world) ≡ false) world.w c.loop-w.w before.2 next)
