use Rattle.std.proofs.Common.{IsTrue, ap, ◌∙◌}
use Rattle.viz_calc.specs.Plain.{plain_reading}
use Rattle.viz_calc.proofs.PlainLemmas.{open_reading}
use Rattle.cert_check.specs.Truths.{is_true_at}
use Rattle.cert_check.specs.steps.Narrow.{narrow_state}
use Rattle.cert_check.proofs.NarrowWorlds.{narrow-stays}
use Rattle.cert_check.proofs.worlds.holds_at.Goals as goal

pub returns-in-Ok : goal.returns-in-Ok
returns-in-Ok c =
    let w = c.new.result.world in
    let stays = narrow-stays w c.truth_over.new.calc.world (c.in-Ok.ensures).grows in
    let is_open : IsTrue ((narrow_state c.truth_over.new.calc.world).is_open (plain_reading w)) = rw stays (open_reading w) in
    (c.in-Ok.ensures).value (plain_reading w) is_open ∙ ap (is_true_at c.args.job.now) c.new.ensures
