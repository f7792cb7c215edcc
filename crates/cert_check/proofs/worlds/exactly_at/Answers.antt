use Rattle.std.proofs.Common.{◌≡◌, Option, IsTrue, sym, ap, subst, ◌∙◌}
use Rattle.std.proofs.lemmas.Result.{IfOk-weaker}
use Rattle.std.specs.Option.{option_copied}
use Rattle.viz_base.specs.declared.worlds.World.{World}
use Rattle.viz_base.specs.declared.formulas.Formula.{Formula}
use Rattle.viz_calc.specs.World.{Reading}
use Rattle.viz_calc.specs.State.{Grows}
use Rattle.viz_calc.specs.Plain.{plain_state, plain_reading}
use Rattle.vis_truth.specs.Premises.{IsLeftAt}
use Rattle.viz_calc.proofs.PlainLemmas.{still_open}
use Rattle.cert_check.specs.Truths.{rendering_of}
use Rattle.cert_check.proofs.worlds.exactly_at.Goals as goal

-- what is left of a formula by a calc at a world is what is left of it there
left_at : (f : Formula) (left found : Option Formula) (world old new : World) → left ≡ found → old ≡ world → Grows (plain_state old) (plain_state new) → ((e : Reading) → IsTrue ((plain_state new).is_open e) → IsLeftAt e.world f left) → IsLeftAt world f found
left_at f left found world old new same there grows value =
    let left_there = value (plain_reading old) (still_open old new grows) in
    subst (IsLeftAt world f) same (subst (λ v. IsLeftAt v f left) there left_there)

pub returns-in-Ok-Some : goal.returns-in-Ok-Some
returns-in-Ok-Some c =
    let job = c.args.job.now in
    let same = ap option_copied c.in-Ok-Some.field-0-is in
    let left = left_at job.formula _ _ c.args.world c.new-calc.result.world c.conclusion.new.calc.world same c.new-calc.ensures (c.in-Ok-Some.ensures).grows (c.in-Ok-Some.ensures).value in
    IfOk-weaker c.laid_out_at.result _ _ (λ b h. h ∙ sym (left (rendering_of job c.args.world))) c.laid_out_at.ensures

pub returns-in-Ok-None : goal.returns-in-Ok-None
returns-in-Ok-None c =
    let job = c.args.job.now in
    let same = ap option_copied c.in-Ok-None.field-0-is in
    let left = left_at job.formula _ _ c.args.world c.new-calc.result.world c.conclusion.new.calc.world same c.new-calc.ensures (c.in-Ok-None.ensures).grows (c.in-Ok-None.ensures).value in
    sym (left (rendering_of job c.args.world))
