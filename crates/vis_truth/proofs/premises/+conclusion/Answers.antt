use Rattle.std.proofs.Common.{sym, ◌∙◌}
use Rattle.std.proofs.lemmas.Result.{IfOk-weaker, IfErr-weaker}
use Rattle.viz_calc.specs.Renderings.{rendering_at}
use Rattle.vis_truth.proofs.Views.{implied-by-true, implied-by-false, small-left, bare-left, tame-bare, Cause-given, Cause-after}
use Rattle.vis_truth.proofs.premises.+conclusion.Goals as goal

pub returns-in-Ok-true-clause-value : goal.returns-in-Ok-true-clause-value
returns-in-Ok-true-clause-value g t c =
    IfOk-weaker c.conclusion.result _ _
    (λ left h e o r.
    implied-by-true r (rendering_at g.C.Calc.at (record { boxes = c.new.result }) e) e.world c.args.f.now c.in-Implies.a c.in-Implies.b _ _ c.in-Implies.is c.get-premise.ensures c.get.ensures
    (sym c.is_bare.ensures ∙ c.if-not-is_bare.false) (sym c.in-Ok-true.field-0-test ∙ c.in-Ok-true.ensures.value e (c.conclusion.ensures.grows.closes e o))
    ∙ h e o r)
    c.conclusion.ensures.value

pub returns-in-Ok-true-clause-small : goal.returns-in-Ok-true-clause-small
returns-in-Ok-true-clause-small g t c =
    IfOk-weaker c.conclusion.result _ _
    (λ left h s. h (small-left c.args.f.now c.in-Implies.a c.in-Implies.b _ c.in-Implies.is c.get.ensures s))
    c.conclusion.ensures.small

pub returns-in-Ok-true-clause-cause : goal.returns-in-Ok-true-clause-cause
returns-in-Ok-true-clause-cause g t c =
    let old = g.C.Calc.state c.args.calc.now in
    let mid = g.C.Calc.state c.truth.new.calc in
    let new = g.C.Calc.state c.conclusion.new.calc in
    let grows = c.truth.ensures.grows in
    IfErr-weaker c.conclusion.result _ _
    (λ h cause. Cause-after old mid new _ _ h grows (bare-left old mid c.args.f.now c.in-Implies.a c.in-Implies.b _ grows c.in-Implies.is c.get.ensures) cause)
    c.conclusion.ensures.cause

pub returns-in-Ok-false-clause-value : goal.returns-in-Ok-false-clause-value
returns-in-Ok-false-clause-value g t c = λ e o r.
    implied-by-false r (rendering_at g.C.Calc.at (record { boxes = c.new.result }) e) e.world c.args.f.now c.in-Implies.a c.in-Implies.b _ c.in-Implies.is c.get-premise.ensures
    (sym c.is_bare.ensures ∙ c.if-not-is_bare.false) (sym c.in-Ok-false.field-0-test ∙ c.in-Ok-false.ensures.value e o)

pub returns-in-Implies-clause-cause : goal.returns-in-Implies-clause-cause
returns-in-Implies-clause-cause g t c =
    Cause-given (g.C.Calc.state c.args.calc.now) (g.C.Calc.state c.truth.new.calc) _ _ c.in-Err.halt
    (tame-bare (g.C.Calc.state c.args.calc.now).is_open g.C.Calc.at (record { boxes = c.new.result }) c.args.f.now c.in-Implies.a c.in-Implies.b _ c.new.ensures c.in-Implies.is c.get-premise.ensures)
    c.in-Err.ensures.cause
