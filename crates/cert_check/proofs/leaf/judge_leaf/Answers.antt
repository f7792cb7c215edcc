use Rattle.std.proofs.Common.{◌≡◌, ◌<◌, ◌∙◌, true, false, Some, None, sym, ap, subst, arith, IsTrue}
use Rattle.std.specs.Option.{option_copied}
use Rattle.viz_calc.specs.World.{Reading}
use Rattle.sym_calc.specs.Calc.{state_of}
use Rattle.cert_check.specs.Truths.{is_true_at}
use Rattle.cert_check.specs.declared.verdicts.Verdict.TheVariants.{Accepted, Rejected}
use Rattle.cert_check.specs.declared.verdicts.Reject.TheVariants.{Unmet, Left}
use Rattle.cert_check.specs.Leaves.{IsLeafVerdict, IsTold}
use Rattle.cert_check.proofs.Leaves.{leaf_told, leaf_accepted, leaf_left, leaf_unmet, taken_right}
use Rattle.cert_check.proofs.leaf.judge_leaf.Goals as goal

pub returns-in-Some-clause-verdict : goal.returns-in-Some-clause-verdict
returns-in-Some-clause-verdict c =
    let job = c.args.job.now in
    let old = c.args.sym.now in
    let new = c.truth_over-answer.new.calc in
    let trouble : new.trouble ≡ Some c.in-Some.trouble.now = sym c.trouble.ensures.trouble ∙ ap option_copied c.in-Some.is in
    λ path over. subst (λ r. IsLeafVerdict job c.args.node path old.tape.now (Rejected r)) (sym c.in_ok-reject_of.ensures)
    (leaf_told job old new c.truth_over-answer.ensures.grows path over c.args.node c.in-Some.trouble.now trouble)

pub returns-in-0-clause-verdict : goal.returns-in-0-clause-verdict
returns-in-0-clause-verdict c =
    let new = c.truth_over-answer.new.calc in
    let none : new.trouble ≡ None = sym c.trouble.ensures.trouble ∙ ap option_copied c.in_default.is in
    let value : (e : Reading) → IsTrue ((state_of new).is_open e) → true ≡ is_true_at c.args.job.now e.world = λ e o. sym c.in-Ok-true.field-0-test ∙ c.in-Ok-true.ensures.value e o in
    λ path over. leaf_accepted c.args.job.now c.args.sym.now new c.truth_over-answer.ensures.grows path over c.args.node value none (sym c.left.ensures ∙ c.in-0.is)

pub returns-in_default-left-clause-verdict : goal.returns-in_default-left-clause-verdict
returns-in_default-left-clause-verdict c =
    let new = c.truth_over-answer.new.calc in
    let none : new.trouble ≡ None = sym c.trouble.ensures.trouble ∙ ap option_copied c.in_default.is in
    let value : (e : Reading) → IsTrue ((state_of new).is_open e) → true ≡ is_true_at c.args.job.now e.world = λ e o. sym c.in-Ok-true.field-0-test ∙ c.in-Ok-true.ensures.value e o in
    let some : 0 < c.left.result = omega arith in
    λ path over. leaf_left c.args.job.now c.args.sym.now new c.truth_over-answer.ensures.grows path over c.args.node c.left.result value none c.left.ensures some

pub returns-in-Ok-false-clause-verdict : goal.returns-in-Ok-false-clause-verdict
returns-in-Ok-false-clause-verdict c =
    let new = c.truth_over-answer.new.calc in
    let value : (e : Reading) → IsTrue ((state_of new).is_open e) → false ≡ is_true_at c.args.job.now e.world = λ e o. sym c.in-Ok-false.field-0-test ∙ c.in-Ok-false.ensures.value e o in
    λ path over. leaf_unmet c.args.job.now c.args.sym.now new c.truth_over-answer.ensures.grows path over c.args.node value

pub returns-in-0-clause-told : goal.returns-in-0-clause-told
returns-in-0-clause-told c =
    let new = c.truth_over-answer.new.calc in
    let none : new.trouble ≡ None = sym c.trouble.ensures.trouble ∙ ap option_copied c.in_default.is in
    subst (λ t. IsTold c.args.job.now c.args.node c.args.sym.now new t Accepted) (sym none)
    (λ e o. sym (c.in-Ok-true.ensures.value e o) ∙ c.in-Ok-true.field-0-test, sym c.left.ensures ∙ c.in-0.is)

pub returns-in_default-left-clause-told : goal.returns-in_default-left-clause-told
returns-in_default-left-clause-told c =
    let new = c.truth_over-answer.new.calc in
    let none : new.trouble ≡ None = sym c.trouble.ensures.trouble ∙ ap option_copied c.in_default.is in
    subst (λ t. IsTold c.args.job.now c.args.node c.args.sym.now new t (Rejected (Left c.args.node c.left.result))) (sym none)
    (λ e o. sym (c.in-Ok-true.ensures.value e o) ∙ c.in-Ok-true.field-0-test, c.left.ensures)

pub returns-in-Ok-false-clause-told : goal.returns-in-Ok-false-clause-told
returns-in-Ok-false-clause-told c =
    let new = c.truth_over-answer.new.calc in
    let none : new.trouble ≡ None = sym c.trouble.ensures.trouble ∙ ap option_copied c.in_default.is in
    subst (λ t. IsTold c.args.job.now c.args.node c.args.sym.now new t (Rejected (Unmet c.args.node))) (sym none)
    (λ e o. sym (c.in-Ok-false.ensures.value e o) ∙ c.in-Ok-false.field-0-test)

pub returns-in-0-clause-right : goal.returns-in-0-clause-right
returns-in-0-clause-right c =
    λ none path over. taken_right c.args.job.now c.args.sym.now c.truth_over-answer.new.calc c.truth_over-answer.ensures.grows path over none

pub returns-in_default-left-clause-right : goal.returns-in_default-left-clause-right
returns-in_default-left-clause-right c =
    λ none path over. taken_right c.args.job.now c.args.sym.now c.truth_over-answer.new.calc c.truth_over-answer.ensures.grows path over none

pub returns-in-Ok-false-clause-right : goal.returns-in-Ok-false-clause-right
returns-in-Ok-false-clause-right c =
    λ none path over. taken_right c.args.job.now c.args.sym.now c.truth_over-answer.new.calc c.truth_over-answer.ensures.grows path over none

pub returns-in-Err-Coeff-clause-right : goal.returns-in-Err-Coeff-clause-right
returns-in-Err-Coeff-clause-right c =
    λ none path over. taken_right c.args.job.now c.args.sym.now c.truth_over-answer.new.calc c.truth_over-answer.ensures.grows path over none

pub returns-in-Err-Mem-clause-right : goal.returns-in-Err-Mem-clause-right
returns-in-Err-Mem-clause-right c =
    λ none path over. taken_right c.args.job.now c.args.sym.now c.truth_over-answer.new.calc c.truth_over-answer.ensures.grows path over none
