use Rattle.std.proofs.Common.{arith, ◌≤◌, ◌^◌, ◌+◌, sym, ap, ◌∙◌, Some, w64}
use Rattle.std.proofs.lemmas.Int.{to_z_pos}
use Rattle.viz_base.proofs.DecimalLemmas.{none_is, past_is, some_is}
use Rattle.viz_base.proofs.decimals.read_decimal.Goals as goal

pub returns-in_err-value : goal.returns-in_err-value
returns-in_err-value c = c.from_residual.ensures ∙ none_is c.args.text.now (sym c.in_err-value.was ∙ c.number.ensures.value)

pub returns-then-value-eq-PAST : goal.returns-then-value-eq-PAST
returns-then-value-eq-PAST c = past_is c.args.text.now c.in_ok-value.value c.if-value-eq-PAST.true (sym c.in_ok-value.was ∙ c.number.ensures.value)

pub returns-else-value-eq-PAST : goal.returns-else-value-eq-PAST
returns-else-value-eq-PAST c =
    let bound : c.in_ok-value.value ≤ 2 ^ 40 + 1 = c.in_ok-value.ensures.bound in
    ap Some (to_z_pos w64 c.in_ok-value.value (omega (arith, bound)))
    ∙ some_is c.args.text.now c.in_ok-value.value c.if-value-eq-PAST.false (sym c.in_ok-value.was ∙ c.number.ensures.value)
