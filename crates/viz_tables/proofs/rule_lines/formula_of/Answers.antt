use Rattle.std.proofs.Common.{◌≤◌, ◌∙◌, length, Some, None, ap, sym, arith, if◌then◌else◌}
use Rattle.viz_tables.proofs.Readings.{taken, untaken}
use Rattle.viz_tables.proofs.rule_lines.formula_of.Goals as goal

pub returns-in_ok-from_text-in-Ok : goal.returns-in_ok-from_text-in-Ok
returns-in_ok-from_text-in-Ok c =
    let bytes = c.args.bytes.now in
    let found = c.in-Ok.ensures.cases in
    let long = c.if-bytes-gt-MOST_FORMULA.false in
    let short : length bytes ≤ 16384 = omega (arith, long) in
    ap Some (c.in_ok-from_text-in-Ok.ensures ∙ found.0) ∙ ap (λ yes. if yes then Some bytes else None) (sym (taken bytes short found.1))

pub returns-in-Err : goal.returns-in-Err
returns-in-Err c =
    let bytes = c.args.bytes.now in
    ap (λ yes. if yes then Some bytes else None) (sym (untaken bytes c.in-Err.ensures.cases.0))
