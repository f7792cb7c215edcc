use Rattle.std.proofs.Common.{pos, ◌++◌, [], get_or, sym, ◌∙◌, rules, FitsSigned, to_z-of_z}
use Rattle.std.specs.Int.{w128, int_rem_euclid}
use Rattle.lin_proof.specs.Form.{put}
use Rattle.sym_calc.proofs.Quotients.{changed-more}
use Rattle.sym_calc.proofs.divisions.remainder_terms.Goals as goal

pub loop-term-preserved : goal.loop-term-preserved
loop-term-preserved c =
    let ts = c.args.terms.now in
    let i = c.loop-term.term-index in
    let fits : FitsSigned w128 c.args.by = c.ranges.by in
    let coefficient : FitsSigned w128 (get_or ts i (0, pos 0)).1 = search rules in
    let whole : FitsSigned w128 c.rem_euclid.result = search rules in
    let more = changed-more (λ z. int_rem_euclid z c.args.by) ts i (0, pos 0) c.loop-term-test.true in
    let made = simp to_z-of_z at c.rem_euclid.ensures.value in
    let added = simp to_z-of_z at c.in_ok-put.ensures in
    let before = simp to_z-of_z at c.loop-term.invariant in
    rw (to_z-of_z fits) (added ∙ (λ j. before j ++ put (get_or ts i (0, pos 0)).0 (made j) []) ∙ sym more)
