use Rattle.std.proofs.Common.{sym, subst, FitsSigned, to_z-of_z}
use Rattle.std.specs.Int.{w128, int_div_euclid}
use Rattle.lin_proof.specs.Form.{IsCanonical}
use Rattle.sym_calc.proofs.Quotients.{IsCanonical-changed}
use Rattle.sym_calc.proofs.divisions.quotient.Goals as goal

pub invariant_of-result : goal.invariant_of-result
invariant_of-result c =
    let fits : FitsSigned w128 c.args.by = c.ranges.by in
    let is = rw (to_z-of_z fits) at c.in_ok-terms.ensures in
    subst IsCanonical (sym is) (IsCanonical-changed (λ z. int_div_euclid z c.args.by) c.as_slice.result.now (rw c.as_slice.ensures c.row.invariant))
