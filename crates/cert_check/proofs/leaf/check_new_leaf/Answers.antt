use Rattle.std.proofs.Common.{◌≡◌, None, arith}
use Rattle.viz_base.specs.Numbers.{Rose}
use Rattle.cert_check.proofs.Leaves.{leaf_coeff}
use Rattle.cert_check.proofs.leaf.check_new_leaf.Goals as goal

pub returns-in-None-clause-verdict : goal.returns-in-None-clause-verdict
returns-in-None-clause-verdict c =
    let old = c.args.sym.now in
    let new = c.judge_leaf.new.sym in
    let none : new.trouble ≡ None = grind arith in
    let counted : Rose old.coeffs new.coeffs = grind arith in
    λ path over. leaf_coeff c.args.job.now old new c.judge_leaf.ensures.grows path over c.args.node none counted
