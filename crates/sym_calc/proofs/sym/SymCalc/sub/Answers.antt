use Rattle.std.proofs.Common.{◌≡◌, negsuc, ap, ◌∙◌}
use Rattle.std.proofs.lemmas.Result.{IfOk-weaker}
use Rattle.lin_proof.specs.Form.{value, plus}
use Rattle.sym_calc.proofs.Numbers.{difference_at}
use Rattle.sym_calc.proofs.States.{counted_is}
use Rattle.sym_calc.proofs.sym.SymCalc.sub.Goals as goal

pub returns-clause-value : goal.returns-clause-value
returns-clause-value c =
    let exact = plus c.args.a.now (negsuc 0) c.args.b.now in
    IfOk-weaker c.counted.result (λ r. r ≡ exact) _
    (λ r is e met. ap (λ f. value f e.terms) is ∙ difference_at c.args.a.now c.args.b.now e.terms)
    (counted_is c.add_scaled-difference.result exact c.counted.result c.add_scaled-difference.ensures c.counted.ensures.row)
