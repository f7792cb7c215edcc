use Rattle.std.proofs.Common.{◌≡◌, pos, ap, ◌∙◌}
use Rattle.std.proofs.lemmas.Result.{IfOk-weaker}
use Rattle.lin_proof.specs.Form.{value, plus}
use Rattle.sym_calc.proofs.Numbers.{sum_at}
use Rattle.sym_calc.proofs.States.{counted_is}
use Rattle.sym_calc.proofs.sym.SymCalc.add.Goals as goal

pub returns-clause-value : goal.returns-clause-value
returns-clause-value c =
    let exact = plus c.args.a.now (pos 1) c.args.b.now in
    IfOk-weaker c.counted.result (λ r. r ≡ exact) _
    (λ r is e met. ap (λ f. value f e.terms) is ∙ sum_at c.args.a.now c.args.b.now e.terms)
    (counted_is c.add_scaled-sum.result exact c.counted.result c.add_scaled-sum.ensures c.counted.ensures.row)
