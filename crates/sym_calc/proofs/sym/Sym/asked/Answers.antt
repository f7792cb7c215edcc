use Rattle.std.proofs.Common.{◌≡◌, pos, ap, ◌∙◌, rules}
use Rattle.std.specs.Int.RustNames.{int_le}
use Rattle.lin_proof.specs.Form.{value}
use Rattle.sym_calc.proofs.Telling.{after_learning}
use Rattle.sym_calc.proofs.sym.Sym.asked.Goals as goal

pub invariant_of-self-clause-meant : goal.invariant_of-self-clause-meant
invariant_of-self-clause-meant c =
    let s = c.answered.new.self in
    let row : c.in_ok-row.row ≡ c.args.question.row = search rules in
    λ e met. after_learning c.learn.result s.told c.learn.new.self c.args.question c.in_ok-yes.yes c.learn.ensures.ok c.learn.ensures.err e.terms (s.meant e met)
    (c.in_ok-yes.ensures.value e met ∙ ap (λ f. int_le (pos 0) (value f e.terms)) row)
