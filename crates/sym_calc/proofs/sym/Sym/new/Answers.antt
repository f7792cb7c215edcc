use Rattle.std.proofs.Common.{◌≡◌, true, None, sym, subst}
use Rattle.sym_calc.specs.History.{are_fit, is_accounted}
use Rattle.sym_calc.proofs.Histories.{fit_none, accounted_none}
use Rattle.sym_calc.proofs.sym.Sym.new.Goals as goal

pub invariant_of-result-clause-fit : goal.invariant_of-result-clause-fit
invariant_of-result-clause-fit c = subst (λ fs. are_fit c.args.path.now.origin.form c.args.path.now.floors fs ≡ true) (sym c.new-2.ensures) (fit_none c.args.path.now.origin.form c.args.path.now.floors)

pub invariant_of-result-clause-accounted : goal.invariant_of-result-clause-accounted
invariant_of-result-clause-accounted c =
    subst (λ fs. is_accounted c.args.path.now.origin.form c.args.path.now.facts c.args.path.now.floors fs c.args.tape.now 0 None ≡ true) (sym c.new-2.ensures)
    (accounted_none c.args.path.now.origin.form c.args.path.now.facts c.args.path.now.floors c.args.tape.now)
