use Rattle.std.proofs.Common.{◌≡◌, sym}
use Rattle.sym_calc.proofs.Telling.{told_right}
use Rattle.sym_calc.proofs.sym.Sym.recalled.Goals as goal

pub returns-in-Some-clause-value : goal.returns-in-Some-clause-value
returns-in-Some-clause-value c =
    let s = c.args.self.now in
    λ e met. told_right s.told e.terms (s.meant e met) c.args.question c.in-Some.yes (sym c.in-Some.ensures)
