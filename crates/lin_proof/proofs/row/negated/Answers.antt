use Rattle.std.proofs.Common.{rules, sym, get_or, pos, FitsSigned, to_z-of_z}
use Rattle.std.specs.Int.{w128}
use Rattle.lin_proof.proofs.Opposites.{opposites_misfit}
use Rattle.lin_proof.proofs.row.negated.Goals as goal

pub returns-in_default : goal.returns-in_default
returns-in_default c =
    let fits : FitsSigned w128 (get_or c.args.terms.now c.loop-term.term-index (0, pos 0)).1 = search rules in
    sym (opposites_misfit c.args.terms.now c.loop-term.term-index (0, pos 0) c.loop-term-test.true (simp to_z-of_z at c.in_default.ensures))
