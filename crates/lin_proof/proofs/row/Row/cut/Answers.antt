use Rattle.std.proofs.Common.{pos, sym, subst, arith, FitsSigned, to_z-of_z}
use Rattle.std.specs.Int.{w128}
use Rattle.std.specs.Int.Signed.{lt_z}
use Rattle.std.proofs.lemmas.Int.{ints}
use Rattle.lin_proof.specs.Form.{IsCanonical}
use Rattle.lin_proof.specs.Cut.{are_multiples}
use Rattle.std.proofs.lemmas.Bool.{and_parts}
use Rattle.lin_proof.proofs.Cuts.{IsCanonical-quotients}
use Rattle.lin_proof.proofs.row.Row.cut.Goals as goal

pub invariant_of-result : goal.invariant_of-result
invariant_of-result c =
    let terms = c.as_slice.result.now in
    let divided = rw (← c.self.view_is) at c.requires in
    let both = and_parts (lt_z (pos 0) c.args.d) (are_multiples c.args.d c.self.inside.terms) divided in
    let multiples = rw (← c.as_slice.ensures) at both.1 in
    let fits : FitsSigned w128 c.args.d = c.ranges.d in
    let is = rw (to_z-of_z fits) at c.in_ok-divided.ensures in
    subst IsCanonical (sym is) (IsCanonical-quotients c.args.d terms (omega (arith, ints, both.0)) multiples (rw c.as_slice.ensures c.self.invariant))
