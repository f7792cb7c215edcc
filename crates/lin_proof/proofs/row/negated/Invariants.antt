use Rattle.std.proofs.Common.{◌≡◌, true, take}
use Rattle.lin_proof.specs.Form.{terms_fit, opposites}
use Rattle.lin_proof.proofs.row.negated.Given as goal

abbrev pub invariant-loop-term : goal.invariant-loop-term
invariant-loop-term l =
    (terms_fit (opposites (take l.term-index l.terms)) ≡ true) × (l.opposites ≡ opposites (take l.term-index l.terms))
