use Rattle.std.proofs.Common.{◌≡◌, ◌++◌, ◌+◌, true, length}
use Rattle.lin_proof.specs.Form.{plus_terms, terms_fit, IsCanonical}
use Rattle.lin_proof.proofs.merge.merged.Given as goal

abbrev pub invariant-loop-front : goal.invariant-loop-front
invariant-loop-front l = record {
  whole : l.sum ++ plus_terms l.left l.times l.right ≡ plus_terms l.first l.times l.second;
  fits : terms_fit l.sum ≡ true;
  left : IsCanonical l.left;
  right : IsCanonical l.right;
}

abbrev pub decreases-loop-front : goal.decreases-loop-front
decreases-loop-front l = length l.left + length l.right
