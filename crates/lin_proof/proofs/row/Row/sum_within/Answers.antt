use Rattle.std.proofs.Common.{◌∙◌, sym, subst}
use Rattle.std.proofs.lemmas.Option.{cond_some}
use Rattle.lin_proof.specs.Form.{IsCanonical}
use Rattle.lin_proof.proofs.Sums.{IsCanonical-plus_terms}
use Rattle.lin_proof.proofs.row.Row.sum_within.Goals as goal

pub invariant_of-result : goal.invariant_of-result
invariant_of-result c =
    let told = cond_some _ _ c.in-Some-2.terms (sym c.in_ok-terms.ensures ∙ c.in-Some-2.is) in
    subst IsCanonical told.1 (IsCanonical-plus_terms c.as_slice.result.now _ c.as_slice-2.result.now (rw c.as_slice.ensures c.self.invariant))
