use Rattle.std.proofs.Common.{◌≡◌, ◌-ℤ◌, neg_ℤ, pos, negsuc, ◌∙◌, sym, true, refl, rules, arith, to_z, of_z, FitsSigned, to_z-of_z}
use Rattle.std.specs.Int.{w128}
use Rattle.std.proofs.Math.Bool.{and-false}
use Rattle.std.proofs.lemmas.Int.{ints}
use Rattle.lin_proof.proofs.Opposites.{canonical_opposites, told_opposites, not_told_opposites, in_i128-fit}
use Rattle.lin_proof.specs.Number.{in_i128}
use Rattle.lin_proof.proofs.row.Row.negate.Goals as goal

pub invariant_of-result : goal.invariant_of-result
invariant_of-result c = canonical_opposites c.as_slice.result.now c.in-Some.terms (sym c.in-Some.is ∙ c.in_ok-terms.ensures) (rw c.as_slice.ensures c.self.invariant)

pub returns-in-Some : goal.returns-in-Some
returns-in-Some c =
    let told = told_opposites c.as_slice.result.now c.in-Some.terms (sym c.in-Some.is ∙ c.in_ok-terms.ensures) in
    let k = c.self.inside.k in
    let fits : FitsSigned w128 k = search rules in
    let next : FitsSigned w128 (neg_ℤ k -ℤ pos 1) = omega (arith, ints) in
    let whole : FitsSigned w128 (negsuc 0 -ℤ k) = omega (arith, ints) in
    let same : negsuc 0 -ℤ k ≡ neg_ℤ k -ℤ pos 1 = omega (arith, ints) in
    let k_is : to_z w128 (of_z w128 (negsuc 0 -ℤ to_z w128 (of_z w128 k))) ≡ neg_ℤ k -ℤ pos 1 = rw (to_z-of_z fits) (to_z-of_z whole ∙ same) in
    let k_fits : in_i128 (neg_ℤ k -ℤ pos 1) ≡ true = in_i128-fit _ next in
    let ts_fit = rw c.as_slice.ensures at told.1 in
    let ts_is = rw c.as_slice.ensures at told.0 in
    (rw (← c.self.view_is, k_is, ts_is) refl, rw (← c.self.view_is, k_fits, ts_fit) refl)

pub returns-in-None : goal.returns-in-None
returns-in-None c =
    let out = not_told_opposites c.as_slice.result.now (sym c.in-None.is ∙ c.in_ok-terms.ensures) in
    let ts_out = rw c.as_slice.ensures at out in
    rw (← c.self.view_is, ts_out, and-false) refl
