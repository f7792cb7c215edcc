-- The value of a row, term by term.
use Rattle.std.proofs.Common.{◌≡◌, ℕ, ◌+◌, ◌<◌, ℤ, ◌+ℤ◌, ◌*ℤ◌, length, get_or, drop, add-one, drop-cons, ap, arith}
use Rattle.std.proofs.lemmas.Int.{ints}
use Rattle.lin_proof.specs.Form.{Terms, terms_value}

-- the sum so far with the rest of the terms, after one term
pub sum_more : (ts : Terms) (i : ℕ) (d : ℕ × ℤ) (sum next whole : ℤ) (v : ℕ → ℤ) → i < length ts → next ≡ sum +ℤ (get_or ts i d).1 *ℤ v (get_or ts i d).0 → sum +ℤ terms_value (drop i ts) v ≡ whole → next +ℤ terms_value (drop (i + 1) ts) v ≡ whole
sum_more ts i d sum next whole v lt step before =
    let first = ap (λ us. terms_value us v) (drop-cons ts i d lt) in
    let rest = ap (λ n. terms_value (drop n ts) v) (add-one i) in
    omega (arith, ints, first, rest, step, before)
