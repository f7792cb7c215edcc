-- What dividing a row's terms keeps.
use Rattle.std.proofs.Common.{◌≡◌, ℕ, ℤ, pos, ◌*ℤ◌, ◌<ℤ◌, true, [], ◌∷◌, ◌∙◌, ap, arith}
use Rattle.std.specs.Ordering.{int_eq}
use Rattle.std.specs.Int.{int_rem_euclid}
use Rattle.std.proofs.lemmas.Int.{ints}
use Rattle.std.proofs.lemmas.Bool.{and_parts}
use Rattle.std.proofs.lemmas.Bool.Decides.{Decides-int_eq}
use Rattle.lin_proof.specs.Form.{Terms, IsAbove, IsCanonical}
use Rattle.lin_proof.specs.Cut.{are_multiples, quotients}
use Rattle.lin_proof.proofs.Whole.{div_exact}

IsAbove-quotients : (x : ℕ) (d : ℤ) (ts : Terms) → IsAbove x ts → IsAbove x (quotients d ts)
IsAbove-quotients x d [] h = tt
IsAbove-quotients x d (t ∷ ts) h = (h.0, IsAbove-quotients x d ts h.1)

pub IsCanonical-quotients : (d : ℤ) (ts : Terms) → pos 0 <ℤ d → are_multiples d ts ≡ true → IsCanonical ts → IsCanonical (quotients d ts)
IsCanonical-quotients d [] above div h = tt
IsCanonical-quotients d (t ∷ ts) above div h =
    let both = and_parts (int_eq (int_rem_euclid t.1 d) (pos 0)) (are_multiples d ts) div in
    let exact = div_exact t.1 d above ((Decides-int_eq (int_rem_euclid t.1 d) (pos 0)).0 both.0) in
    let times_zero : d *ℤ pos 0 ≡ pos 0 = omega (arith, ints) in
    (IsAbove-quotients t.0 d ts h.0, λ none. h.1 (exact ∙ ap (λ q. d *ℤ q) none ∙ times_zero), IsCanonical-quotients d ts above both.1 h.2)
