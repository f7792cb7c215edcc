-- What turning the signs of a row's terms keeps, and where it leaves `i128`.
use Rattle.std.proofs.Common.{◌≡◌, ◌≢◌, ℕ, ◌<◌, ℤ, pos, negsuc, neg_ℤ, true, false, cond, Bool, [], ◌∷◌, length, get_or, Some, None, refl, sym, ◌∙◌, ap, subst, arith, FitsSigned}
use Rattle.std.specs.Int.{w128}
use Rattle.std.proofs.lemmas.Int.{ints}
use Rattle.std.proofs.lemmas.List.Folds.{list_all_at, list_all-map}
use Rattle.std.proofs.lemmas.Option.{cond_some}
use Rattle.lin_proof.specs.Number.{in_i128}
use Rattle.lin_proof.specs.Form.{Terms, IsAbove, IsCanonical, terms_fit, checked_terms, opposites}

IsAbove-opposites : (x : ℕ) (ts : Terms) → IsAbove x ts → IsAbove x (opposites ts)
IsAbove-opposites x [] h = tt
IsAbove-opposites x (t ∷ ts) h = (h.0, IsAbove-opposites x ts h.1)

opposite_some : (n : ℤ) → n ≢ pos 0 → neg_ℤ n ≢ pos 0
opposite_some n some none = some (omega (arith, ints))

IsCanonical-opposites : (ts : Terms) → IsCanonical ts → IsCanonical (opposites ts)
IsCanonical-opposites [] h = tt
IsCanonical-opposites (t ∷ ts) h = (IsAbove-opposites t.0 ts h.0, opposite_some t.1 h.1, IsCanonical-opposites ts h.2)

-- the terms whose signs were turned, and that each fits
pub told_opposites : (ts us : Terms) → Some us ≡ checked_terms (opposites ts) → (us ≡ opposites ts) × (terms_fit (opposites ts) ≡ true)
told_opposites ts us is = let c = cond_some (terms_fit (opposites ts)) (opposites ts) us (sym is) in (sym c.1, c.0)

pub canonical_opposites : (ts us : Terms) → Some us ≡ checked_terms (opposites ts) → IsCanonical ts → IsCanonical us
canonical_opposites ts us is h = let t = told_opposites ts us is in subst IsCanonical (sym t.0) (IsCanonical-opposites ts h)

none_misfits : (b : Bool) (ts : Terms) → None ≡ cond b (Some ts) None → b ≡ false
none_misfits true ts h = grind arith
none_misfits false ts h = refl

pub not_told_opposites : (ts : Terms) → None ≡ checked_terms (opposites ts) → terms_fit (opposites ts) ≡ false
not_told_opposites ts is = none_misfits (terms_fit (opposites ts)) (opposites ts) is

pub in_i128-misfit : (n : ℤ) → ¬ (FitsSigned w128 n) → in_i128 n ≡ false
in_i128-misfit (pos n) h = grind (arith, ints)
in_i128-misfit (negsuc n) h = grind (arith, ints)

pub in_i128-fit : (n : ℤ) → FitsSigned w128 n → in_i128 n ≡ true
in_i128-fit (pos n) h = grind (arith, ints)
in_i128-fit (negsuc n) h = grind (arith, ints)

pub opposites_misfit : (ts : Terms) (i : ℕ) (e : ℕ × ℤ) → i < length ts → ¬ (FitsSigned w128 (neg_ℤ (get_or ts i e).1)) → checked_terms (opposites ts) ≡ None
opposites_misfit ts i e lt out =
    let misfit : terms_fit (opposites ts) ≡ false =
    list_all-map (λ (u : ℕ × ℤ). in_i128 u.1) (λ (u : ℕ × ℤ). (u.0, neg_ℤ u.1)) ts
    ∙ list_all_at (λ (u : ℕ × ℤ). in_i128 (neg_ℤ u.1)) ts i e lt (in_i128-misfit (neg_ℤ (get_or ts i e).1) out) in
    ap (λ b. cond b (Some (opposites ts)) None) misfit
