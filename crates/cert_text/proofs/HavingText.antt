-- Numbers of the code's types have texts.
use Rattle.std.proofs.Common.{◌≡◌, ◌≢◌, ◌↔◌, IsTrue, List, ℕ, suc, ◌+◌, ◌<◌, ◌≤◌, ◌^◌, ℤ, pos, Bool, true, false, ◌&&◌, nat_le, ◌∷◌, length, get_or, drop, not, refl, sym, ap, ◌∙◌, arith, FitsSigned, drop-cons}
use Rattle.std.specs.Int.{w128}
use Rattle.std.specs.Ordering.{int_eq}
use Rattle.std.specs.Int.Signed.{lt_z}
use Rattle.std.proofs.lemmas.Bool.{lt-ltb, le-leb}
use Rattle.std.proofs.lemmas.Bool.Decides.{nat_tests}
use Rattle.lin_proof.specs.Number.{in_i128}
use Rattle.lin_proof.specs.Form.{Terms}
use Rattle.lin_proof.proofs.Opposites.{in_i128-fit}
use Rattle.lin_proof.proofs.Sums.{int_eq-false}
use Rattle.cert_text.specs.declared.certificate.Cert.{Cert}
use Rattle.cert_text.specs.Texts.{part_has_text, is_num, is_nonzero, terms_have_text, cert_text, cert_has_text, CertText}

and_trues : (b : Bool) → b ≡ ((b && true) && true)
and_trues true = refl
and_trues false = refl

pub part_by : (t : ℤ) (n : ℕ) → FitsSigned w128 t → n < 2 ^ 32 → lt_z (pos 0) t ≡ part_has_text (t, n)
part_by t n fits lt = rw (in_i128-fit t fits, lt-ltb n (2 ^ 32) lt) (and_trues (lt_z (pos 0) t))

nonzero : (c : ℤ) → FitsSigned w128 c → c ≢ pos 0 → is_nonzero c ≡ true
nonzero c fits some = rw (int_eq-false c some, in_i128-fit c fits) refl

pub first_by : (least : ℕ) (t : ℕ × ℤ) (ts : Terms) → least ≤ t.0 → is_num t.0 ≡ true → is_nonzero t.1 ≡ true → terms_have_text least (t ∷ ts) ≡ terms_have_text (t.0 + 1) ts
first_by least t ts le num some = rw (le-leb least t.0 le, num, some) refl

-- a term more
pub terms_more : (least : ℕ) (ts : Terms) (i : ℕ) (e : ℕ × ℤ) → i < length ts → least ≤ (get_or ts i e).0 → (get_or ts i e).0 < 2 ^ 32 → (get_or ts i e).1 ≢ pos 0 → FitsSigned w128 (get_or ts i e).1
    → terms_have_text least (drop i ts) ≡ terms_have_text ((get_or ts i e).0 + 1) (drop (suc i) ts)
terms_more least ts i e lt le num some fits =
    ap (terms_have_text least) (drop-cons ts i e lt)
    ∙ first_by least (get_or ts i e) (drop (suc i) ts) le (lt-ltb (get_or ts i e).0 (2 ^ 32) num) (nonzero (get_or ts i e).1 fits some)

low_by : (least : ℕ) (t : ℕ × ℤ) (ts : Terms) → t.0 < least → terms_have_text least (t ∷ ts) ≡ false
low_by least t ts lt = grind (arith, nat_tests)

none_by : (b : Bool) (c : ℤ) (d e : Bool) → c ≡ pos 0 → ((b && (not (int_eq c (pos 0)) && d)) && e) ≡ false
none_by b c d e none = rw (none) (all_false b d e)
  where
    all_false : (b d e : Bool) → ((b && (false && d)) && e) ≡ false
    all_false true d e = refl
    all_false false d e = refl

-- a term that comes too early, or whose coefficient is 0
pub terms_low : (least : ℕ) (ts : Terms) (i : ℕ) (e : ℕ × ℤ) → i < length ts → (get_or ts i e).0 < least → terms_have_text least (drop i ts) ≡ false
terms_low least ts i e lt low = ap (terms_have_text least) (drop-cons ts i e lt) ∙ low_by least (get_or ts i e) (drop (suc i) ts) low

pub terms_none : (least : ℕ) (ts : Terms) (i : ℕ) (e : ℕ × ℤ) → i < length ts → (get_or ts i e).1 ≡ pos 0 → terms_have_text least (drop i ts) ≡ false
terms_none least ts i e lt none =
    let t = get_or ts i e in
    ap (terms_have_text least) (drop-cons ts i e lt) ∙ none_by (nat_le least t.0 && is_num t.0) t.1 (in_i128 t.1) (terms_have_text (t.0 + 1) (drop (suc i) ts)) none

pub ruleset term_by_term = (terms_more, terms_low, terms_none)

-- a certificate has a text where the test says so
pub spelled_where : (cert : Cert) (b : Bool) → b ≡ cert_has_text cert → IsTrue b ↔ ((bytes : List ℕ) × CertText cert bytes)
spelled_where cert b is = (λ h. (cert_text cert, (sym is ∙ h, refl)), λ h. is ∙ h.1.0)
