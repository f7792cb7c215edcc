-- One turn of a merge: a term in front of what is left goes to the end of what is done.
use Rattle.std.proofs.Common.{◌≡◌, ◌≢◌, ℕ, ℤ, pos, true, cond, [], ◌∷◌, ◌++◌, Some, refl, sym, ◌∙◌, ap, subst}
use Rattle.std.proofs.lemmas.List.{append_assoc}
use Rattle.std.proofs.lemmas.List.Folds.{list_all-append}
use Rattle.std.proofs.lemmas.Bool.Decides.{Decides-int_eq}
use Rattle.std.proofs.lemmas.Option.{cond_some}
use Rattle.lin_proof.specs.Number.{in_i128}
use Rattle.lin_proof.specs.steps.Front.{checked}
use Rattle.lin_proof.specs.Form.{Terms, put, plus_terms, terms_fit}
use Rattle.lin_proof.specs.steps.Front.{IsFront}
use Rattle.lin_proof.specs.declared.merge.Front.{Front}
use Rattle.lin_proof.proofs.Sums.{int_eq-false}

pub put_nonzero : (x : ℕ) (c : ℤ) (ts : Terms) → c ≢ pos 0 → put x c ts ≡ (x, c) ∷ ts
put_nonzero x c ts h = ap (λ b. cond b ts ((x, c) ∷ ts)) (int_eq-false c h)

pub put_zero : (x : ℕ) (c : ℤ) (ts : Terms) → c ≡ pos 0 → put x c ts ≡ ts
put_zero x c ts h = ap (λ b. cond b ts ((x, c) ∷ ts)) ((Decides-int_eq c (pos 0)).1 h)

-- the coefficient is the exact one, which fits
pub told : (exact n : ℤ) → Some n ≡ checked exact → (in_i128 n ≡ true) × (exact ≡ n)
told exact n h = let is = cond_some (in_i128 exact) exact n (sym h) in (subst (λ m. in_i128 m ≡ true) is.1 is.0, is.1)

pub fits-push : (done : Terms) (x : ℕ) (n : ℤ) → terms_fit done ≡ true → in_i128 n ≡ true → terms_fit (done ++ (x, n) ∷ []) ≡ true
fits-push done x n h k = list_all-append (λ t. in_i128 t.1) done ((x, n) ∷ []) ∙ rw (h, k) refl

pub whole-push : (done left rest whole : Terms) (x : ℕ) (exact n : ℤ) → done ++ left ≡ whole → left ≡ put x exact rest → exact ≡ n → n ≢ pos 0 → (done ++ (x, n) ∷ []) ++ rest ≡ whole
whole-push done left rest whole x exact n h e same some =
    append_assoc done ((x, n) ∷ []) rest ∙ ap (λ ts. done ++ ts) (sym (put_nonzero x n rest some) ∙ ap (λ m. put x m rest) (sym same) ∙ sym e) ∙ h

pub whole-skip : (done left rest whole : Terms) (x : ℕ) (exact n : ℤ) → done ++ left ≡ whole → left ≡ put x exact rest → exact ≡ n → n ≡ pos 0 → done ++ rest ≡ whole
whole-skip done left rest whole x exact n h e same none = ap (λ ts. done ++ ts) (sym (e ∙ put_zero x exact rest (same ∙ none))) ∙ h

-- one turn, by whether the coefficient is 0
pub turn-push : (done : Terms) (left : Terms) (m : ℤ) (right whole : Terms) (f : Front) (n : ℤ) → IsFront left m right f → done ++ plus_terms left m right ≡ whole → terms_fit done ≡ true → f.coefficient ≡ Some n → n ≢ pos 0 → ((done ++ (f.variable, n) ∷ []) ++ plus_terms f.left.now m f.right.now ≡ whole) × (terms_fit (done ++ (f.variable, n) ∷ []) ≡ true)
turn-push done left m right whole f n next before fits is some =
    let t = told next.exact n (sym is ∙ next.coefficient) in
    (whole-push done (plus_terms left m right) (plus_terms f.left.now m f.right.now) whole f.variable next.exact n before next.sum t.1 some, fits-push done f.variable n fits t.0)

pub turn-skip : (done : Terms) (left : Terms) (m : ℤ) (right whole : Terms) (f : Front) (n : ℤ) → IsFront left m right f → done ++ plus_terms left m right ≡ whole → f.coefficient ≡ Some n → n ≡ pos 0 → done ++ plus_terms f.left.now m f.right.now ≡ whole
turn-skip done left m right whole f n next before is none =
    let t = told next.exact n (sym is ∙ next.coefficient) in
    whole-skip done (plus_terms left m right) (plus_terms f.left.now m f.right.now) whole f.variable next.exact n before next.sum t.1 none
