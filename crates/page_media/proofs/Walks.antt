-- Lists that are gone through from a place on.
use Rattle.std.proofs.Common.{◌≡◌, ◌≢◌, ℕ, suc, ◌+◌, ◌-◌, ◌<◌, ◌≤◌, min, Bool, true, false, ◌&&◌, List, [], ◌∷◌, map, length, drop, get_or, cond, refl, ap, sym, subst, ◌∙◌, inl, inr, arith}
use Rattle.std.specs.Prelude.{◌⊎◌}
use Rattle.std.specs.List.{flat_map, fold, range_with_len}
use Rattle.std.proofs.lemmas.Bool.{cases_lt}
use Rattle.std.proofs.lemmas.List.{drop_all, drop_more}
use Rattle.std.proofs.lemmas.List.Sums.{fold-append}
use Rattle.viz_base.proofs.ListLemmas.{drop_at}
use Rattle.viz_base.specs.declared.formulas.Formula.{Formula}
use Rattle.viz_base.specs.declared.sheets.Feature.{Feature}
use Rattle.viz_base.specs.declared.sheets.MediaEntry.{MediaEntry}
use Rattle.page_media.specs.Distinct.{noted}
use Rattle.page_media.specs.Queries.{is_met}
use Rattle.page_media.specs.Features.{are_alike, asked_by_entry, noted_all, same_feature}
use Rattle.page_media.specs.Parts.{same_signs, sign_of, signs_at}
use Rattle.page_media.specs.Guards.{guarded}
use Rattle.page_media.proofs.Seventeenth.{past-more}

-- ---- features with their signs

pub sign-next : (fs : List Feature) (signs : List Bool) (f d : Feature) (k : ℕ) → k < length fs → k < length signs → same_feature f (get_or fs k d) ≡ false
    → sign_of (drop (k + 1) fs) (drop (k + 1) signs) f ≡ sign_of (drop k fs) (drop k signs) f
sign-next fs signs f d k l m e =
    sym
    (ap (λ (gs : List Feature). sign_of gs (drop k signs) f) (drop_more fs k d l)
    ∙ (ap (λ (bs : List Bool). sign_of (get_or fs k d ∷ drop (k + 1) fs) bs f) (drop_more signs k true m)
    ∙ ap (λ b. cond b (get_or signs k true) (sign_of (drop (k + 1) fs) (drop (k + 1) signs) f)) e))

sign-none : (fs : List Feature) (f : Feature) → sign_of fs [] f ≡ false
sign-none [] f = refl
sign-none (g ∷ fs) f = refl

pub sign-end : (fs : List Feature) (signs : List Bool) (f : Feature) (k : ℕ) → min (length fs) (length signs) ≤ k → sign_of (drop k fs) (drop k signs) f ≡ false
sign-end fs signs f k h = by (cases_lt k (length fs))
  where
    by : (k < length fs) ⊎ (length fs ≤ k) → sign_of (drop k fs) (drop k signs) f ≡ false
    by (inr past) = ap (λ (gs : List Feature). sign_of gs (drop k signs) f) (drop_all k fs past)
    by (inl within) = ap (λ (bs : List Bool). sign_of (drop k fs) bs f) (drop_all k signs (omega arith)) ∙ sign-none (drop k fs) f

guarded-none : (fs : List Feature) (formula : Formula) → guarded fs [] formula ≡ formula
guarded-none [] formula = refl
guarded-none (f ∷ fs) formula = refl

pub guarded-end : (fs : List Feature) (signs : List Bool) (formula : Formula) (k : ℕ) → min (length fs) (length signs) ≤ k → guarded (drop k fs) (drop k signs) formula ≡ formula
guarded-end fs signs formula k h = by (cases_lt k (length fs))
  where
    by : (k < length fs) ⊎ (length fs ≤ k) → guarded (drop k fs) (drop k signs) formula ≡ formula
    by (inr past) = ap (λ (gs : List Feature). guarded gs (drop k signs) formula) (drop_all k fs past)
    by (inl within) = ap (λ (bs : List Bool). guarded (drop k fs) bs formula) (drop_all k signs (omega arith)) ∙ guarded-none (drop k fs) formula

-- lists of other lengths are not the same
pub uneven : (fs : List Feature) (signs : List Bool) (w s : ℕ) → length fs ≢ length signs → false ≡ same_signs (signs_at fs w s) signs
uneven [] [] w s h = absurd (h refl)
uneven [] (x ∷ xs) w s h = refl
uneven (f ∷ fs) [] w s h = refl
uneven (f ∷ fs) (x ∷ xs) w s h = by (are_alike (is_met w s f) x) (uneven fs xs w s (λ e. h (ap suc e)))
  where
    by : (b : Bool) → false ≡ same_signs (signs_at fs w s) xs → false ≡ (b && same_signs (signs_at fs w s) xs)
    by true e = e
    by false e = refl

-- ---- the seventeenth feature

pub past-feature : (known fs : List Feature) (d : Feature) (k : ℕ) → k < length fs → 16 < length (noted same_feature known (get_or fs k d)) → 16 < length (noted_all known (drop k fs))
past-feature known fs d k l h =
    subst (λ (gs : List Feature). 16 < length (noted_all known gs)) (sym (drop_more fs k d l)) (past-more known (get_or fs k d ∷ []) (drop (k + 1) fs) h)

pub past-entry : (known : List Feature) (es : List MediaEntry) (e : MediaEntry) (k : ℕ) → k < length es → e ≡ get_or es k e → 16 < length (noted_all known (asked_by_entry e))
    → 16 < length (noted_all known (flat_map asked_by_entry (drop k es)))
past-entry known es e k l is h =
    subst (λ (rest : List MediaEntry). 16 < length (noted_all known (flat_map asked_by_entry rest))) (sym (drop_at es k e l is))
    (past-more known (asked_by_entry e) (flat_map asked_by_entry (drop (k + 1) es)) h)

-- ---- the worlds of a row, and rows

range-next : (a b : ℕ) → a < b → range_with_len a (b - a) ≡ a ∷ range_with_len (a + 1) (b - (a + 1))
range-next a b h = let e : b - a ≡ suc (b - (a + 1)) = omega arith in ap (range_with_len a) e

pub row-next : (known : List (List Bool)) (f : ℕ → List Bool) (a b : ℕ) → a < b
    → fold (noted same_signs) (noted same_signs known (f a)) (map f (range_with_len (a + 1) (b - (a + 1)))) ≡ fold (noted same_signs) known (map f (range_with_len a (b - a)))
row-next known f a b h = ap (λ (l : List ℕ). fold (noted same_signs) known (map f l)) (sym (range-next a b h))

pub rows-next : (known : List (List Bool)) (f : ℕ → List (List Bool)) (a b : ℕ) → a < b
    → fold (noted same_signs) (fold (noted same_signs) known (f a)) (flat_map f (range_with_len (a + 1) (b - (a + 1))))
    ≡ fold (noted same_signs) known (flat_map f (range_with_len a (b - a)))
rows-next known f a b h =
    sym (fold-append (noted same_signs) known (f a) (flat_map f (range_with_len (a + 1) (b - (a + 1)))))
    ∙ ap (λ (l : List ℕ). fold (noted same_signs) known (flat_map f l)) (sym (range-next a b h))
