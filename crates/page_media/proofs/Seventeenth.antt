-- Features that are noted one after another.
use Rattle.std.proofs.Common.{◌≡◌, ℕ, suc, ◌<◌, ◌≤◌, Bool, true, false, List, [], ◌∷◌, ◌++◌, length, cond, refl, ap, sym, subst, ◌∙◌, Result, Ok, Err, arith, length-append}
use Rattle.std.specs.List.{flat_map, list_any}
use Rattle.std.specs.Prelude.{nat_lt}
use Rattle.std.proofs.lemmas.Bool.Decides.{nat_tests}
use Rattle.std.proofs.lemmas.List.Sums.{fold-append}
use Rattle.viz_base.specs.declared.sheets.Feature.{Feature}
use Rattle.viz_base.specs.declared.sheets.Rule.{Rule}
use Rattle.viz_base.specs.declared.sheets.Sheet.{Sheet}
use Rattle.page_media.specs.Distinct.{noted}
use Rattle.page_media.specs.Features.{asked_by, asked_in, behind_sheet, known_behind, known_behind_sheets, noted_all, same_feature}
use Rattle.page_media.specs.Laws.{AreAll}

-- ---- no feature goes

noted-grows : (known : List Feature) (f : Feature) → length known ≤ length (noted same_feature known f)
noted-grows known f = by (list_any (same_feature f) known)
  where
    by : (has : Bool) → length known ≤ length (cond has known (known ++ f ∷ []))
    by true = omega arith
    by false = omega (arith, length-append known (f ∷ []))

pub noted_all-grows : (known fs : List Feature) → length known ≤ length (noted_all known fs)
noted_all-grows known [] = omega arith
noted_all-grows known (f ∷ fs) =
    let here = noted-grows known f in
    let later = noted_all-grows (noted same_feature known f) fs in
    omega (arith, here, later)

-- the seventeenth stays the seventeenth
pub past-more : (known xs ys : List Feature) → 16 < length (noted_all known xs) → 16 < length (noted_all known (xs ++ ys))
past-more known xs ys h =
    subst (λ (all : List Feature). 16 < length all) (sym (fold-append (noted same_feature) known xs ys))
    (let grows = noted_all-grows (noted_all known xs) ys in omega (arith, grows, h))

-- ---- rules and sheets

pub behind-rules : (known : List Feature) (rules : List Rule) → length known ≤ 16 → AreAll (noted_all known (flat_map asked_by rules)) (known_behind known rules)
behind-rules known [] few = (refl, few)
behind-rules known (rule ∷ rules) few = by (nat_lt 16 (length (noted_all known (asked_by rule)))) refl (behind-rules (noted_all known (asked_by rule)) rules)
  where
    all : noted_all known (asked_by rule ++ flat_map asked_by rules) ≡ noted_all (noted_all known (asked_by rule)) (flat_map asked_by rules)
    all = fold-append (noted same_feature) known (asked_by rule) (flat_map asked_by rules)

    by : (past : Bool) → nat_lt 16 (length (noted_all known (asked_by rule))) ≡ past
        → (length (noted_all known (asked_by rule)) ≤ 16
        → AreAll (noted_all (noted_all known (asked_by rule)) (flat_map asked_by rules)) (known_behind (noted_all known (asked_by rule)) rules))
        → AreAll (noted_all known (asked_by rule ++ flat_map asked_by rules))
        (cond past (Err rule.at) (known_behind (noted_all known (asked_by rule)) rules))
    by true past rest = past-more known (asked_by rule) (flat_map asked_by rules) (grind (arith, nat_tests))
    by false past rest =
        subst (λ (l : List Feature). AreAll l (known_behind (noted_all known (asked_by rule)) rules)) (sym all) (rest (grind (arith, nat_tests)))

pub behind-sheets : (known : List Feature) (number : ℕ) (sheets : List Sheet) → length known ≤ 16
    → AreAll (noted_all known (flat_map asked_in sheets)) (known_behind_sheets known number sheets)
behind-sheets known number [] few = (refl, few)
behind-sheets known number (sheet ∷ sheets) few =
    by (known_behind known sheet.rules) (behind-rules known sheet.rules few) (λ next. behind-sheets next (suc number) sheets)
  where
    by : (r : Result (List Feature) ℕ) → AreAll (noted_all known (asked_in sheet)) r
        → ((next : List Feature) → length next ≤ 16 → AreAll (noted_all next (flat_map asked_in sheets)) (known_behind_sheets next (suc number) sheets))
        → AreAll (noted_all known (asked_in sheet ++ flat_map asked_in sheets)) (behind_sheet number r (λ next. known_behind_sheets next (suc number) sheets))
    by (Err place) past rest = past-more known (asked_in sheet) (flat_map asked_in sheets) past
    by (Ok next) is rest =
        subst (λ (l : List Feature). AreAll l (known_behind_sheets next (suc number) sheets))
        (ap (λ (k : List Feature). noted_all k (flat_map asked_in sheets)) is.0
        ∙ sym (fold-append (noted same_feature) known (asked_in sheet) (flat_map asked_in sheets)))
        (rest next is.1)
