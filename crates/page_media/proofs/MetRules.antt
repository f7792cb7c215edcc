-- The rules that are chosen by the signs of a world are those that are met there.
use Rattle.std.proofs.Common.{◌≡◌, ℕ, Bool, true, false, not, ◌&&◌, ◌||◌, List, [], ◌∷◌, ◌++◌, map, filter, cond, length, Option, Some, None, refl, ap, sym, ◌∙◌}
use Rattle.std.specs.List.{flat_map, list_all, list_any}
use Rattle.std.specs.Prelude.{◌==◌}
use Rattle.std.specs.Option.{option_map_or}
use Rattle.std.proofs.lemmas.Bool.{or_left, or_right}
use Rattle.std.proofs.lemmas.List.Folds.{list_any-append}
use Rattle.viz_base.specs.declared.sheets.Feature.{Feature}
use Rattle.viz_base.specs.declared.sheets.MediaEntry.{MediaEntry}
use Rattle.viz_base.specs.declared.sheets.Rule.{Rule}
use Rattle.viz_base.specs.declared.sheets.Sheet.{Sheet}
use Rattle.page_media.specs.Queries.{entry_met, is_met, list_met, met_sheet, met_sheets, rule_met}
use Rattle.page_media.specs.Features.{asked, asked_by, asked_by_entry, asked_in, same_feature}
use Rattle.page_media.specs.Parts.{sign_of, signs_at}
use Rattle.page_media.proofs.Lists.{noted_all-any}
use Rattle.page_media.proofs.Sameness.{feature-equal, feature-itself}

-- ---- the sign of a feature that is listed

pub sign-known : (w s : ℕ) (f : Feature) (fs : List Feature) → list_any (same_feature f) fs ≡ true → sign_of fs (signs_at fs w s) f ≡ is_met w s f
sign-known w s f [] h = absurd (cc)
sign-known w s f (g ∷ fs) h = by (same_feature f g) refl h (sign-known w s f fs)
  where
    by : (is : Bool) → same_feature f g ≡ is → (is || list_any (same_feature f) fs) ≡ true
        → (list_any (same_feature f) fs ≡ true → sign_of fs (signs_at fs w s) f ≡ is_met w s f)
        → cond is (is_met w s g) (sign_of fs (signs_at fs w s) f) ≡ is_met w s f
    by true is h rest = ap (is_met w s) (sym (feature-equal f g is))
    by false is h rest = rest h

-- ---- tests that agree on what is listed

abbrev AgreeOn : List Feature → (Feature → Bool) → (Feature → Bool) → Type 0
AgreeOn all p q = (f : Feature) → list_any (same_feature f) all ≡ true → p f ≡ q f

abbrev AreAmong : List Feature → List Feature → Type 0
AreAmong fs all = (f : Feature) → list_any (same_feature f) fs ≡ true → list_any (same_feature f) all ≡ true

among-left : (xs ys all : List Feature) → AreAmong (xs ++ ys) all → AreAmong xs all
among-left xs ys all h f k = h f (list_any-append (same_feature f) xs ys ∙ or_left (list_any (same_feature f) xs) (list_any (same_feature f) ys) k)

among-right : (xs ys all : List Feature) → AreAmong (xs ++ ys) all → AreAmong ys all
among-right xs ys all h f k = h f (list_any-append (same_feature f) xs ys ∙ or_right (list_any (same_feature f) xs) (list_any (same_feature f) ys) k)

all-agree : (all fs : List Feature) (p q : Feature → Bool) → AgreeOn all p q → AreAmong fs all → list_all p fs ≡ list_all q fs
all-agree all [] p q agree among = refl
all-agree all (f ∷ fs) p q agree among =
    let first : p f ≡ q f = agree f (among f (ap (λ b. b || list_any (same_feature f) fs) (feature-itself f))) in
    let rest : list_all p fs ≡ list_all q fs = all-agree all fs p q agree (λ g k. among g (or_right (same_feature g f) (list_any (same_feature g) fs) k)) in
    ap (λ b. b && list_all p fs) first ∙ ap (λ b. q f && b) rest

entry-agrees : (all : List Feature) (p q : Feature → Bool) (e : MediaEntry) → AgreeOn all p q → AreAmong (asked_by_entry e) all → entry_met p e ≡ entry_met q e
entry-agrees all p q e agree among =
    let same : e.on && list_all p e.features ≡ e.on && list_all q e.features = by e.on among in
    ap (λ b. cond e.negated (not b) b) same
  where
    by : (on : Bool) → AreAmong (cond on e.features []) all → (on && list_all p e.features) ≡ (on && list_all q e.features)
    by true among = all-agree all e.features p q agree among
    by false among = refl

one-agrees : (all : List Feature) (p q : Feature → Bool) (es : List MediaEntry) → AgreeOn all p q → AreAmong (flat_map asked_by_entry es) all
    → list_any (entry_met p) es ≡ list_any (entry_met q) es
one-agrees all p q [] agree among = refl
one-agrees all p q (e ∷ es) agree among =
    let first : entry_met p e ≡ entry_met q e = entry-agrees all p q e agree (among-left (asked_by_entry e) (flat_map asked_by_entry es) all among) in
    let rest : list_any (entry_met p) es ≡ list_any (entry_met q) es = one-agrees all p q es agree (among-right (asked_by_entry e) (flat_map asked_by_entry es) all among) in
    ap (λ b. b || list_any (entry_met p) es) first ∙ ap (λ b. entry_met q e || b) rest

rule-agrees : (all : List Feature) (p q : Feature → Bool) (rule : Rule) → AgreeOn all p q → AreAmong (asked_by rule) all → rule_met p rule ≡ rule_met q rule
rule-agrees all p q rule agree among = by rule.media among
  where
    by : (media : Option (List MediaEntry)) → AreAmong (option_map_or (flat_map asked_by_entry) media []) all → option_map_or (list_met p) media true ≡ option_map_or (list_met q) media true
    by None among = refl
    by (Some es) among = ap (λ b. (length es == 0) || b) (one-agrees all p q es agree among)

rules-agree : (all : List Feature) (p q : Feature → Bool) (rules : List Rule) → AgreeOn all p q → AreAmong (flat_map asked_by rules) all
    → filter (rule_met p) rules ≡ filter (rule_met q) rules
rules-agree all p q [] agree among = refl
rules-agree all p q (rule ∷ rules) agree among =
    let first : rule_met p rule ≡ rule_met q rule = rule-agrees all p q rule agree (among-left (asked_by rule) (flat_map asked_by rules) all among) in
    let rest : filter (rule_met p) rules ≡ filter (rule_met q) rules = rules-agree all p q rules agree (among-right (asked_by rule) (flat_map asked_by rules) all among) in
    ap (λ b. cond b (rule ∷ filter (rule_met p) rules) (filter (rule_met p) rules)) first
    ∙ ap (λ (l : List Rule). cond (rule_met q rule) (rule ∷ l) l) rest

sheets-agree : (all : List Feature) (p q : Feature → Bool) (sheets : List Sheet) → AgreeOn all p q → AreAmong (flat_map asked_in sheets) all
    → map (met_sheet p) sheets ≡ map (met_sheet q) sheets
sheets-agree all p q [] agree among = refl
sheets-agree all p q (sheet ∷ sheets) agree among =
    let first : met_sheet p sheet ≡ met_sheet q sheet =
    ap (λ (rules : List Rule). record { rules = rules }) (rules-agree all p q sheet.rules agree (among-left (asked_in sheet) (flat_map asked_in sheets) all among)) in
    let rest : map (met_sheet p) sheets ≡ map (met_sheet q) sheets = sheets-agree all p q sheets agree (among-right (asked_in sheet) (flat_map asked_in sheets) all among) in
    ap (λ (one : Sheet). one ∷ map (met_sheet p) sheets) first ∙ ap (λ (more : List Sheet). met_sheet q sheet ∷ more) rest

pub chosen-met : (sheets : List Sheet) (w s : ℕ) → met_sheets (sign_of (asked sheets) (signs_at (asked sheets) w s)) sheets ≡ met_sheets (is_met w s) sheets
chosen-met [] w s = refl
chosen-met (default ∷ sheets) w s =
    let all : List Feature = asked (default ∷ sheets) in
    let same : map (met_sheet (sign_of all (signs_at all w s))) sheets ≡ map (met_sheet (is_met w s)) sheets =
    sheets-agree all (sign_of all (signs_at all w s)) (is_met w s) sheets
    (λ f k. sign-known w s f all k)
    (λ f k. noted_all-any same_feature feature-equal f [] (flat_map asked_in sheets) ∙ k) in
    ap (λ (more : List Sheet). default ∷ more) same
