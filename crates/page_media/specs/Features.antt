-- Which features the sheets of a page ask for.
use Rattle.std.specs.Prelude.{ℕ, suc, Bool, false, not, nat_lt, ◌&&◌, List, [], ◌∷◌, length, Result, Ok, Err, if◌then◌else◌}
use Rattle.std.specs.List.{flat_map, fold}
use Rattle.std.specs.Ordering.{int_eq}
use Rattle.std.specs.Option.{option_map_or}
use Rattle.viz_base.specs.declared.sheets.Bound.{Bound}
use Rattle.viz_base.specs.declared.sheets.Bound.TheVariants.{Px, Em}
use Rattle.viz_base.specs.declared.sheets.Feature.{Feature}
use Rattle.viz_base.specs.declared.sheets.MediaEntry.{MediaEntry}
use Rattle.viz_base.specs.declared.sheets.Rule.{Rule}
use Rattle.viz_base.specs.declared.sheets.Sheet.{Sheet}
use Rattle.page_media.specs.Distinct.{noted, distinct}

-- ---- which features are one

abbrev pub are_alike : Bool → Bool → Bool
are_alike a b = if a then b else not b

abbrev pub same_bound : Bound → Bound → Bool
same_bound (Px a) (Px b) = int_eq a b
same_bound (Em a) (Em b) = int_eq a b
same_bound _ _ = false

-- features are one where direction and bound are
abbrev pub same_feature : Feature → Feature → Bool
same_feature f g = are_alike f.most g.most && same_bound f.bound g.bound

-- ---- what is asked

-- an entry for another medium asks for nothing
abbrev pub asked_by_entry : MediaEntry → List Feature
asked_by_entry e = if e.on then e.features else []

abbrev pub asked_by : Rule → List Feature
asked_by rule = option_map_or (flat_map asked_by_entry) rule.media []

abbrev pub asked_in : Sheet → List Feature
asked_in sheet = flat_map asked_by sheet.rules

-- the sheets behind the first, which is the default one
abbrev pub authors : List Sheet → List Sheet
authors [] = []
authors (default ∷ sheets) = sheets

-- the features of a page's sheets, each once, by its first place
abbrev pub asked : List Sheet → List Feature
asked sheets = distinct same_feature (flat_map asked_in (authors sheets))

-- ---- no more than 16 of them

abbrev pub noted_all : List Feature → List Feature → List Feature
noted_all known fs = fold (noted same_feature) known fs

-- the features that are known behind these rules, or the place of the first rule with which there are more than 16
abbrev pub known_behind : List Feature → List Rule → Result (List Feature) ℕ
known_behind known [] = Ok known
known_behind known (rule ∷ rules) = if nat_lt 16 (length (noted_all known (asked_by rule))) then Err rule.at
    else known_behind (noted_all known (asked_by rule)) rules

-- what comes behind a sheet of this number
abbrev pub behind_sheet : {A : Type 0} → ℕ → Result A ℕ → (A → Result A (ℕ × ℕ)) → Result A (ℕ × ℕ)
behind_sheet number (Err place) rest = Err (number, place)
behind_sheet number (Ok known) rest = rest known

-- the same of sheets, the first of which has this number
abbrev pub known_behind_sheets : List Feature → ℕ → List Sheet → Result (List Feature) (ℕ × ℕ)
known_behind_sheets known number [] = Ok known
known_behind_sheets known number (sheet ∷ sheets) =
    behind_sheet number (known_behind known sheet.rules) (λ next. known_behind_sheets next (suc number) sheets)

-- The features of a page's sheets; or, where there are more than 16, the number of the author's sheet and the place of
-- the rule in whose list the seventeenth is.
abbrev pub features_of : List Sheet → Result (List Feature) (ℕ × ℕ)
features_of sheets = known_behind_sheets [] 0 (authors sheets)
