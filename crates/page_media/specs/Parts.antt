-- The parts of a range: the worlds in which the same features are met.
use Rattle.std.specs.Prelude.{ℕ, ◌+◌, ◌-◌, Bool, true, false, ◌&&◌, nat_lt, List, [], ◌∷◌, length, map, Result, Ok, Err, if◌then◌else◌}
use Rattle.std.specs.List.{flat_map, range_with_len}
use Rattle.viz_base.specs.declared.sheets.Feature.{Feature}
use Rattle.viz_base.specs.declared.worlds.Rect.{Rect}
use Rattle.page_media.specs.Queries.{is_met}
use Rattle.page_media.specs.Distinct.{distinct}
use Rattle.page_media.specs.Features.{are_alike, same_feature}

-- which of the features are met in a viewport of this width, with this default font size, in pixels
abbrev pub signs_at : List Feature → ℕ → ℕ → List Bool
signs_at features w s = map (is_met w s) features

abbrev pub same_signs : List Bool → List Bool → Bool
same_signs [] [] = true
same_signs (a ∷ more) (b ∷ rest) = are_alike a b && same_signs more rest
same_signs _ _ = false

-- the numbers from one to another
abbrev pub numbers : ℕ → ℕ → List ℕ
numbers least most = range_with_len least (most + 1 - least)

-- the signs at the worlds of a width, by their sizes
abbrev pub row_of : List Feature → Rect → ℕ → List (List Bool)
row_of features range w = map (signs_at features w) (numbers range.sl range.sh)

-- the sign lists of a range's worlds, each once, by its first world in the order of widths and then sizes
abbrev pub parts_of : List Feature → Rect → List (List Bool)
parts_of features range = distinct same_signs (flat_map (row_of features range) (numbers range.wl range.wh))

-- the parts, or how many they are where they are more than 12
abbrev pub few_parts_of : List Feature → Rect → Result (List (List Bool)) ℕ
few_parts_of features range = if nat_lt 12 (length (parts_of features range)) then Err (length (parts_of features range))
    else Ok (parts_of features range)

-- the sign that stands at a feature's place; of a feature that isn't in the list false
abbrev pub sign_of : List Feature → List Bool → Feature → Bool
sign_of (g ∷ gs) (sign ∷ signs) f = if same_feature f g then sign else sign_of gs signs f
sign_of _ _ f = false
