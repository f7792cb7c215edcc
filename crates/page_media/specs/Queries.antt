-- What width queries say of a viewport (Media Queries 3, chapters 2 to 4 and 6; CSS 2.1, 7.2.1).
use Rattle.std.specs.Prelude.{ℕ, ◌*◌, ◌==◌, ℤ, pos, int_le, Bool, true, not, ◌&&◌, ◌||◌, List, [], ◌∷◌, length, map, filter, if◌then◌else◌}
use Rattle.std.specs.List.{list_all, list_any}
use Rattle.std.specs.Option.{option_map_or}
use Rattle.viz_base.specs.FontSizes.{default_size, fraction}
use Rattle.viz_base.specs.declared.sheets.Bound.{Bound}
use Rattle.viz_base.specs.declared.sheets.Bound.TheVariants.{Px, Em}
use Rattle.viz_base.specs.declared.sheets.Feature.{Feature}
use Rattle.viz_base.specs.declared.sheets.MediaEntry.{MediaEntry}
use Rattle.viz_base.specs.declared.sheets.Rule.{Rule}
use Rattle.viz_base.specs.declared.sheets.Sheet.{Sheet}

-- ---- features

-- A bound in 1/64 px where the default font size is of so many pixels. `em` is of that size, whatever font sizes the
-- page declares (Media Queries 3, 6).
abbrev pub bound_at : ℕ → Bound → ℤ
bound_at s (Px c) = c
bound_at s (Em k) = fraction k 1000000 (default_size s)

-- Whether a viewport of so many pixels has a feature: `min-width` says at least, `max-width` at most (Media Queries 3,
-- 4.1).
abbrev pub is_met : ℕ → ℕ → Feature → Bool
is_met w s f = if f.most then int_le (pos (64 * w)) (bound_at s f.bound) else int_le (bound_at s f.bound) (pos (64 * w))

-- ---- lists, where `met` says which features are met

-- An entry is met where its medium is this one and each of its features is met. `not` negates the whole of it (Media
-- Queries 3, 2).
abbrev pub entry_met : (Feature → Bool) → MediaEntry → Bool
entry_met met e = if e.negated then not (e.on && list_all met e.features) else e.on && list_all met e.features

-- a list, where it is empty or one of its entries is met
abbrev pub list_met : (Feature → Bool) → List MediaEntry → Bool
list_met met entries = (length entries == 0) || list_any (entry_met met) entries

-- a rule under no list is for all media
abbrev pub rule_met : (Feature → Bool) → Rule → Bool
rule_met met rule = option_map_or (list_met met) rule.media true

abbrev pub met_sheet : (Feature → Bool) → Sheet → Sheet
met_sheet met sheet = record { rules = filter (rule_met met) sheet.rules }

-- the sheets of a page with their rules that are met; the first, which is the default one, has all of its rules
abbrev pub met_sheets : (Feature → Bool) → List Sheet → List Sheet
met_sheets met [] = []
met_sheets met (default ∷ authors) = default ∷ map (met_sheet met) authors
