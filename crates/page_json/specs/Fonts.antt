-- A font of a job file.
use Rattle.std.specs.Prelude.{ℕ, ◌+◌, Bool, true, ◌&&◌, nat_le, List, [], ◌∷◌, Option, Some, None, option_map, option_and_then, if◌then◌else◌, codes}
use Rattle.std.proofs.Math.Utf8.{scalar}
use Rattle.serde_json.specs.Data.{Data}
use Rattle.serde_json.specs.Find.{as_str}
use Rattle.viz_base.specs.declared.limits.TheConstants.{MOST_EM}
use Rattle.viz_base.specs.declared.fonts.Font.{Font}
use Rattle.page_json.specs.Values.{whole_in, pair_of, list_at, all_of, ◌of_member◌}

-- a font's members
pub record Measures : Type 0 where
  pub name : List ℕ
  pub upem : ℕ
  pub ascent : ℕ
  pub descent : ℕ
  pub other : ℕ
  pub advances : List (ℕ × ℕ)

abbrev pub measures_of : Font → Measures
measures_of f = record {
  name = f.name;
  upem = f.upem;
  ascent = f.ascent;
  descent = f.descent;
  other = f.other;
  advances = f.advances;
}

-- the code of a character, and its advance
abbrev pub advance_in : ℕ × ℕ → Option (ℕ × ℕ)
advance_in p = if scalar p.0 && nat_le p.1 65535 then Some p else None

abbrev pub advance_of : Data → Option (ℕ × ℕ)
advance_of d = option_and_then advance_in (pair_of d)

-- the first code is at least `least`, and each other one is above the one before it
abbrev pub codes_ascend : ℕ → List (ℕ × ℕ) → Bool
codes_ascend least [] = true
codes_ascend least (p ∷ ps) = nat_le least p.0 && codes_ascend (p.0 + 1) ps

abbrev pub in_order : List (ℕ × ℕ) → Option (List (ℕ × ℕ))
in_order advances = if codes_ascend 0 advances then Some advances else None

-- the advances of characters, their codes strictly ascending; a member that is missing has none
abbrev pub advances_of : Data → Option (List (ℕ × ℕ))
advances_of d = option_and_then in_order (option_and_then (all_of advance_of) (list_at (codes "advances") d))

-- a member that is a number of font units
abbrev pub units_at : List ℕ → Data → Option ℕ
units_at key = whole_in 0 65535 of_member key

-- a font, where no member is missing, of another form or beyond its limits
abbrev pub font_of : Data → Option Measures
font_of d =
    option_and_then (λ name. option_and_then (λ upem. option_and_then (λ ascent. option_and_then (λ descent.
    option_and_then (λ other. option_map (λ advances.
    record { name = name; upem = upem; ascent = ascent; descent = descent; other = other; advances = advances })
    (advances_of d)) (units_at (codes "default") d)) (units_at (codes "descent") d)) (units_at (codes "ascent") d))
    ((whole_in 1 MOST_EM of_member codes "upem") d)) ((as_str of_member codes "name") d)
