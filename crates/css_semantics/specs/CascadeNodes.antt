-- What the winners at a node come to: its settings, or a value that is refused by name (CSS 2.1, 6.1 and 6.4).
use Rattle.std.specs.Prelude.{ℕ, ◌==◌, Bool, true, false, not, ◌&&◌, ◌||◌, List, [], ◌∷◌, map, Option, Some, None, Result, Ok, Err, slice_get, if◌then◌else◌}
use Rattle.std.specs.List.{list_any, flat_map}
use Rattle.std.specs.Option.{option_to_list}
use Rattle.viz_base.specs.declared.settings.Prop.{Prop}
use Rattle.viz_base.specs.declared.settings.Prop.TheVariants as of_prop
use Rattle.viz_base.specs.declared.settings.Setting.{Setting}
use Rattle.viz_base.specs.declared.settings.Value.{Value}
use Rattle.viz_base.specs.declared.settings.Value.TheVariants as of_value
use Rattle.css_semantics.specs.Places.{at_none}
use Rattle.css_semantics.specs.declared.claims.Claim.{Claim}
use Rattle.css_semantics.specs.declared.claims.Standing.{Standing}
use Rattle.css_semantics.specs.CascadeOrder.{Applied, winner_of, is_prop}
use Rattle.css_semantics.specs.Properties.{properties}
use Rattle.css_semantics.specs.Values.{is_zero}

-- ---- winners

abbrev pub winners_for : Prop → List Applied → List Claim
winners_for p all = map (λ a. a.claim) (option_to_list (winner_of p all))

-- what wins at a node of all that applies to it, in the order of the table
abbrev pub winners_of : List Applied → List Claim
winners_of all = flat_map (λ p. winners_for p all) properties

-- ---- what is refused

-- Whether a minimum is other than zero; `inherit` is what the parent's is (CSS 2.1, 6.2.1).
abbrev pub is_above_zero : Bool → Value → Bool
is_above_zero outer of_value.Inherit = outer
is_above_zero outer (of_value.Px n) = not (is_zero n)
is_above_zero outer (of_value.Em n) = not (is_zero n)
is_above_zero outer (of_value.Pct n) = not (is_zero n)
is_above_zero outer _ = true

-- Whether a maximum is other than `none`.
abbrev pub is_limit : Bool → Value → Bool
is_limit outer of_value.Inherit = outer
is_limit outer (of_value.Word n) = false
is_limit outer _ = true

-- whether the value of a property is other than zero, where it is a
-- minimum, or than `none`, where it is a maximum height
abbrev pub sets_min_width : Standing → Prop → Value → Bool
sets_min_width outer p v = is_prop p of_prop.MinWidth && is_above_zero outer.min_width v

abbrev pub sets_min_height : Standing → Prop → Value → Bool
sets_min_height outer p v = is_prop p of_prop.MinHeight && is_above_zero outer.min_height v

abbrev pub sets_max_height : Standing → Prop → Value → Bool
sets_max_height outer p v = is_prop p of_prop.MaxHeight && is_limit outer.max_height v

abbrev pub sets_limit : Standing → Prop → Value → Bool
sets_limit outer p v = sets_min_width outer p v || (sets_min_height outer p v || sets_max_height outer p v)

-- A value that is refused: one that is refused by name, but for `content`, which has no effect on an element (CSS 2.1,
-- 12.2), and on a replaced element such a minimum or maximum (our own reading).
abbrev pub refuses : Bool → Standing → Prop → Option Value → Bool
refuses replaced outer p None = not (is_prop p of_prop.Content)
refuses replaced outer p (Some v) = replaced && sets_limit outer p v

abbrev pub is_refused : Bool → Standing → Claim → Bool
is_refused replaced outer c = refuses replaced outer c.prop c.value

-- ---- what a node comes to

-- what a winner sets, unless it is refused
abbrev pub set_by : Prop → Option Value → List Setting
set_by p None = []
set_by p (Some v) = record { prop = p; value = v } ∷ []

abbrev pub settings_by : Bool → Standing → Claim → List Setting
settings_by replaced outer c = if is_refused replaced outer c then [] else set_by c.prop c.value

abbrev pub settings_of : Bool → Standing → List Claim → List Setting
settings_of replaced outer winners = flat_map (settings_by replaced outer) winners

-- `display: none`
abbrev pub is_word : ℕ → Option Value → Bool
is_word n (Some (of_value.Word m)) = m == n
is_word n _ = false

abbrev pub hides : Claim → Bool
hides c = is_prop c.prop of_prop.Display && is_word at_none c.value

-- the first of the winners that is refused
abbrev pub first_refused : Bool → Standing → List Claim → Option Claim
first_refused replaced outer [] = None
first_refused replaced outer (c ∷ cs) = if is_refused replaced outer c then Some c else first_refused replaced outer cs

-- what those inside the node take from it
abbrev pub standing_of : Standing → Bool → List Setting → Standing
standing_of outer hidden settings = record {
  hidden = hidden;
  min_width = list_any (λ s. sets_min_width outer s.prop s.value) settings;
  min_height = list_any (λ s. sets_min_height outer s.prop s.value) settings;
  max_height = list_any (λ s. sets_max_height outer s.prop s.value) settings;
}

-- the root's: nothing around it hides it, and `inherit` is the initial value there
abbrev pub around_root : Standing
around_root = record { hidden = false; min_width = false; min_height = false; max_height = false }

abbrev pub found_or : Standing → Option Standing → Standing
found_or outer None = outer
found_or outer (Some s) = s

-- what a node takes from its parent
abbrev pub standing_around : List Standing → Option ℕ → Standing
standing_around standings None = around_root
standing_around standings (Some p) = found_or around_root (slice_get standings p)

-- Whether a node with these winners is hidden: by `display: none`, or since its parent is (CSS 2.1, 9.2.4).
abbrev pub is_hidden : Standing → List Claim → Bool
is_hidden outer winners = outer.hidden || list_any hides winners

abbrev pub refused_at : Bool → Option Claim → Option Claim
refused_at hidden c = if hidden then None else c

abbrev pub node_outcome : Standing → Bool → List Setting → Option Claim → Result (List Setting × Standing) Claim
node_outcome outer hidden settings (Some c) = Err c
node_outcome outer hidden settings None = Ok (settings, standing_of outer hidden settings)

-- What a node comes to: what its winners set, and what those inside it take from it. Where it isn't hidden, the
-- first winner that is refused refuses the page. What is refused on a hidden node sets nothing.
abbrev pub judged : Bool → Standing → List Claim → Result (List Setting × Standing) Claim
judged replaced outer winners =
    node_outcome outer (is_hidden outer winners) (settings_of replaced outer winners)
    (refused_at (is_hidden outer winners) (first_refused replaced outer winners))
