-- Floats that stand level where they are tried, and what that tells of another edge (CSS 2.1, 9.5.1, 9.5.2).
use Rattle.std.specs.Prelude.{◌≡◌, ◌⊎◌, ◌≤◌, ℕ, ℤ, ◌+ℤ◌, ◌≤ℤ◌, Bool, false, ◌&&◌, ◌||◌, int_le, int_lt, List, ◌++◌, length, drop, Contains, Option, None, unwrap_or}
use Rattle.std.specs.List.{list_any}
use Rattle.std.specs.Option.{option_map_or}
use Rattle.viz_base.specs.declared.layouts.Waiting.{Waiting}
use Rattle.viz_base.specs.declared.styles.Clear.{Clear}
use Rattle.viz_base.specs.declared.styles.Side.{Side}
use Rattle.viz_base.specs.declared.styles.Side.TheVariants as of_side
use Rattle.viz_base.specs.declared.styles.Style.{Style}
use Rattle.viz_base.specs.declared.trees.BoxTree.{BoxTree}
use Rattle.layout_semantics.specs.Lengths.{own}
use Rattle.lay_float.specs.steps.Bands.{is_relevant_side}
use Rattle.layout_semantics.specs.Clearance.{Base, hangs, stands, Ground}
use Rattle.layout_semantics.specs.Floats.{FloatBox, lowest_bottom}
use Rattle.lay_margin.specs.declared.runs.Run.{Run}
use Rattle.lay_steps.specs.Forward.{bottom_to_clear, is_above}

-- the border edge at which a run would end that had this margin alone
abbrev pub edge_with : Base → ℤ → ℤ
edge_with (hangs edge) margin = edge +ℤ margin
edge_with (stands edge) margin = edge

-- an edge between those at which a run would end that had its least margin alone, or its greatest
pub record IsWithin (base : Base) (run : Run ℤ) (y : ℤ) : Type 0 where
  pub high : edge_with base run.neg ≤ℤ y
  pub low : y ≤ℤ edge_with base run.pos

-- a float that is in the way at `to` and isn't at `from`: its top is below `to`, or its bottom between the two
abbrev pub hinders : ℤ → ℤ → FloatBox → Bool
hinders from to f = int_lt to f.box.top || (int_lt to f.box.bottom && int_le f.box.bottom from)

-- floats that stand level at `from` find these no more in the way at `to`
abbrev pub StaysFree : List FloatBox → Option ℤ → ℤ → ℤ → Type 0
StaysFree floats least from to = (from ≤ℤ to)
    ⊎ ((option_map_or (int_lt to) least false ≡ false) × (list_any (hinders from to) floats ≡ false))

-- the last float that was tried at `from` has this top: all stand level there, and do at `to`
pub record IsLevelFor (g : Ground) (run : Run ℤ) (last from to : ℤ) : Type 0 where
  pub level : last ≤ℤ from
  pub free : StaysFree g.floats g.least from to
  pub within : IsWithin g.base run from

-- the side of a floated box
abbrev pub float_side : BoxTree → ℕ → Side
float_side tree at = unwrap_or (own tree at (λ (s : Style). s.float) None) of_side.Left

-- whether a box is cleared whose edge would be y
abbrev pub clears : Ground → ℕ → List (Waiting ℤ) → ℤ → Bool
clears g b ws y = is_above y (bottom_to_clear g b ws y)

-- the same at `to`, where all floats but those before are level at `from`
abbrev pub clears_level : Clear → List FloatBox → List FloatBox → ℤ → ℤ → Bool
clears_level clear before all from to =
    is_above to (lowest_bottom clear before) || is_above from (lowest_bottom clear (drop (length before) all))

-- the first ones of these floats, and `clear` names none of those behind them; there are at least so many, if there
-- are among all
pub record IsUpToNamed {N : Type 0} (tree : BoxTree) (clear : Clear) (all : List (Waiting N)) (least : ℕ)
    (part : List (Waiting N)) : Type 0 where
  pub rest : List (Waiting N)
  pub whole : all ≡ part ++ rest
  pub unnamed : (w : Waiting N) → Contains rest w → is_relevant_side clear (float_side tree w.at) ≡ false
  pub long : (n : ℕ) → n ≤ length all → n ≤ least → n ≤ length part
