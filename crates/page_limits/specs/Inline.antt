-- What is asked of a block container's inline content, that its lines stay within bounds.
use Rattle.std.specs.Prelude.{◌≡◌, ◌⊎◌, ℕ, ◌+◌, ◌*◌, ◌≤◌, ℤ, pos, ◌+ℤ◌, ◌-ℤ◌, ◌≤ℤ◌, unsigned_abs, List, ◌++◌}
use Rattle.std.specs.List.{AllByRecursion}
use Rattle.std.specs.Option.{option_map_or, option_to_list}
use Rattle.viz_base.specs.Styles.{sides_of}
use Rattle.viz_base.specs.declared.lengths.Length.{Length}
use Rattle.viz_base.specs.declared.layouts.Entry.{Entry}
use Rattle.viz_base.specs.declared.layouts.Entry.TheVariants as of_entry
use Rattle.layout_semantics.specs.Blocks.{node_of, parent_of}
use Rattle.layout_semantics.specs.Fonts.{ascent, descent}
use Rattle.layout_semantics.specs.InlineContent.{Item, start, finish, word, space, atomic, forced, float, content}
use Rattle.layout_semantics.specs.Lengths.{used, margins, borders, paddings}
use Rattle.layout_semantics.specs.LineFilling.{item_width, band_width, float_size}
use Rattle.layout_semantics.specs.LineHeights.{InlineContext, LineExtent, extent_in_line, inline_shift, strut}
use Rattle.layout_semantics.specs.Lines.{LineList}
use Rattle.page_limits.specs.Bounds.{Bounds, IsFloatIn, IsLevelIn, IsPlacedIn, IsPutIn, grown, no_bounds, all_around}

-- at most this in size
abbrev pub IsSmall : ℕ → ℤ → Type 0
IsSmall s z = unsigned_abs z ≤ s

-- An atomic box in a line, whose coordinates stay within `own`, and which a line takes up to `rise`
-- for: where its baseline is above its top, by `turn`, it stands as much farther down.
pub record IsAtomIn (own rise : Bounds) (s : ℕ) (e : LineExtent) : Type 0 where
  pub turn : ℕ
  pub up : own.up ≤ rise.up + turn
  pub down : own.down + turn ≤ rise.down
  pub aside : own.aside ≤ rise.aside
  pub from : (pos 0 -ℤ pos (turn + s)) ≤ℤ e.above
  pub lifted : (turn ≡ 0) ⊎ ((e.above +ℤ pos turn) ≤ℤ pos s)
  pub to : e.above ≤ℤ pos (own.down + s)
  pub tall : (e.above +ℤ e.below) ≤ℤ pos (own.down + 2 * s)

module _ (c : InlineContext) (own rise : ℕ → Bounds) (s : ℕ) where
  pub record IsFontSmall (at : ℕ) : Type 0 where
    pub ascent : IsSmall s (ascent c.tree c.world (node_of c.tree at))
    pub descent : IsSmall s (descent c.tree c.world (node_of c.tree at))

  abbrev pub edges_of : ℕ → List Length
  edges_of at = sides_of (paddings c.tree at) ++ (sides_of (borders c.tree at) ++ sides_of (margins c.tree at))

  pub record IsInlineSmall (at : ℕ) : Type 0 where
    pub above : IsSmall s (extent_in_line c at).above
    pub below : IsSmall s (extent_in_line c at).below
    pub shift : IsSmall s (inline_shift c at)
    pub font : IsFontSmall at
    pub edges : AllByRecursion (λ length. IsSmall s (used c.tree c.world length (band_width c.cb))) (edges_of at)

  pub record IsTextSmall (at : ℕ) : Type 0 where
    pub shift : IsSmall s (option_map_or (inline_shift c) (parent_of c.tree.boxes at) (pos 0))
    pub font : IsFontSmall at

  pub record IsFloatSmall (at : ℕ) : Type 0 where
    pub width : IsSmall s (float_size c at).width
    pub height : IsLevelIn (own at) (float_size c at).height

  unfoldable pub IsItemBoxSmall : Item → Type 0
  IsItemBoxSmall (start at) = IsInlineSmall at
  IsItemBoxSmall (finish at) = Unit {0}
  IsItemBoxSmall (word at text) = IsTextSmall at
  IsItemBoxSmall (space at) = IsTextSmall at
  IsItemBoxSmall (atomic at) = IsAtomIn (own at) (rise at) s (extent_in_line c at)
  IsItemBoxSmall (forced at) = Unit {0}
  IsItemBoxSmall (float at) = IsFloatSmall at

  pub record IsItemSmall (i : Item) : Type 0 where
    pub width : IsSmall s (item_width c i)
    pub box : IsItemBoxSmall i

  pub record IsContentSmall : Type 0 where
    pub items : AllByRecursion IsItemSmall (content c.tree c.container)
    pub above : IsSmall s (strut c).above
    pub below : IsSmall s (strut c).below

-- how far an atomic box, and a float, can make its line go on
unfoldable pub rise_of : (ℕ → Bounds) → Item → Bounds
rise_of rise (atomic at) = rise at
rise_of rise _ = no_bounds

unfoldable pub float_rise : (ℕ → Bounds) → Item → Bounds
float_rise own (float at) = own at
float_rise own _ = no_bounds

-- and any item
abbrev pub charge : (ℕ → Bounds) → (ℕ → Bounds) → ℕ → Item → Bounds
charge own rise s i = grown (rise_of rise i) (grown (float_rise own i) (all_around (20 * (s + 1))))

-- an entry within bounds, by those of the boxes that go to a place
abbrev pub IsEntryIn : (ℕ → Bounds) → Bounds → Entry ℤ → Type 0
IsEntryIn own b (of_entry.Here p) = IsPlacedIn b p
IsEntryIn own b (of_entry.Goes k at) = IsPutIn b (own k) at

-- the lines of a container
pub record AreLinesIn (own : ℕ → Bounds) (b : Bounds) (l : LineList) : Type 0 where
  pub entries : AllByRecursion (IsEntryIn own b) l.entries
  pub bottom : IsLevelIn b l.bottom
  pub baseline : AllByRecursion (IsLevelIn b) (option_to_list l.baseline)
  pub floats : AllByRecursion (IsFloatIn b) l.floats
