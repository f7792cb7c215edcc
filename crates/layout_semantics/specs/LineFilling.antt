-- How much of its content a line holds, and where the floats met on it stand (CSS 2.1, 9.4.2, 9.5).
use Rattle.std.specs.Prelude.{ℕ, zero, suc, ◌-◌, ℤ, pos, ◌+ℤ◌, ◌-ℤ◌, int_le, Bool, true, false, not, cond, ◌&&◌, ◌||◌, List, [], ◌∷◌, ◌++◌, map, length, take, drop, filter, fold, slice_index_or, Some}
use Rattle.std.specs.List.{flat_map, list_any, range_with_len, prefix_len, before_first}
use Rattle.std.specs.Option.{option_map_or}
use Rattle.std.specs.Ordering.{int_eq}
use Rattle.viz_base.specs.declared.layouts.Band.{Band}
use Rattle.viz_base.specs.declared.layouts.Extent.{Extent}
use Rattle.viz_base.specs.declared.layouts.Inner.{Inner}
use Rattle.viz_base.specs.declared.layouts.Spot.{Spot}
use Rattle.viz_base.specs.declared.lengths.Length.{Length}
use Rattle.viz_base.specs.declared.trees.BoxTree.{BoxTree}
use Rattle.layout_semantics.specs.Extremes.{least_from}
use Rattle.layout_semantics.specs.Blocks.{node_of}
use Rattle.layout_semantics.specs.Fonts.{text_width}
use Rattle.layout_semantics.specs.Lengths.{used, total}
use Rattle.layout_semantics.specs.Floats.{FloatBox, Floating, floating, float_spot, with_float_at, band_at, meets, candidate_tops}
use Rattle.layout_semantics.specs.InlineContent.{Item, start, finish, word, space, atomic, forced, float, float_boxes, start_edges, end_edges, makes_line}
use Rattle.layout_semantics.specs.Segments.{is_forced, what_stays}
use Rattle.layout_semantics.specs.LineHeights.{InlineContext, inner_of}

-- ---- widths

abbrev pub band_width : Band ℤ → ℤ
band_width room = room.right -ℤ room.left

abbrev pub used_edges : InlineContext → List Length → ℤ
used_edges c edges = total (map (λ edge. used c.tree c.world edge (band_width c.cb)) edges)

-- what an item takes of a line: a word and a space their advances, an atomic box its margin
-- box, the start and the end of an inline box its margin, border and padding there
abbrev pub item_width : InlineContext → Item → ℤ
item_width c (word at text) = text_width c.tree c.world (node_of c.tree at) text
item_width c (space at) = text_width c.tree c.world (node_of c.tree at) (32 ∷ [])
item_width c (atomic at) = option_map_or (λ (i : Inner ℤ). i.width) (inner_of c at) (pos 0)
item_width c (start at) = used_edges c (start_edges c.tree at)
item_width c (finish at) = used_edges c (end_edges c.tree at)
item_width c (forced at) = pos 0
item_width c (float at) = pos 0

-- what a line takes, without the spaces at its ends
abbrev pub width_held : InlineContext → List Item → ℤ
width_held c items = total (map (item_width c) (what_stays items))

abbrev pub fits : ℤ → Band ℤ → Bool
fits width room = int_le width (band_width room)

-- ---- floats

-- floats that were placed, in their order, with the list that they then
-- stand in, and those that wait for the line's bottom
pub record Met : Type 0 where
  pub spots : List (ℕ × Spot ℤ)
  pub floats : List FloatBox
  pub waiting : List ℕ

abbrev pub float_size : InlineContext → ℕ → Extent ℤ
float_size c at =
    option_map_or (λ (i : Inner ℤ). record { width = i.width; height = i.above +ℤ i.below }) (inner_of c at)
    (record { width = pos 0; height = pos 0 })

abbrev pub line_float : InlineContext → ℕ → Floating
line_float c at = floating c.tree at (float_size c at) c.cb

-- where a float stands that comes at y, none of the lines' floats having its top above `least`
abbrev pub line_spot : InlineContext → List FloatBox → ℤ → ℤ → ℕ → Spot ℤ
line_spot c floats least y at = float_spot (line_float c at) floats (Some least) y

-- with one more of them placed, or waiting
abbrev pub with_spot : InlineContext → Met → ℕ → Spot ℤ → Met
with_spot c met at spot =
    record met { spots = met.spots ++ (at, spot) ∷ []; floats = with_float_at (line_float c at) met.floats spot }

abbrev pub with_waiting : Met → ℕ → Met
with_waiting met at = record met { waiting = met.waiting ++ at ∷ [] }

-- floats placed one after another, each from y on
abbrev pub place_each : InlineContext → ℤ → ℤ → Met → List ℕ → Met
place_each c least y met boxes =
    fold (λ (now : Met) at. with_spot c now at (line_spot c now.floats least y at)) met boxes

-- ---- the top of a line

abbrev pub meets_none : List FloatBox → ℤ → ℤ → Bool
meets_none floats y height = not (list_any (meets y height) floats)

abbrev pub least_or : ℤ → List ℤ → ℤ
least_or y [] = y
least_or y (x ∷ xs) = least_from x xs

-- the highest place from y on where so wide a segment fits beside the floats, or
-- no float is met; only below a float's bottom is there more room
abbrev pub line_top : InlineContext → List FloatBox → ℤ → ℤ → ℤ → ℤ
line_top c floats y tall width =
    least_or y (filter (λ top. fits width (band_at floats c.cb top tall) || meets_none floats top tall)
    (candidate_tops floats y))

-- ---- what a line holds

-- a line to be filled: its top, the height of the tallest line, the highest top of its floats,
-- the floats that stand before its first segment, and the segments that are left
pub record Line : Type 0 where
  pub top : ℤ
  pub tall : ℤ
  pub least : ℤ
  pub before : Met
  pub parts : List (List Item)

abbrev pub joined : List (List Item) → List Item
joined parts = flat_map (λ part. part) parts

abbrev pub first_items : Line → ℕ → List Item
first_items line n = joined (take n line.parts)

-- what stands before the first item that makes the line exist, and what stands from there on
abbrev pub before_line : BoxTree → List Item → List Item
before_line tree items = before_first (makes_line tree) items

abbrev pub from_line_on : BoxTree → List Item → List Item
from_line_on tree items = drop (length (before_line tree items)) items

-- the floats met at the end of a segment: in the first one those before anything on the line are placed before
abbrev pub floats_met : BoxTree → ℕ → List Item → List ℕ
floats_met tree zero items = float_boxes (from_line_on tree items)
floats_met tree (suc n) items = float_boxes items

abbrev pub none_waits : Met → Bool
none_waits met = none met.waiting
  where
    none : List ℕ → Bool
    none [] = true
    none (at ∷ waiting) = false

-- a float's place is at the line's top, and beside it there is still room for what the line holds
abbrev pub leaves_room : InlineContext → Line → ℤ → Met → ℕ → Spot ℤ → Bool
leaves_room c line held met at spot = int_eq spot.y line.top
    && fits held (band_at (with_float_at (line_float c at) met.floats spot) c.cb line.top line.tall)

-- a float that the line meets where it holds so much already stands in its place at once,
-- where none before it waits and that leaves room; else it waits (our own reading)
abbrev pub meet : InlineContext → Line → ℤ → Met → ℕ → Met
meet c line held met at = with_place (line_spot c met.floats line.least line.top at)
  where
    with_place : Spot ℤ → Met
    with_place spot =
        cond (none_waits met && leaves_room c line held met at spot) (with_spot c met at spot) (with_waiting met at)

-- the floats met in the first n segments, and those before
abbrev pub met_after : InlineContext → Line → ℕ → Met
met_after c line zero = line.before
met_after c line (suc n) =
    fold (meet c line (width_held c (first_items line (suc n)))) (met_after c line n)
    (floats_met c.tree n (slice_index_or line.parts n []))

-- the first k segments fit beside the floats met in those before the last, and no forced break stands before it
abbrev pub may_hold : InlineContext → Line → ℕ → Bool
may_hold c line k =
    fits (width_held c (first_items line k)) (band_at (met_after c line (k - 1)).floats c.cb line.top line.tall)
    && not (list_any is_forced (first_items line (k - 1)))

-- a line holds the longest list of segments such that each of its beginnings of
-- two and more may stand on it; the first segment it holds in any case
abbrev pub segments_held : InlineContext → Line → ℕ
segments_held c line = suc (prefix_len (may_hold c line) (range_with_len 2 (length line.parts - 1)))
