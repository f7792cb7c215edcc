-- The exact values on the way to preferred widths: a calc may report a
-- coefficient past its limit where one of them passes it.
use Rattle.std.specs.Prelude.{◌≤◌, ◌<◌, ℕ, ◌+◌, ◌*◌, ◌^◌, ℤ, pos, ◌+ℤ◌, unsigned_abs, Bool, IsTrue, List, [], ◌∷◌, length, map, sum, Option, Some, None}
use Rattle.std.specs.List.{AllByRecursion}
use Rattle.viz_base.specs.declared.limits.TheConstants.{MOST_BOXES}
use Rattle.viz_base.specs.declared.layouts.Preferred.{Preferred}
use Rattle.viz_base.specs.declared.lengths.Length.{Length}
use Rattle.viz_base.specs.declared.lengths.Sides.{Sides}
use Rattle.viz_base.specs.declared.styles.Style.{Style}
use Rattle.viz_base.specs.declared.trees.BoxTree.{BoxTree}
use Rattle.viz_base.specs.declared.worlds.World.{World}
use Rattle.viz_base.specs.Styles.{nothing}
use Rattle.viz_calc.specs.State.{AllSmall}
use Rattle.viz_calc.specs.World.{Reading}
use Rattle.layout_semantics.specs.Blocks.{node_of}
use Rattle.layout_semantics.specs.DefiniteHeights.{own_height}
use Rattle.layout_semantics.specs.Fonts.{text_width}
use Rattle.layout_semantics.specs.InlineContent.{Item, start, finish, word, space, atomic, float, text_of, text_items, content}
use Rattle.layout_semantics.specs.Lengths.{used_if_absolute, own, margins, borders, paddings}
use Rattle.layout_semantics.specs.Order.{kids_of}
use Rattle.layout_semantics.specs.Preferred.{Inside, a_replaced, inline_content, blocks, inside_of}
use Rattle.layout_semantics.specs.Replaced.{intrinsic}
use Rattle.lay_length.specs.Ways.{part_way}
use Rattle.lay_line.specs.Ways.{item_way}
use Rattle.lay_line.specs.steps.Held.{Held}
use Rattle.lay_width.specs.Fitting.{own_width_of, UsedFits, ClampFits, RatioFits}
use Rattle.lay_width.specs.steps.Terms.{tentative}
use Rattle.lay_preferred.specs.steps.Outer.{edge, end_of, with_edges, replaced}
use Rattle.lay_preferred.specs.steps.Parts.{Sized, width_of}

-- ---- what is computed of a box by itself

-- to a margin, border and padding in front of others
abbrev pub side_way : ℤ → ℤ → ℤ → ℤ → List ℤ
side_way margin border padding rest = (padding +ℤ rest) ∷ (border +ℤ (padding +ℤ rest))
    ∷ (margin +ℤ (border +ℤ (padding +ℤ rest))) ∷ []

abbrev pub SideFits : BoxTree → World → Length → Length → Length → ℤ → Type 0
SideFits tree w margin border padding rest =
    UsedFits tree w padding (pos 0) × (UsedFits tree w border (pos 0) × (UsedFits tree w margin (pos 0)
    × AllSmall (side_way (edge tree w margin) (edge tree w border) (edge tree w padding) rest)))

-- to what the start of a box takes with others, and its end
abbrev pub StartFits : BoxTree → World → ℕ → ℤ → Type 0
StartFits tree w at rest = SideFits tree w (margins tree at).left (borders tree at).left (paddings tree at).left rest

abbrev pub EndFits : BoxTree → World → ℕ → Type 0
EndFits tree w at = SideFits tree w (margins tree at).right (borders tree at).right (paddings tree at).right (pos 0)

abbrev pub EdgesFit : BoxTree → World → ℕ → Type 0
EdgesFit tree w at = EndFits tree w at × StartFits tree w at (end_of tree w at)

-- to a width that is held, and has its edges
abbrev pub AroundFits : BoxTree → World → ℕ → ℤ → Type 0
AroundFits tree w at x = ClampFits tree w at (pos 0) × (EdgesFit tree w at × AllSmall (with_edges tree w at x ∷ []))

abbrev pub GivenFits : BoxTree → World → ℕ → Type 0
GivenFits tree w at = UsedFits tree w (own_width_of tree at) (pos 0)
    × AroundFits tree w at (edge tree w (own_width_of tree at))

-- to the width of a replaced box
abbrev pub ByHeightFits : BoxTree → World → ℕ → Type 0
ByHeightFits tree w at = UsedFits tree w (own_height tree at) (pos 0)
    × RatioFits (intrinsic tree at) (used_if_absolute tree w (own_height tree at))

abbrev pub ReplacedFits : BoxTree → World → ℕ → Type 0
ReplacedFits tree w at =
    UsedFits tree w (own_width_of tree at) (pos 0)
    × (ByHeightFits tree w at × (ClampFits tree w at (pos 0) × AllSmall ((replaced tree w at).least ∷ [])))

-- to the width of a text
abbrev pub TextFits : BoxTree → World → ℕ → List ℕ → Type 0
TextFits tree w at text = AllSmall (part_way tree w (node_of tree at) (text_width tree w (node_of tree at) text))

-- to what an item takes that is no box
unfoldable pub ItemFits : BoxTree → World → Item → Type 0
ItemFits tree w (word at text) = TextFits tree w at text
ItemFits tree w (space at) = TextFits tree w at (32 ∷ [])
ItemFits tree w (start at) = StartFits tree w at (pos 0)
ItemFits tree w (finish at) = EndFits tree w at
ItemFits tree w i = Unit {0}

-- ---- what is computed of parts

-- to what a part holds after an item; a float takes no place among the others
abbrev pub after_way : ℤ → Held → Item → List ℤ
after_way width h (float at) = []
after_way width h i = item_way width h i

-- the preferred minimum widths of items together, each without its sign, and the preferred ones
abbrev pub leasts : List Sized → ℕ
leasts [] = 0
leasts (s ∷ ss) = unsigned_abs s.widths.least + leasts ss

abbrev pub mosts : List Sized → ℕ
mosts [] = 0
mosts (s ∷ ss) = unsigned_abs s.widths.most + mosts ss

-- a sum that may be doubled
abbrev pub IsHalf : ℕ → Type 0
IsHalf n = n ≤ 2 ^ 99

-- ---- boxes with what is in them

-- a length and what is on the way to it; it is at most so large
pub record LengthFits (tree : BoxTree) (w : World) (most : ℕ) (length : Length) : Type 0 where
  pub way : UsedFits tree w length (pos 0)
  pub size : unsigned_abs (edge tree w length) ≤ most

-- at both sides
abbrev pub SidesFit : BoxTree → World → ℕ → Sides Length → Type 0
SidesFit tree w most s = LengthFits tree w most s.left × LengthFits tree w most s.right

abbrev pub MaximumFits : BoxTree → World → ℕ → Option Length → Type 0
MaximumFits tree w most None = Unit {0}
MaximumFits tree w most (Some length) = LengthFits tree w most length

-- the lengths of a box, and the width that follows from the height of a replaced one, are at most so large
pub record LengthsFit (tree : BoxTree) (w : World) (most at : ℕ) : Type 0 where
  pub margin : SidesFit tree w most (margins tree at)
  pub border : SidesFit tree w most (borders tree at)
  pub padding : SidesFit tree w most (paddings tree at)
  pub width : LengthFits tree w most (own_width_of tree at)
  pub least : LengthFits tree w most (own tree at (λ (s : Style). s.min_width) nothing)
  pub greatest : MaximumFits tree w most (own tree at (λ (s : Style). s.max_width) None)
  pub height : LengthFits tree w most (own_height tree at)
  pub by_height : unsigned_abs (tentative (intrinsic tree at) None (used_if_absolute tree w (own_height tree at))) ≤
      most

-- words and spaces fit
abbrev pub WordFits : BoxTree → World → Item → Type 0
WordFits tree w (word at text) = TextFits tree w at text
WordFits tree w (space at) = TextFits tree w at (32 ∷ [])
WordFits tree w i = Unit {0}

-- what an item can take, where a box in inline content can take what its cap says
abbrev pub room_of : BoxTree → World → (ℕ → ℕ) → Item → ℕ
room_of tree w cap (atomic at) = cap at
room_of tree w cap (float at) = cap at
room_of tree w cap i = unsigned_abs (width_of tree w i)

-- what is in a box can take so much
abbrev pub room_by : BoxTree → World → (ℕ → ℕ) → ℕ → Inside → ℕ
room_by tree w cap at a_replaced = 0
room_by tree w cap at inline_content = sum (map (room_of tree w cap) (content tree at))
room_by tree w cap at blocks = sum (map cap (kids_of tree.boxes at))

abbrev pub room_inside : BoxTree → World → (ℕ → ℕ) → ℕ → ℕ
room_inside tree w cap at = room_by tree w cap at (inside_of tree at)

-- the cap of a box is at least eight times its greatest length, and what is in it can take
pub record BoxFits (tree : BoxTree) (w : World) (lengths cap : ℕ → ℕ) (at : ℕ) : Type 0 where
  pub own : LengthsFit tree w (lengths at) at
  pub words : AllByRecursion (WordFits tree w) (content tree at)
  pub room : 8 * lengths at + room_inside tree w cap at ≤ cap at

-- each box of a tree has a cap, at most 2^90
pub record BoxesFit (tree : BoxTree) (is_open : Reading → Bool) : Type 0 where
  pub lengths : ℕ → ℕ
  pub cap : ℕ → ℕ
  pub most : (at : ℕ) → at < length tree.boxes → cap at ≤ 2 ^ 90
  pub boxes : (e : Reading) → IsTrue (is_open e) → (at : ℕ) → at < length tree.boxes
      → BoxFits tree e.world lengths cap at

-- both widths are at most so large
abbrev pub AreWithin : ℕ → Preferred ℤ → Type 0
AreWithin n p = (unsigned_abs p.least ≤ n) × (unsigned_abs p.most ≤ n)

-- ---- boxes that are small by themselves

-- the words and spaces of a text fit, and together they are at most so wide
pub record WholeTextFits (tree : BoxTree) (w : World) (most at : ℕ) : Type 0 where
  pub words : AllByRecursion (WordFits tree w) (text_items at (text_of tree at))
  pub size : sum (map (room_of tree w (λ (k : ℕ). 0)) (text_items at (text_of tree at))) ≤ most

-- a tree of at most 16,384 boxes; the lengths of each are at most 2^41 units, and so is its text
pub record AreSmallBoxes (tree : BoxTree) (is_open : Reading → Bool) : Type 0 where
  pub few_boxes : length tree.boxes ≤ MOST_BOXES
  pub lengths : (e : Reading) → IsTrue (is_open e) → (at : ℕ) → at < length tree.boxes
      → LengthsFit tree e.world (2 ^ 41) at
  pub texts : (e : Reading) → IsTrue (is_open e) → (at : ℕ) → at < length tree.boxes
      → WholeTextFits tree e.world (2 ^ 41) at
