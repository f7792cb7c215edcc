use Rattle.std.specs.Prelude.{◌≡◌, ℕ, ◌<◌, ◌≤◌, Bool, true, false, not, nat_lt, ◌==◌, ◌&&◌, ◌||◌, List, [], ◌∷◌, ◌++◌, length, map, slice_get, sum_by, Option, Some, None, is_some, IsTrue}
use Rattle.std.specs.List.{list_all, list_any}
use Rattle.std.specs.Option.{option_map_or}
use Rattle.std.specs.Str.{chars}
use Rattle.viz_base.specs.declared.limits.TheConstants.{MOST_CHARACTERS}
use Rattle.viz_base.specs.Orders.{IsInOrder}
use Rattle.viz_base.specs.Reaches.{is_of_element}
use Rattle.viz_base.specs.Styles.{sides_of}
use Rattle.viz_base.specs.declared.fonts.Font.{Font}
use Rattle.viz_base.specs.declared.lengths.Length.{Length}
use Rattle.viz_base.specs.declared.lengths.Length.TheVariants as of_length
use Rattle.viz_base.specs.declared.lengths.LineHeight.{LineHeight}
use Rattle.viz_base.specs.declared.lengths.LineHeight.TheVariants as of_line
use Rattle.viz_base.specs.declared.lengths.Size.{Size}
use Rattle.viz_base.specs.declared.lengths.Size.TheVariants as of_size
use Rattle.viz_base.specs.declared.lengths.Valign.{Valign}
use Rattle.viz_base.specs.declared.lengths.Valign.TheVariants as of_valign
use Rattle.viz_base.specs.declared.styles.Style.{Style}
use Rattle.viz_base.specs.declared.trees.Kind.{Kind}
use Rattle.viz_base.specs.declared.trees.Kind.TheVariants as of_kind
use Rattle.viz_base.specs.declared.trees.BoxNode.{BoxNode}

-- ---- kinds of boxes

abbrev pub is_line : Kind → Bool
is_line of_kind.Line = true
is_line _ = false

abbrev pub is_replaced : Kind → Bool
is_replaced of_kind.Replaced = true
is_replaced _ = false

-- boxes that hold no other
abbrev pub is_leaf : Kind → Bool
is_leaf of_kind.Chars = true
is_leaf of_kind.Break = true
is_leaf of_kind.Replaced = true
is_leaf _ = false

abbrev pub is_inline : Kind → Bool
is_inline of_kind.Inline = true
is_inline _ = false

-- boxes that lines lay out in fragments: inline boxes, texts and forced breaks (CSS 2.1, 9.2.2)
abbrev pub is_fragmented : Kind → Bool
is_fragmented of_kind.Inline = true
is_fragmented of_kind.Chars = true
is_fragmented of_kind.Break = true
is_fragmented _ = false

abbrev pub is_chars : Kind → Bool
is_chars of_kind.Chars = true
is_chars _ = false

abbrev pub is_anon : Kind → Bool
is_anon of_kind.Anon = true
is_anon _ = false

-- ---- boxes

abbrev pub floats : Style → Bool
floats style = is_some style.float

-- floated, replaced or not (CSS 2.1, 9.5)
abbrev pub is_floated : List Style → BoxNode → Bool
is_floated styles b = by_kind b.kind
  where
    by_kind : Kind → Bool
    by_kind of_kind.Float = true
    by_kind of_kind.Replaced = option_map_or floats (slice_get styles b.node) false
    by_kind _ = false

-- inline-level (CSS 2.1, 9.2.2)
abbrev pub is_inline_level : BoxNode → Bool
is_inline_level b = by_kind b.kind
  where
    by_kind : Kind → Bool
    by_kind of_kind.Inline = true
    by_kind of_kind.Chars = true
    by_kind of_kind.Break = true
    by_kind of_kind.Atomic = true
    by_kind of_kind.Replaced = not b.block_level
    by_kind _ = false

abbrev pub is_block_or_anon : BoxNode → Bool
is_block_or_anon b = b.block_level || is_anon b.kind

-- a test of the box at a place, false where there is none
abbrev pub box_passes : (BoxNode → Bool) → List BoxNode → ℕ → Bool
box_passes test boxes at = option_map_or test (slice_get boxes at) false

-- strictly ascending, each above `low`
abbrev pub ascends : ℕ → List ℕ → Bool
ascends low [] = true
ascends low (k ∷ ks) = nat_lt low k && ascends k ks

abbrev pub is_kid_of : ℕ → BoxNode → Bool
is_kid_of at b = option_map_or (λ p. p == at) b.parent false

-- the box at a place is among those in its parent; without one it is the first
abbrev pub is_in_parent : List BoxNode → ℕ → Option ℕ → Bool
is_in_parent boxes at None = at == 0
is_in_parent boxes at (Some p) = box_passes (λ (outer : BoxNode). list_any (λ k. at == k) outer.kids) boxes p

-- what may stand in an inline box
abbrev pub is_inline_content : List Style → BoxNode → Bool
is_inline_content styles b = is_floated styles b || is_inline_level b

-- what may stand in a block container beside blocks
abbrev pub is_block_content : List Style → BoxNode → Bool
is_block_content styles b = is_floated styles b || is_block_or_anon b

-- either inline content alone, or, in a box that is no inline box, blocks and floats alone
abbrev pub holds_one_sort : List Style → List BoxNode → BoxNode → Bool
holds_one_sort styles boxes b =
    list_all (box_passes (is_inline_content styles) boxes) b.kids
    || (not (is_inline b.kind) && list_all (box_passes (is_block_content styles) boxes) b.kids)

-- ---- nodes

abbrev pub length_nodes : Length → List ℕ
length_nodes (of_length.Em k node) = node ∷ []
length_nodes _ = []

abbrev pub line_nodes : LineHeight → List ℕ
line_nodes (of_line.OfNode node num den) = node ∷ []
line_nodes _ = []

abbrev pub valign_nodes : Valign → List ℕ
valign_nodes (of_valign.Raise raise) = length_nodes raise
valign_nodes _ = []

abbrev pub maximum_nodes : Option Length → List ℕ
maximum_nodes None = []
maximum_nodes (Some most) = length_nodes most

abbrev pub sides_nodes : List Length → List ℕ
sides_nodes [] = []
sides_nodes (l ∷ ls) = length_nodes l ++ sides_nodes ls

-- the nodes that a style names
abbrev pub named_nodes : Style → List ℕ
named_nodes s =
    sides_nodes (s.width ∷ s.min_width ∷ s.height ∷ s.min_height ∷ [])
    ++ (maximum_nodes s.max_width
    ++ (maximum_nodes s.max_height
    ++ (sides_nodes (sides_of s.margin)
    ++ (sides_nodes (sides_of s.padding)
    ++ (sides_nodes (sides_of s.border)
    ++ (line_nodes s.line ++ valign_nodes s.valign))))))

abbrev pub has_box : List BoxNode → ℕ → Bool
has_box boxes node = list_any (λ b. b.node == node) boxes

-- the node has the box of an element
abbrev pub has_element : List BoxNode → ℕ → Bool
has_element boxes node = list_any (λ (b : BoxNode). is_of_element b.kind && (b.node == node)) boxes

-- so has this parent
abbrev pub is_element_box : List BoxNode → Option (Option ℕ) → Bool
is_element_box boxes (Some (Some node)) = has_element boxes node
is_element_box boxes _ = false

abbrev pub is_same_size : Size → Bool
is_same_size of_size.Same = true
is_same_size _ = false

-- the computed values of two styles are the same, but for the font sizes
pub record AreAlikeButSize (a b : Style) : Type 0 where
  pub display : a.display ≡ b.display
  pub float : a.float ≡ b.float
  pub clear : a.clear ≡ b.clear
  pub clips : a.clips ≡ b.clips
  pub width : a.width ≡ b.width
  pub min_width : a.min_width ≡ b.min_width
  pub max_width : a.max_width ≡ b.max_width
  pub height : a.height ≡ b.height
  pub min_height : a.min_height ≡ b.min_height
  pub max_height : a.max_height ≡ b.max_height
  pub margin : a.margin ≡ b.margin
  pub padding : a.padding ≡ b.padding
  pub border : a.border ≡ b.border
  pub font : a.font ≡ b.font
  pub line : a.line ≡ b.line
  pub valign : a.valign ≡ b.valign
  pub align : a.align ≡ b.align
  pub wraps : a.wraps ≡ b.wraps

-- ---- trees

-- how many characters the texts of boxes have together
abbrev pub character_count : List BoxNode → ℕ
character_count = sum_by (λ (b : BoxNode). length (chars b.chars))

-- a box at its place among the boxes of a tree
pub record IsBoxAt (boxes : List BoxNode) (nodes : ℕ) (styles : List Style) (at : ℕ) (b : BoxNode) : Type 0 where
  pub node : b.node < nodes
  pub no_line : is_line b.kind ≡ false
  pub size : is_some b.size ≡ is_replaced b.kind
  pub leaf : IsTrue (not (is_leaf b.kind) || (length b.kids == 0))
  pub characters : length (chars b.chars) ≤ MOST_CHARACTERS
  pub ascending : IsTrue (ascends at b.kids)
  pub named : IsTrue (list_all (box_passes (is_kid_of at) boxes) b.kids)
  pub one_sort : IsTrue (holds_one_sort styles boxes b)

-- the facts that a box tree keeps
pub record IsBoxTree (boxes : List BoxNode) (styles : List Style) (fonts : List Font) (parents : List (Option ℕ))
    : Type 0 where
  -- the first box, where there is one, is the root
  pub root : (b : BoxNode) → slice_get boxes 0 ≡ Some b → b.parent ≡ None
  pub root_is_whole : (b : BoxNode) → slice_get boxes 0 ≡ Some b → is_fragmented b.kind ≡ false
  pub root_node : (b : BoxNode) → slice_get boxes 0 ≡ Some b → b.node ≡ 0
  pub in_parents : (at : ℕ) (b : BoxNode) → slice_get boxes at ≡ Some b → IsTrue (is_in_parent boxes at b.parent)
  pub in_order : IsInOrder (map (λ (b : BoxNode). b.parent) boxes)
  pub each : (at : ℕ) (b : BoxNode) → slice_get boxes at ≡ Some b → IsBoxAt boxes (length styles) styles at b
  pub fonts_there : (node : ℕ) (s : Style) → slice_get styles node ≡ Some s → s.font < length fonts
  pub nodes_there : (node : ℕ) (s : Style) → slice_get styles node ≡ Some s
      → IsTrue (list_all (λ n. nat_lt n (length styles)) (named_nodes s))
  pub one_parent_each : length parents ≡ length styles
  pub parents_before : (node : ℕ) (p : ℕ) → slice_get parents node ≡ Some (Some p) → p < node
  -- where a node has a box, its parent and the nodes that its style names have one too
  pub parents_boxed : (node p : ℕ) → IsTrue (has_box boxes node) → slice_get parents node ≡ Some (Some p)
      → IsTrue (has_box boxes p)
  pub names_boxed : (node : ℕ) (s : Style) → IsTrue (has_box boxes node) → slice_get styles node ≡ Some s
      → IsTrue (list_all (has_box boxes) (named_nodes s))
  -- a text has its parent's style, but for the size, which is the same
  pub texts_alike : (at : ℕ) (b : BoxNode) (p : ℕ) (s t : Style) → slice_get boxes at ≡ Some b
      → IsTrue (is_chars b.kind)
      → slice_get parents b.node ≡ Some (Some p) → slice_get styles b.node ≡ Some s → slice_get styles p ≡ Some t
      → AreAlikeButSize s t
  pub texts_same_size : (at : ℕ) (b : BoxNode) (s : Style) → slice_get boxes at ≡ Some b → IsTrue (is_chars b.kind)
      → slice_get styles b.node ≡ Some s → IsTrue (is_same_size s.size)
  -- the parent of a text, and the node that an anonymous box stands in, have the box of an element
  pub texts_in_elements : (at : ℕ) (b : BoxNode) → slice_get boxes at ≡ Some b → b.kind ≡ of_kind.Chars
      → IsTrue (is_element_box boxes (slice_get parents b.node))
  pub anonymous_in_elements : (at : ℕ) (b : BoxNode) → slice_get boxes at ≡ Some b → b.kind ≡ of_kind.Anon
      → IsTrue (has_element boxes b.node)
