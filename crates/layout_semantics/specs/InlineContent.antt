-- Inline content as a list (CSS 2.1, 9.2.2, 9.4.2).
use Rattle.std.specs.Ordering.{int_eq}
use Rattle.std.specs.Prelude.{ℕ, pos, zero, suc, ◌==◌, Bool, true, false, ◌&&◌, not, List, [], ◌∷◌, ◌++◌, length, slice_get}
use Rattle.std.specs.List.{flat_map, list_any, list_all}
use Rattle.std.specs.Option.{option_map_or}
use Rattle.std.specs.Str.{chars}
use Rattle.viz_base.specs.Trees.{is_floated, is_inline_level, box_passes}
use Rattle.viz_base.specs.declared.lengths.Length.{Length}
use Rattle.viz_base.specs.declared.lengths.Length.TheVariants as of_length
use Rattle.viz_base.specs.declared.trees.BoxNode.{BoxNode}
use Rattle.viz_base.specs.declared.trees.BoxTree.{BoxTree}
use Rattle.viz_base.specs.declared.trees.Kind.{Kind}
use Rattle.viz_base.specs.declared.trees.Kind.TheVariants as of_kind
use Rattle.layout_semantics.specs.Order.{kids_of}
use Rattle.layout_semantics.specs.Blocks.{kind_of}
use Rattle.layout_semantics.specs.Lengths.{margins, borders, paddings}

-- ---- sorts of boxes

-- a float (CSS 2.1, 9.5)
unfoldable pub is_floated_at : BoxTree → ℕ → Bool
is_floated_at tree at = box_passes (is_floated tree.styles) tree.boxes at

unfoldable pub is_inline_level_at : BoxTree → ℕ → Bool
is_inline_level_at tree at = box_passes is_inline_level tree.boxes at && not (is_floated_at tree at)

-- a block container holds inline content, or else blocks (CSS 2.1, 9.2.1)
unfoldable pub holds_inline : BoxTree → ℕ → Bool
holds_inline tree at = list_any (is_inline_level_at tree) (kids_of tree.boxes at)

-- ---- items

-- an item of inline content, with the place of its box in the tree
pub data Item : Type 0 where
  -- the start and the end of an inline box
  start : ℕ → Item
  finish : ℕ → Item
  -- a word of a text, and a space
  word : ℕ → List ℕ → Item
  space : ℕ → Item
  -- an atomic inline-level box (CSS 2.1, 9.2.2)
  atomic : ℕ → Item
  -- a forced line break
  forced : ℕ → Item
  float : ℕ → Item

abbrev pub box_of : Item → ℕ
box_of (start at) = at
box_of (finish at) = at
box_of (word at text) = at
box_of (space at) = at
box_of (atomic at) = at
box_of (forced at) = at
box_of (float at) = at

-- a letter before the items of the rest of its text
abbrev pub letter_before : ℕ → ℕ → List Item → List Item
letter_before at c (word other text ∷ items) = word other (c ∷ text) ∷ items
letter_before at c items = word at (c ∷ []) ∷ items

abbrev pub character_before : Bool → ℕ → ℕ → List Item → List Item
character_before true at c items = space at ∷ items
character_before false at c items = letter_before at c items

-- the words and spaces of a text; a word ends at the end of its text (our own reading)
abbrev pub text_items : ℕ → List ℕ → List Item
text_items at [] = []
text_items at (c ∷ cs) = character_before (c == 32) at c (text_items at cs)

-- what a box is in inline content
pub data Sort : Type 0 where
  a_float : Sort
  an_atomic : Sort
  a_break : Sort
  a_text : Sort
  an_inline : Sort

abbrev pub sort_of : BoxTree → ℕ → Sort
sort_of tree at = by_float (is_floated_at tree at) (kind_of tree at)
  where
    by_float : Bool → Kind → Sort
    by_float true kind = a_float
    by_float false of_kind.Chars = a_text
    by_float false of_kind.Break = a_break
    by_float false of_kind.Inline = an_inline
    by_float false _ = an_atomic

abbrev pub text_of : BoxTree → ℕ → List ℕ
text_of tree at = option_map_or (λ (b : BoxNode). chars b.chars) (slice_get tree.boxes at) []

-- the items of a box, down to so many levels
unfoldable pub items_to : ℕ → BoxTree → ℕ → List Item
items_to zero tree at = []
items_to (suc levels) tree at =
    elim (sort_of tree at) [
      | a_float ↦ float at ∷ []
      | an_atomic ↦ atomic at ∷ []
      | a_break ↦ forced at ∷ []
      | a_text ↦ text_items at (text_of tree at)
      | an_inline ↦ start at
          ∷ (flat_map (items_to levels tree) (kids_of tree.boxes at) ++ finish at ∷ [])
    ]

-- the inline content of a box, in document order; a page has no more levels than boxes
abbrev pub content : BoxTree → ℕ → List Item
content tree at = flat_map (items_to (length tree.boxes) tree) (kids_of tree.boxes at)

-- ---- what stands in inline content

abbrev pub float_boxes : List Item → List ℕ
float_boxes items = flat_map of_item items
  where
    of_item : Item → List ℕ
    of_item (float at) = at ∷ []
    of_item _ = []

-- the floats and atomic boxes, in order
abbrev pub inner_items : List Item → List ℕ
inner_items items = flat_map of_item items
  where
    of_item : Item → List ℕ
    of_item (float at) = at ∷ []
    of_item (atomic at) = at ∷ []
    of_item _ = []

abbrev pub inner_boxes : BoxTree → ℕ → List ℕ
inner_boxes tree at = inner_items (content tree at)

-- ---- lines that exist (CSS 2.1, 9.4.2)

-- a computed value of zero; an automatic margin counts as one
abbrev pub is_zero : Length → Bool
is_zero of_length.Auto = true
is_zero (of_length.Px c) = int_eq c (pos 0)
is_zero (of_length.Em k node) = int_eq k (pos 0)
is_zero (of_length.Pct p) = int_eq p (pos 0)

abbrev pub all_zero : List Length → Bool
all_zero lengths = list_all is_zero lengths

-- whether an inline box has horizontal margins, borders or padding at its start, or at its end, or vertical ones
abbrev pub start_edges : BoxTree → ℕ → List Length
start_edges tree at = (margins tree at).left ∷ (borders tree at).left ∷ (paddings tree at).left ∷ []

abbrev pub end_edges : BoxTree → ℕ → List Length
end_edges tree at = (margins tree at).right ∷ (borders tree at).right ∷ (paddings tree at).right ∷ []

abbrev pub vertical_edges : BoxTree → ℕ → List Length
vertical_edges tree at = (margins tree at).top ∷ (borders tree at).top ∷ (paddings tree at).top
    ∷ (margins tree at).bottom ∷ (borders tree at).bottom ∷ (paddings tree at).bottom ∷ []

-- what a line exists by: text, an atomic box, a forced break, or edges of an
-- inline box that aren't zero; a space stays only beside these
abbrev pub makes_line : BoxTree → Item → Bool
makes_line tree (word at text) = true
makes_line tree (atomic at) = true
makes_line tree (forced at) = true
makes_line tree (start at) = not (all_zero (start_edges tree at ++ vertical_edges tree at))
makes_line tree (finish at) = not (all_zero (end_edges tree at ++ vertical_edges tree at))
makes_line tree (space at) = false
makes_line tree (float at) = false

-- a box has a line that exists
unfoldable pub has_line : BoxTree → ℕ → Bool
has_line tree at = holds_inline tree at && list_any (makes_line tree) (content tree at)
