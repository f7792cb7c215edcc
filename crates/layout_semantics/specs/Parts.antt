-- The box of each node that makes one, before anonymous block boxes are put around some and each box has its place
-- (CSS 2.1, 9.2).
use Rattle.std.specs.Prelude.{ℕ, Bool, true, false, not, ◌||◌, ◌==◌, List, slice_get, Option, Some, None, option_map, find, filter_map, chars, if◌then◌else◌}
use Rattle.std.specs.List.{enumerate_from}
use Rattle.std.specs.Option.{option_map_or}
use Rattle.viz_base.specs.Pages.{text_of, is_break, is_replaced}
use Rattle.viz_base.specs.Trees.{is_inline}
use Rattle.viz_base.specs.declared.nodes.Body.{Body}
use Rattle.viz_base.specs.declared.nodes.Body.TheVariants as of_body
use Rattle.viz_base.specs.declared.nodes.Node.{Node}
use Rattle.viz_base.specs.declared.styles.Display.{Display}
use Rattle.viz_base.specs.declared.styles.Display.TheVariants as of_display
use Rattle.viz_base.specs.declared.styles.Style.{Style}
use Rattle.viz_base.specs.declared.trees.Kind.{Kind}
use Rattle.viz_base.specs.declared.trees.Kind.TheVariants as of_kind
use Rattle.layout_semantics.specs.Elements.{intrinsic_size, ancestors, is_shown}

-- how a box takes part in layout: block-level in normal flow, floated, or inline-level (CSS 2.1, 9.2 and 9.5)
pub data Level : Type 0 where
  block : Level
  floated : Level
  inline : Level

-- the box of a node
pub record Part : Type 0 where
  pub node : ℕ
  -- the element that it is in
  pub parent : Option ℕ
  -- the nearest element around it that has a box other than an inline one: its block container (CSS 2.1, 9.2.1)
  pub container : Option ℕ
  pub kind : Kind
  pub level : Level
  -- the characters of a text
  pub text : List ℕ
  -- the intrinsic sizes of a replaced element
  pub size : Option (ℕ × ℕ)
  -- whether it starts a block formatting context
  pub context : Bool

-- ---- kinds

abbrev pub display_level : Display → Level
display_level of_display.Block = Level.block
display_level _ = Level.inline

-- a float is block-level whatever its display (CSS 2.1, 9.7)
abbrev pub style_level : Style → Level
style_level s = option_map_or (λ side. Level.floated) s.float (display_level s.display)

-- The root is a block in normal flow, whatever its style (CSS 2.1, 9.7). A text is inline, and so is a `br`, whatever
-- its style, in our own reading.
abbrev pub level_of : (is_root : Bool) → Body → Style → Level
level_of true body s = Level.block
level_of false (of_body.Chars text) s = Level.inline
level_of false (of_body.Element element) s = if is_break (of_body.Element element) then Level.inline else style_level s

-- inline-level boxes (CSS 2.1, 9.2.2 and 9.2.4)
abbrev pub inline_kind : Body → Display → Kind
inline_kind (of_body.Chars text) display = of_kind.Chars
inline_kind (of_body.Element element) of_display.InlineBlock = if is_break (of_body.Element element)
    then of_kind.Break else of_kind.Atomic
inline_kind (of_body.Element element) _ = if is_break (of_body.Element element) then of_kind.Break else of_kind.Inline

abbrev pub level_kind : Level → Body → Display → Kind
level_kind Level.block body display = of_kind.Block
level_kind Level.floated body display = of_kind.Float
level_kind Level.inline body display = inline_kind body display

abbrev pub kind_of_node : (is_root : Bool) → Body → Style → Kind
kind_of_node is_root body s =
    if is_replaced body then of_kind.Replaced else level_kind (level_of is_root body s) body s.display

-- ---- block formatting contexts (CSS 2.1, 9.4.1)

abbrev pub is_inline_block : Display → Bool
is_inline_block of_display.InlineBlock = true
is_inline_block _ = false

abbrev pub inline_context : Kind → Display → Bool
inline_context of_kind.Atomic display = true
inline_context of_kind.Replaced display = is_inline_block display
inline_context _ display = false

-- the root, floats, inline-blocks, and blocks with overflow other than visible
abbrev pub is_context : (is_root : Bool) → Level → Kind → Style → Bool
is_context is_root Level.block kind s = is_root || s.clips
is_context is_root Level.floated kind s = true
is_context is_root Level.inline kind s = inline_context kind s.display

-- ---- parts

abbrev pub kind_at : List Node → List Style → ℕ → Option Kind
kind_at nodes styles at = by_node (slice_get nodes at) (slice_get styles at)
  where
    by_node : Option Node → Option Style → Option Kind
    by_node (Some n) (Some s) = Some (kind_of_node (at == 0) n.body s)
    by_node _ _ = None

abbrev pub is_inline_at : List Node → List Style → ℕ → Bool
is_inline_at nodes styles at = option_map_or is_inline (kind_at nodes styles at) false

abbrev pub container_of : List Node → List Style → ℕ → Option ℕ
container_of nodes styles at = find (λ above. not (is_inline_at nodes styles above)) (ancestors nodes at)

abbrev pub part_of : List Node → List Style → ℕ → Node → Style → Part
part_of nodes styles at n s = record {
  node = at;
  parent = n.parent;
  container = container_of nodes styles at;
  kind = kind_of_node (at == 0) n.body s;
  level = level_of (at == 0) n.body s;
  text = chars (text_of n.body);
  size = if is_replaced n.body then Some (intrinsic_size n.body) else None;
  context = is_context (at == 0) (level_of (at == 0) n.body s) (kind_of_node (at == 0) n.body s) s;
}

-- the part of a node that makes a box
abbrev pub shown_part : List Node → List Style → ℕ × Node → Option Part
shown_part nodes styles entry =
    if is_shown nodes styles entry.0 then option_map (part_of nodes styles entry.0 entry.1) (slice_get styles entry.0)
    else None

-- the parts of a page, in document order; the texts of them are those of the page
abbrev pub shown_parts : List Node → List Style → List Part
shown_parts nodes styles = filter_map (shown_part nodes styles) (enumerate_from 0 nodes)
