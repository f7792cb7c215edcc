-- What a box is to its formatting context (CSS 2.1, 9.2, 9.4.1, 9.5).
use Rattle.std.specs.Prelude.{◌≡◌, ℕ, ◌<◌, Bool, true, false, List, Some, slice_get}
use Rattle.viz_base.specs.Pages.{is_element, is_break}
use Rattle.viz_base.specs.Trees.{is_anon, is_floated, is_fragmented, is_inline_level}
use Rattle.viz_base.specs.declared.nodes.Node.{Node}
use Rattle.viz_base.specs.declared.styles.Style.{Style}
use Rattle.viz_base.specs.declared.trees.BoxNode.{BoxNode}
use Rattle.viz_base.specs.declared.trees.Kind.{Kind}
use Rattle.layout_semantics.specs.BoxTrees.{page_boxes}

-- a box of a page other than an anonymous one, with its node and the node's computed style
pub record IsOwnBox (nodes : List Node) (styles : List Style) (b : BoxNode) (n : Node) (s : Style) : Type 0 where
  pub at : ℕ
  pub box : slice_get (page_boxes nodes styles) at ≡ Some b
  pub own : is_anon b.kind ≡ false
  pub node : slice_get nodes b.node ≡ Some n
  pub style : slice_get styles b.node ≡ Some s

-- that of an element other than the root and `br`
pub record IsElementBox (nodes : List Node) (styles : List Style) (b : BoxNode) (n : Node) (s : Style) : Type 0 where
  pub box : IsOwnBox nodes styles b n s
  pub inside : 0 < b.node
  pub element : is_element n.body ≡ true
  pub no_break : is_break n.body ≡ false

-- a float
pub record IsFloat (styles : List Style) (b : BoxNode) : Type 0 where
  pub floats : is_floated styles b ≡ true
  pub block_level : b.block_level ≡ true
  pub context : b.context ≡ true

-- a block-level box in normal flow, which starts a block formatting context or does not
pub record IsBlock (styles : List Style) (b : BoxNode) (starts_context : Bool) : Type 0 where
  pub floats : is_floated styles b ≡ false
  pub block_level : b.block_level ≡ true
  pub inline_level : is_inline_level b ≡ false
  pub context : b.context ≡ starts_context

-- an atomic inline-level box: it stands on a line in one piece
pub record IsAtomic (styles : List Style) (b : BoxNode) (starts_context : Bool) : Type 0 where
  pub floats : is_floated styles b ≡ false
  pub block_level : b.block_level ≡ false
  pub inline_level : is_inline_level b ≡ true
  pub fragmented : is_fragmented b.kind ≡ false
  pub context : b.context ≡ starts_context

-- what lines cut into pieces: an inline box, a text or a forced break
pub record IsInPieces (styles : List Style) (b : BoxNode) (kind : Kind) : Type 0 where
  pub is : b.kind ≡ kind
  pub floats : is_floated styles b ≡ false
  pub block_level : b.block_level ≡ false
  pub context : b.context ≡ false
