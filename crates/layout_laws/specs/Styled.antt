-- Styles that fit a page and its fonts.
use Rattle.std.specs.Prelude.{◌≡◌, ℕ, ◌<◌, ◌==◌, Bool, false, ◌||◌, List, length, slice_get, Some, IsTrue}
use Rattle.std.specs.List.{list_all, list_any}
use Rattle.viz_base.specs.Pages.{is_element}
use Rattle.viz_base.specs.Trees.{named_nodes, is_same_size, AreAlikeButSize}
use Rattle.viz_base.specs.declared.fonts.Font.{Font}
use Rattle.viz_base.specs.declared.nodes.Node.{Node}
use Rattle.viz_base.specs.declared.styles.Style.{Style}
use Rattle.layout_semantics.specs.Elements.{ancestors}

-- a node, or an element that it is in
abbrev pub is_at_or_above : List Node → ℕ → ℕ → Bool
is_at_or_above nodes at above = above == at || list_any (λ a. a == above) (ancestors nodes at)

-- the styles that a cascade gives the nodes of a page
pub record AreStylesOf (nodes : List Node) (styles : List Style) (fonts : List Font) : Type 0 where
  pub one_each : length styles ≡ length nodes
  pub fonts_there : (at : ℕ) (s : Style) → slice_get styles at ≡ Some s → s.font < length fonts
  -- lengths in em and line heights are of the font size of the node or of an element that it is in
  pub names_above : (at : ℕ) (s : Style) → slice_get styles at ≡ Some s
      → IsTrue (list_all (is_at_or_above nodes at) (named_nodes s))
  -- a text has the style of the element that it is in, and its font size
  pub texts_alike : (at parent : ℕ) (n : Node) (s t : Style) → slice_get nodes at ≡ Some n → is_element n.body ≡ false
      → n.parent ≡ Some parent
      → slice_get styles at ≡ Some s → slice_get styles parent ≡ Some t → AreAlikeButSize s t
  pub texts_same_size : (at : ℕ) (n : Node) (s : Style) → slice_get nodes at ≡ Some n → is_element n.body ≡ false
      → slice_get styles at ≡ Some s → IsTrue (is_same_size s.size)
