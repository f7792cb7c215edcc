-- One more node has its style.
use Rattle.std.specs.Prelude.{◌≡◌, ℕ, Bool, true, false, List, [], ◌∷◌, ◌++◌, Some}
use Rattle.viz_base.specs.Pages.{is_element}
use Rattle.viz_base.specs.declared.fonts.Font.{Font}
use Rattle.viz_base.specs.declared.lengths.Sides.{Sides}
use Rattle.viz_base.specs.declared.nodes.Node.{Node}
use Rattle.viz_base.specs.declared.settings.Setting.{Setting}
use Rattle.viz_base.specs.declared.styles.Style.{Style}
use Rattle.css_semantics.specs.ComputedValues.{AreDrawn, IsComputed, IsOfText, OwnLengths, of_parent}
use Rattle.page_style.specs.declared.elements.Lengths.{Lengths}

-- behind the lists for the nodes before it stand which of its borders are drawn, and its style
pub record IsAdded (fonts : List Font) (at : ℕ) (n : Node) (ws : List Setting) (drawn drawn2 : List (Sides Bool))
    (styles styles2 : List Style) : Type 0 where
  pub borders : Sides Bool
  pub style : Style
  pub one_drawn : drawn2 ≡ drawn ++ borders ∷ []
  pub one_style : styles2 ≡ styles ++ style ∷ []
  pub are_drawn : AreDrawn ws (of_parent drawn n) borders
  pub element : is_element n.body ≡ true → IsComputed fonts at ws borders (of_parent styles n) style
  pub text : is_element n.body ≡ false → (t : Style) → of_parent styles n ≡ Some t → IsOfText t style

-- the lengths of a box as the table of computed values has them
abbrev pub own_of : Lengths → OwnLengths
own_of l = record {
  width = l.width;
  min_width = l.min_width;
  max_width = l.max_width;
  height = l.height;
  min_height = l.min_height;
  max_height = l.max_height;
  margin = l.margin;
  padding = l.padding;
  border = l.border;
}
