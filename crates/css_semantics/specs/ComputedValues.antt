-- Computed values (CSS 2.1, 6.1 and 6.2): the style of each node, by what wins there and by its parent's style.
use Rattle.std.specs.Prelude.{◌≡◌, ℕ, pos, Bool, true, false, List, [], ◌∷◌, length, slice_get, slice_index_or, Option, Some, None, option_map, option_and_then, unwrap_or, if◌then◌else◌}
use Rattle.std.specs.List.{find, position}
use Rattle.std.specs.Option.{option_map_or}
use Rattle.viz_base.specs.Pages.{is_element}
use Rattle.viz_base.specs.Trees.{AreAlikeButSize}
use Rattle.viz_base.specs.declared.fonts.Font.{Font}
use Rattle.viz_base.specs.declared.lengths.Length.{Length}
use Rattle.viz_base.specs.declared.lengths.Length.TheVariants as of_length
use Rattle.viz_base.specs.declared.lengths.LineHeight.{LineHeight}
use Rattle.viz_base.specs.declared.lengths.LineHeight.TheVariants as of_line
use Rattle.viz_base.specs.declared.lengths.Sides.{Sides}
use Rattle.viz_base.specs.declared.lengths.Size.{Size}
use Rattle.viz_base.specs.declared.lengths.Size.TheVariants as of_size
use Rattle.viz_base.specs.declared.lengths.Valign.{Valign}
use Rattle.viz_base.specs.declared.lengths.Valign.TheVariants as of_valign
use Rattle.viz_base.specs.declared.nodes.Node.{Node}
use Rattle.viz_base.specs.declared.settings.Prop.{Prop}
use Rattle.viz_base.specs.declared.settings.Prop.TheVariants.{Display, Float, Clear, Overflow, Width, Height, MinWidth, MinHeight, MaxWidth, MaxHeight, MarginTop, MarginRight, MarginBottom, MarginLeft, PaddingTop, PaddingRight, PaddingBottom, PaddingLeft, BorderTopWidth, BorderRightWidth, BorderBottomWidth, BorderLeftWidth, BorderTopStyle, BorderRightStyle, BorderBottomStyle, BorderLeftStyle, FontSize, FontFamily, LineHeight as LineHeightProp, VerticalAlign, TextAlign, WhiteSpace}
use Rattle.viz_base.specs.declared.settings.Setting.{Setting}
use Rattle.viz_base.specs.declared.settings.Value.{Value}
use Rattle.viz_base.specs.declared.settings.Value.TheVariants.{Inherit, Word, Px, Em, Pct, Number, Names}
use Rattle.viz_base.specs.declared.styles.Align.{Align}
use Rattle.viz_base.specs.declared.styles.Align.TheVariants as of_align
use Rattle.viz_base.specs.declared.styles.Clear.{Clear as ClearValue}
use Rattle.viz_base.specs.declared.styles.Clear.TheVariants as of_clear
use Rattle.viz_base.specs.declared.styles.Display.{Display as DisplayValue}
use Rattle.viz_base.specs.declared.styles.Display.TheVariants as of_display
use Rattle.viz_base.specs.declared.styles.Side.{Side}
use Rattle.viz_base.specs.declared.styles.Side.TheVariants as of_side
use Rattle.viz_base.specs.declared.styles.Style.{Style}
use Rattle.viz_base.specs.Styles.{nothing}
use Rattle.css_semantics.specs.CascadeOrder.{is_prop}
use Rattle.css_semantics.specs.Names.{same_name}
use Rattle.css_semantics.specs.Properties.{row}

-- ---- specified values (CSS 2.1, 6.1.1)

-- what wins for a property
abbrev pub winner : Prop → List Setting → Option Value
winner p winners = option_map (λ (s : Setting). s.value) (find (λ (s : Setting). is_prop s.prop p) winners)

-- `inherit` is the parent's computed value (CSS 2.1, 6.2.1): none of the node's own
abbrev pub unless_inherit : Value → Option Value
unless_inherit Inherit = None
unless_inherit v = Some v

-- where nothing wins, a property that inherits has its parent's value, and any other its initial one
abbrev pub unset : Prop → Option Value
unset p = if (row p).inherits then None else Some (row p).initial

-- the specified value, or none where it is the parent's computed value
abbrev pub specified : Prop → List Setting → Option Value
specified p winners = option_map_or unless_inherit (winner p winners) (unset p)

-- ---- computed values (CSS 2.1, 6.1.2 and 6.2.1)

-- what a value says, or what the parent has; where there is no parent, what the initial value says
abbrev pub resolved : {A : Type 0} → (Value → A) → Option A → Value → Option Value → A
resolved says parents initial None = unwrap_or parents (says initial)
resolved says parents initial (Some v) = says v

-- the computed value of a property whose values say this, where it is such a part of what is known of the parent
abbrev pub computed : {P A : Type 0} → Prop → (Value → A) → (P → A) → Option P → List Setting → A
computed p says part parent winners = resolved says (option_map part parent) (row p).initial (specified p winners)

-- ---- what values say

-- a keyword, by its place among those of its property
abbrev pub by_word : {A : Type 0} → List A → A → Value → A
by_word words initial (Word n) = slice_index_or words n initial
by_word words initial _ = initial

abbrev pub displays : List DisplayValue
displays = of_display.Hidden ∷ of_display.Block ∷ of_display.Inline ∷ of_display.InlineBlock ∷ of_display.Block ∷ []

abbrev pub floats : List (Option Side)
floats = None ∷ Some of_side.Left ∷ Some of_side.Right ∷ []

abbrev pub clears : List ClearValue
clears = of_clear.Nothing ∷ of_clear.Left ∷ of_clear.Right ∷ of_clear.Both ∷ []

-- whether `visible`, `hidden`, `scroll` and `auto` clip
abbrev pub clippings : List Bool
clippings = false ∷ true ∷ true ∷ true ∷ []

-- `justify` is as `left`: our own reading
abbrev pub aligns : List Align
aligns = of_align.Left ∷ of_align.Right ∷ of_align.Center ∷ of_align.Left ∷ []

-- whether lines break at spaces under `normal` and `nowrap`
abbrev pub wrappings : List Bool
wrappings = true ∷ false ∷ []

-- whether a border of each style has a width: of all but `none` and `hidden` (CSS 2.1, 8.5.3)
abbrev pub drawings : List Bool
drawings = false ∷ false ∷ true ∷ true ∷ true ∷ true ∷ true ∷ true ∷ true ∷ true ∷ []

-- Lengths in em name the node on which they are set (CSS 2.1, 4.3.2). Keywords here are `auto`.
abbrev pub length_of : ℕ → Value → Length
length_of node (Word n) = of_length.Auto
length_of node (Px n) = of_length.Px n
length_of node (Em k) = of_length.Em k node
length_of node (Pct p) = of_length.Pct p
length_of node _ = nothing

-- a maximum; its keyword is `none`
abbrev pub maximum_of : ℕ → Value → Option Length
maximum_of node (Word n) = None
maximum_of node v = Some (length_of node v)

-- `thin`, `medium` and `thick` are 1, 3 and 5 px: our own reading of CSS 2.1, 8.5.1
abbrev pub widths : List Length
widths = of_length.Px (pos 64) ∷ of_length.Px (pos 192) ∷ of_length.Px (pos 320) ∷ []

abbrev pub width_of : ℕ → Value → Length
width_of node (Word n) = slice_index_or widths n nothing
width_of node v = length_of node v

-- a border has no width where its style has none (CSS 2.1, 8.5.3)
abbrev pub if_drawn : Bool → Length → Length
if_drawn drawn width = if drawn then width else nothing

-- The keywords from `xx-small` to `xx-large` are fractions of the default font size, and `larger` and `smaller` of the
-- parent's: our own reading of CSS 2.1, 15.7.
abbrev pub sizes : List Size
sizes =
    of_size.Default (pos 3) 5 ∷ of_size.Default (pos 3) 4 ∷ of_size.Default (pos 8) 9 ∷ of_size.Default (pos 1) 1
    ∷ of_size.Default (pos 6) 5 ∷ of_size.Default (pos 3) 2 ∷ of_size.Default (pos 2) 1
    ∷ of_size.Parent (pos 6) 5 ∷ of_size.Parent (pos 5) 6 ∷ []

-- an em and a percentage of a font size are of the parent's (CSS 2.1, 15.7)
abbrev pub size_of : Value → Size
size_of (Word n) = slice_index_or sizes n of_size.Same
size_of (Px n) = of_size.Px n
size_of (Em k) = of_size.Parent k 1000000
size_of (Pct p) = of_size.Parent p 100000000
size_of _ = of_size.Same

-- A number is of the font size of each node that has it, also of one that inherits it; an em and a percentage are of
-- the font size of the node on which they are set (CSS 2.1, 10.8.1). `normal` is 6/5: our own reading.
abbrev pub line_of : ℕ → Value → LineHeight
line_of node (Px n) = of_line.Px n
line_of node (Em k) = of_line.OfNode node k 1000000
line_of node (Pct p) = of_line.OfNode node p 100000000
line_of node (Number n) = of_line.Own n 1000000
line_of node _ = of_line.Own (pos 6) 5

abbrev pub raises : List Valign
raises = of_valign.Baseline ∷ of_valign.Sub ∷ of_valign.Super ∷ of_valign.Middle ∷ []

-- a percentage stays one, also where it is inherited: of the box's own line height (CSS 2.1, 10.8.1)
abbrev pub valign_of : ℕ → Value → Valign
valign_of node (Word n) = slice_index_or raises n of_valign.Baseline
valign_of node v = of_valign.Raise (length_of node v)

-- the place of the first font of this name
abbrev pub font_named : List Font → List ℕ → Option ℕ
font_named fonts name = position (λ (f : Font). same_name name f.name) fonts

-- the font of the first of these names that a font has, or the first font (CSS 2.1, 15.3)
abbrev pub first_named : List Font → List (List ℕ) → ℕ
first_named fonts [] = 0
first_named fonts (name ∷ names) = unwrap_or (font_named fonts name) (first_named fonts names)

abbrev pub font_of : List Font → Value → ℕ
font_of fonts (Names names) = first_named fonts names
font_of fonts _ = 0

-- ---- the style of a node

-- whether the style of each border of a node has a width, beside those of its parent
pub record AreDrawn (winners : List Setting) (parent : Option (Sides Bool)) (drawn : Sides Bool) : Type 0 where
  pub top : drawn.top ≡ computed BorderTopStyle (by_word drawings false) (λ (d : Sides Bool). d.top) parent winners
  pub right : drawn.right ≡ computed BorderRightStyle (by_word drawings false)
      (λ (d : Sides Bool). d.right) parent winners
  pub bottom : drawn.bottom ≡ computed BorderBottomStyle (by_word drawings false)
      (λ (d : Sides Bool). d.bottom) parent winners
  pub left : drawn.left ≡ computed BorderLeftStyle (by_word drawings false) (λ (d : Sides Bool). d.left) parent winners

-- the lengths that an element's style has of its own
pub record OwnLengths : Type 0 where
  pub width : Length
  pub min_width : Length
  pub max_width : Option Length
  pub height : Length
  pub min_height : Length
  pub max_height : Option Length
  pub margin : Sides Length
  pub padding : Sides Length
  pub border : Sides Length

abbrev pub own_lengths : Style → OwnLengths
own_lengths s = record {
  width = s.width;
  min_width = s.min_width;
  max_width = s.max_width;
  height = s.height;
  min_height = s.min_height;
  max_height = s.max_height;
  margin = s.margin;
  padding = s.padding;
  border = s.border;
}

-- The table of computed values, in two parts. First the lengths of the box of an element, by what wins there, by which
-- of its borders are drawn, and by its parent's style (CSS 2.1, 8.3 to 8.5 and 10.2 to 10.7).
pub record AreLengths (node : ℕ) (winners : List Setting) (drawn : Sides Bool) (parent : Option Style)
    (own : OwnLengths) : Type 0 where
  pub width_is : own.width ≡ computed Width (length_of node) (λ (t : Style). t.width) parent winners
  pub min_width_is : own.min_width ≡ computed MinWidth (length_of node) (λ (t : Style). t.min_width) parent winners
  pub max_width_is : own.max_width ≡ computed MaxWidth (maximum_of node) (λ (t : Style). t.max_width) parent winners
  pub height_is : own.height ≡ computed Height (length_of node) (λ (t : Style). t.height) parent winners
  pub min_height_is : own.min_height ≡ computed MinHeight (length_of node) (λ (t : Style). t.min_height) parent winners
  pub max_height_is : own.max_height ≡ computed MaxHeight (maximum_of node) (λ (t : Style). t.max_height) parent winners
  pub margin_top : own.margin.top ≡ computed MarginTop (length_of node) (λ (t : Style). t.margin.top) parent winners
  pub margin_right : own.margin.right ≡ computed MarginRight (length_of node)
      (λ (t : Style). t.margin.right) parent winners
  pub margin_bottom : own.margin.bottom ≡ computed MarginBottom (length_of node)
      (λ (t : Style). t.margin.bottom) parent winners
  pub margin_left : own.margin.left ≡ computed MarginLeft (length_of node) (λ (t : Style). t.margin.left) parent winners
  pub padding_top : own.padding.top ≡ computed PaddingTop (length_of node) (λ (t : Style). t.padding.top) parent winners
  pub padding_right : own.padding.right ≡ computed PaddingRight (length_of node)
      (λ (t : Style). t.padding.right) parent winners
  pub padding_bottom : own.padding.bottom ≡ computed PaddingBottom (length_of node)
      (λ (t : Style). t.padding.bottom) parent winners
  pub padding_left : own.padding.left ≡ computed PaddingLeft (length_of node)
      (λ (t : Style). t.padding.left) parent winners
  pub border_top : own.border.top ≡ if_drawn drawn.top (computed BorderTopWidth (width_of node)
      (λ (t : Style). t.border.top) parent winners)
  pub border_right : own.border.right ≡ if_drawn drawn.right (computed BorderRightWidth (width_of node)
      (λ (t : Style). t.border.right) parent winners)
  pub border_bottom : own.border.bottom ≡ if_drawn drawn.bottom (computed BorderBottomWidth (width_of node)
      (λ (t : Style). t.border.bottom) parent winners)
  pub border_left : own.border.left ≡ if_drawn drawn.left (computed BorderLeftWidth (width_of node)
      (λ (t : Style). t.border.left) parent winners)

-- and then all else
pub record IsComputed (fonts : List Font) (node : ℕ) (winners : List Setting) (drawn : Sides Bool)
    (parent : Option Style) (s : Style) : Type 0 where
  pub lengths : AreLengths node winners drawn parent (own_lengths s)
  pub display : s.display ≡ computed Display (by_word displays of_display.Inline)
      (λ (t : Style). t.display) parent winners
  pub float : s.float ≡ computed Float (by_word floats None) (λ (t : Style). t.float) parent winners
  pub clear : s.clear ≡ computed Clear (by_word clears of_clear.Nothing) (λ (t : Style). t.clear) parent winners
  pub clips : s.clips ≡ computed Overflow (by_word clippings false) (λ (t : Style). t.clips) parent winners
  -- an inherited font size is the parent's
  pub size : s.size ≡ computed FontSize size_of (λ (t : Style). of_size.Same) parent winners
  pub font : s.font ≡ computed FontFamily (font_of fonts) (λ (t : Style). t.font) parent winners
  pub line : s.line ≡ computed LineHeightProp (line_of node) (λ (t : Style). t.line) parent winners
  pub valign : s.valign ≡ computed VerticalAlign (valign_of node) (λ (t : Style). t.valign) parent winners
  pub align : s.align ≡ computed TextAlign (by_word aligns of_align.Left) (λ (t : Style). t.align) parent winners
  pub wraps : s.wraps ≡ computed WhiteSpace (by_word wrappings true) (λ (t : Style). t.wraps) parent winners

-- that of a text: its parent's, with the parent's font size
pub record IsOfText (parent s : Style) : Type 0 where
  pub alike : AreAlikeButSize s parent
  pub size : s.size ≡ of_size.Same

-- what a list has for the parent of a node
abbrev pub of_parent : {A : Type 0} → List A → Node → Option A
of_parent xs n = option_and_then (slice_get xs) n.parent

-- The style of each node of a page. There is one list of which borders are drawn.
pub record AreComputed (nodes : List Node) (winners : List (List Setting))
    (fonts : List Font) (styles : List Style) : Type 0 where
  pub drawn : List (Sides Bool)
  pub one_style_each : length styles ≡ length nodes
  pub one_drawn_each : length drawn ≡ length nodes
  pub borders : (at : ℕ) (n : Node) (ws : List Setting) (d : Sides Bool)
      → slice_get nodes at ≡ Some n → slice_get winners at ≡ Some ws
      → slice_get drawn at ≡ Some d → AreDrawn ws (of_parent drawn n) d
  pub elements : (at : ℕ) (n : Node) (ws : List Setting) (d : Sides Bool) (s : Style)
      → slice_get nodes at ≡ Some n → is_element n.body ≡ true
      → slice_get winners at ≡ Some ws → slice_get drawn at ≡ Some d → slice_get styles at ≡ Some s
      → IsComputed fonts at ws d (of_parent styles n) s
  pub texts : (at : ℕ) (n : Node) (t s : Style)
      → slice_get nodes at ≡ Some n → is_element n.body ≡ false → of_parent styles n ≡ Some t
      → slice_get styles at ≡ Some s → IsOfText t s
