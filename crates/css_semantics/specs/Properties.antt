-- The table of the properties that have an effect on layout: what each
-- takes, its initial value, and whether it inherits.
use Rattle.std.specs.Prelude.{ℕ, pos, ◌==◌, Bool, true, false, List, [], ◌∷◌, Option, if◌then◌else◌, codes}
use Rattle.std.specs.List.{find}
use Prim.Native.String.{String}
use Rattle.viz_base.specs.declared.settings.Prop.{Prop}
use Rattle.viz_base.specs.declared.settings.Prop.TheVariants.{Display, Position, Float, Clear, Overflow, Direction, Width, Height, MinWidth, MinHeight, MaxWidth, MaxHeight, MarginTop, MarginRight, MarginBottom, MarginLeft, PaddingTop, PaddingRight, PaddingBottom, PaddingLeft, BorderTopWidth, BorderRightWidth, BorderBottomWidth, BorderLeftWidth, BorderTopStyle, BorderRightStyle, BorderBottomStyle, BorderLeftStyle, FontSize, FontFamily, LineHeight, VerticalAlign, TextAlign, WhiteSpace, TextIndent, LetterSpacing, WordSpacing, TextTransform, ListStylePosition, Content}
use Rattle.viz_base.specs.declared.settings.Value.{Value}
use Rattle.viz_base.specs.declared.settings.Value.TheVariants.{Word, Px, Names}
use Rattle.css_semantics.specs.declared.parts.Takes.{Takes}
use Rattle.css_semantics.specs.declared.parts.Takes.TheVariants.{Nothing, All, NotNegative, ZeroAlone}
use Rattle.css_semantics.specs.Names.{same_name}
use Rattle.css_semantics.specs.Places.{at_none, at_inline, at_static, at_visible, at_ltr, at_auto, at_normal, at_baseline, at_left, at_outside, at_medium_width, at_medium_size}

-- ---- names

abbrev pub before_words : ℕ → List (List ℕ) → List (List ℕ)
before_words c [] = (c ∷ []) ∷ []
before_words c (w ∷ ws) = (c ∷ w) ∷ ws

-- the words of a text, between which single spaces stand
abbrev pub each_word : List ℕ → List (List ℕ)
each_word [] = [] ∷ []
each_word (c ∷ cs) = if c == 32 then [] ∷ each_word cs else before_words c (each_word cs)

-- ---- rows

pub record Row : Type 0 where
  pub name : List ℕ
  -- the keywords that are accepted, in the order in which their places are counted
  pub words : List (List ℕ)
  -- the keywords that are refused by name
  pub refused : List (List ℕ)
  -- which lengths, percentages and numbers without a unit it takes
  pub lengths : Takes
  pub percentages : Takes
  pub numbers : Takes
  -- whether the value is a list of names of font families
  pub families : Bool
  -- whether the value may be a text: strings, one after another
  pub strings : Bool
  pub initial : Value
  pub inherits : Bool

-- Each property also takes `inherit` (CSS 2.1, 6.2.1).

-- a property with keywords alone
abbrev pub keywords : String → List (List ℕ) → List (List ℕ) → ℕ → Bool → Row
keywords name words refused initial inherits =
    record {
      name = codes name;
      words = words;
      refused = refused;
      lengths = Nothing;
      percentages = Nothing;
      numbers = Nothing;
      families = false;
      strings = false;
      initial = Word initial;
      inherits = inherits;
    }

-- one with amounts, which doesn't inherit
abbrev pub measured : String → List (List ℕ) → Takes → Takes → Value → Row
measured name words lengths percentages initial =
    record {
      name = codes name;
      words = words;
      refused = [];
      lengths = lengths;
      percentages = percentages;
      numbers = Nothing;
      families = false;
      strings = false;
      initial = initial;
      inherits = false;
    }

abbrev pub line_styles : List (List ℕ)
line_styles = each_word (codes "none hidden dotted dashed solid double groove ridge inset outset")

abbrev pub line_widths : List (List ℕ)
line_widths = each_word (codes "thin medium thick")

abbrev pub size_words : List (List ℕ)
size_words = each_word (codes "xx-small x-small small medium large x-large xx-large larger smaller")

abbrev pub table_words : List (List ℕ)
table_words = each_word (codes "table inline-table table-row table-row-group table-header-group table-footer-group table-column table-column-group table-cell table-caption")

abbrev pub zero : Value
zero = Px (pos 0)

-- The rows of the properties of CSS 2.1, 8.3 to 8.5, 9.2.4, 9.3.1, 9.5, 9.10, 10.2 to 10.8, 11.1.1,
-- 12.2, 12.5, 15.3, 15.7 and 16.1 to 16.6. What is refused by name is this project's own choice.
abbrev pub row : Prop → Row
row Display = keywords "display" (each_word (codes "none block inline inline-block list-item")) table_words at_inline false
row Position = keywords "position" (each_word (codes "static")) (each_word (codes "relative absolute fixed")) at_static false
row Float = keywords "float" (each_word (codes "none left right")) [] at_none false
row Clear = keywords "clear" (each_word (codes "none left right both")) [] at_none false
row Overflow = keywords "overflow" (each_word (codes "visible hidden scroll auto")) [] at_visible false
row Direction = keywords "direction" (each_word (codes "ltr")) (each_word (codes "rtl")) at_ltr true
row Width = measured "width" (each_word (codes "auto")) NotNegative NotNegative (Word at_auto)
row Height = measured "height" (each_word (codes "auto")) NotNegative NotNegative (Word at_auto)
row MinWidth = measured "min-width" [] NotNegative NotNegative zero
row MinHeight = measured "min-height" [] NotNegative NotNegative zero
row MaxWidth = measured "max-width" (each_word (codes "none")) NotNegative NotNegative (Word at_none)
row MaxHeight = measured "max-height" (each_word (codes "none")) NotNegative NotNegative (Word at_none)
row MarginTop = measured "margin-top" (each_word (codes "auto")) All All zero
row MarginRight = measured "margin-right" (each_word (codes "auto")) All All zero
row MarginBottom = measured "margin-bottom" (each_word (codes "auto")) All All zero
row MarginLeft = measured "margin-left" (each_word (codes "auto")) All All zero
row PaddingTop = measured "padding-top" [] NotNegative NotNegative zero
row PaddingRight = measured "padding-right" [] NotNegative NotNegative zero
row PaddingBottom = measured "padding-bottom" [] NotNegative NotNegative zero
row PaddingLeft = measured "padding-left" [] NotNegative NotNegative zero
row BorderTopWidth = measured "border-top-width" line_widths NotNegative Nothing (Word at_medium_width)
row BorderRightWidth = measured "border-right-width" line_widths NotNegative Nothing (Word at_medium_width)
row BorderBottomWidth = measured "border-bottom-width" line_widths NotNegative Nothing (Word at_medium_width)
row BorderLeftWidth = measured "border-left-width" line_widths NotNegative Nothing (Word at_medium_width)
row BorderTopStyle = keywords "border-top-style" line_styles [] at_none false
row BorderRightStyle = keywords "border-right-style" line_styles [] at_none false
row BorderBottomStyle = keywords "border-bottom-style" line_styles [] at_none false
row BorderLeftStyle = keywords "border-left-style" line_styles [] at_none false
row FontSize = record (measured "font-size" size_words NotNegative NotNegative (Word at_medium_size)) { inherits = true }
-- the initial value names no family: the first font of the job follows
row FontFamily = record (measured "font-family" [] Nothing Nothing (Names [])) { families = true; inherits = true }
row LineHeight = record (measured "line-height" (each_word (codes "normal")) NotNegative NotNegative (Word at_normal))
    { numbers = NotNegative; inherits = true }
row VerticalAlign =
    record (measured "vertical-align" (each_word (codes "baseline sub super middle")) All All (Word at_baseline))
    { refused = each_word (codes "top bottom text-top text-bottom") }
row TextAlign = keywords "text-align" (each_word (codes "left right center justify")) [] at_left true
row WhiteSpace = keywords "white-space" (each_word (codes "normal nowrap"))
    (each_word (codes "pre pre-wrap pre-line")) at_normal true
row TextIndent = record (measured "text-indent" [] ZeroAlone ZeroAlone zero) { inherits = true }
row LetterSpacing =
    record (measured "letter-spacing" (each_word (codes "normal")) ZeroAlone Nothing (Word at_normal)) { inherits = true }
row WordSpacing =
    record (measured "word-spacing" (each_word (codes "normal")) ZeroAlone Nothing (Word at_normal)) { inherits = true }
row TextTransform =
    keywords "text-transform" (each_word (codes "none")) (each_word (codes "capitalize uppercase lowercase")) at_none true
row ListStylePosition = keywords "list-style-position" (each_word (codes "outside")) (each_word (codes "inside")) at_outside true
row Content =
    record (keywords "content" (each_word (codes "normal none"))
    (each_word (codes "open-quote close-quote no-open-quote no-close-quote")) at_normal false)
    { strings = true }

-- the properties in the order of the table
abbrev pub properties : List Prop
properties =
    Display ∷ Position ∷ Float ∷ Clear ∷ Overflow ∷ Direction
    ∷ Width ∷ Height ∷ MinWidth ∷ MinHeight ∷ MaxWidth ∷ MaxHeight
    ∷ MarginTop ∷ MarginRight ∷ MarginBottom ∷ MarginLeft
    ∷ PaddingTop ∷ PaddingRight ∷ PaddingBottom ∷ PaddingLeft
    ∷ BorderTopWidth ∷ BorderRightWidth ∷ BorderBottomWidth ∷ BorderLeftWidth
    ∷ BorderTopStyle ∷ BorderRightStyle ∷ BorderBottomStyle ∷ BorderLeftStyle
    ∷ FontSize ∷ FontFamily ∷ LineHeight ∷ VerticalAlign ∷ TextAlign ∷ WhiteSpace
    ∷ TextIndent ∷ LetterSpacing ∷ WordSpacing ∷ TextTransform ∷ ListStylePosition ∷ Content ∷ []

-- the property of this name
abbrev pub property_named : List ℕ → Option Prop
property_named name = find (λ p. same_name name (row p).name) properties
