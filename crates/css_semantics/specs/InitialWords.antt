-- The keywords that are initial values (CSS 2.1, 6.1.1 and the properties' own sections), as they are written.
use Rattle.std.specs.Prelude.{◌≡◌, ℕ, List, Option, Some, None, slice_get, codes}
use Rattle.viz_base.specs.declared.settings.Prop.{Prop}
use Rattle.viz_base.specs.declared.settings.Prop.TheVariants.{Display, Position, Float, Clear, Overflow, Direction, Width, Height, MaxWidth, MaxHeight, BorderTopWidth, BorderRightWidth, BorderBottomWidth, BorderLeftWidth, BorderTopStyle, BorderRightStyle, BorderBottomStyle, BorderLeftStyle, FontSize, LineHeight, VerticalAlign, TextAlign, WhiteSpace, LetterSpacing, WordSpacing, TextTransform, ListStylePosition, Content}
use Rattle.viz_base.specs.declared.settings.Value.{Value}
use Rattle.viz_base.specs.declared.settings.Value.TheVariants.{Word}
use Rattle.css_semantics.specs.Properties.{Row, row}

-- none where the initial value is no keyword; that of `text-align` depends on the direction, which is `ltr`
abbrev pub initial_word : Prop → Option (List ℕ)
initial_word Display = Some (codes "inline")
initial_word Position = Some (codes "static")
initial_word Float = Some (codes "none")
initial_word Clear = Some (codes "none")
initial_word Overflow = Some (codes "visible")
initial_word Direction = Some (codes "ltr")
initial_word Width = Some (codes "auto")
initial_word Height = Some (codes "auto")
initial_word MaxWidth = Some (codes "none")
initial_word MaxHeight = Some (codes "none")
initial_word BorderTopWidth = Some (codes "medium")
initial_word BorderRightWidth = Some (codes "medium")
initial_word BorderBottomWidth = Some (codes "medium")
initial_word BorderLeftWidth = Some (codes "medium")
initial_word BorderTopStyle = Some (codes "none")
initial_word BorderRightStyle = Some (codes "none")
initial_word BorderBottomStyle = Some (codes "none")
initial_word BorderLeftStyle = Some (codes "none")
initial_word FontSize = Some (codes "medium")
initial_word LineHeight = Some (codes "normal")
initial_word VerticalAlign = Some (codes "baseline")
initial_word TextAlign = Some (codes "left")
initial_word WhiteSpace = Some (codes "normal")
initial_word LetterSpacing = Some (codes "normal")
initial_word WordSpacing = Some (codes "normal")
initial_word TextTransform = Some (codes "none")
initial_word ListStylePosition = Some (codes "outside")
initial_word Content = Some (codes "normal")
initial_word _ = None

-- the keyword at the place that a value names
abbrev pub word_at : Row → Value → Option (List ℕ)
word_at r (Word n) = slice_get r.words n
word_at r _ = None

-- each initial keyword stands in its property's row at the place that is named for it
abbrev pub StandAtTheirPlaces : Type 0
StandAtTheirPlaces = (p : Prop) → word_at (row p) (row p).initial ≡ initial_word p
