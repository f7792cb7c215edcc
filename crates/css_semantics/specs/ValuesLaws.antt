-- Laws of values, in terms of the table of properties and of what each shorthand is short for.
use Rattle.std.specs.Prelude.{◌≡◌, ℤ, pos, ◌<◌, ◌≤ℤ◌, List, [], ◌∷◌, map, length, Ok, false}
use Rattle.viz_base.specs.declared.lengths.Sides.{Sides}
use Rattle.viz_base.specs.declared.settings.Prop.{Prop}
use Rattle.viz_base.specs.declared.settings.Prop.TheVariants.{MarginTop, MarginRight, MarginBottom, MarginLeft, PaddingTop, PaddingRight, PaddingBottom, PaddingLeft, BorderTopWidth, BorderRightWidth, BorderBottomWidth, BorderLeftWidth, BorderTopStyle, BorderRightStyle, BorderBottomStyle, BorderLeftStyle, FontSize, FontFamily, LineHeight}
use Rattle.viz_base.specs.declared.settings.Value.{Value}
use Rattle.viz_base.specs.declared.settings.Value.TheVariants.{Inherit, Word, Px, Em, Pct, Number, Names, Chars}
use Rattle.viz_base.specs.declared.settings.Setting.{Setting}
use Rattle.css_semantics.specs.declared.parts.Part.{Part}
use Rattle.css_semantics.specs.declared.parts.Takes.{Takes}
use Rattle.css_semantics.specs.declared.parts.Takes.TheVariants.{Nothing, All, NotNegative, ZeroAlone}
use Rattle.css_semantics.specs.declared.parts.Shorthand.{Shorthand}
use Rattle.css_semantics.specs.declared.parts.Shorthand.TheVariants.{Margin, Padding, BorderWidth, BorderStyle, Border, BorderTop, BorderRight, BorderBottom, BorderLeft, Font, ListStyle}
use Rattle.css_semantics.specs.Properties.{Row}
use Rattle.css_semantics.specs.Values.{part_value, setting, is_inherit}
use Rattle.css_semantics.specs.Shorthands.{sides}

-- ---- order

-- the first properties stand among the second in the same order, each for one of its own
pub data IsAmong : List Prop → List Prop → Type 0 where
  none : {ps : List Prop} → IsAmong [] ps
  taken : {p : Prop} {qs ps : List Prop} → IsAmong qs ps → IsAmong (p ∷ qs) (p ∷ ps)
  passed : {p : Prop} {qs ps : List Prop} → IsAmong qs ps → IsAmong qs (p ∷ ps)

abbrev pub props : List Setting → List Prop
props settings = map (λ s. s.prop) settings

-- what a shorthand is short for
abbrev pub longhands : Shorthand → List Prop
longhands Margin = MarginTop ∷ MarginRight ∷ MarginBottom ∷ MarginLeft ∷ []
longhands Padding = PaddingTop ∷ PaddingRight ∷ PaddingBottom ∷ PaddingLeft ∷ []
longhands BorderWidth = BorderTopWidth ∷ BorderRightWidth ∷ BorderBottomWidth ∷ BorderLeftWidth ∷ []
longhands BorderStyle = BorderTopStyle ∷ BorderRightStyle ∷ BorderBottomStyle ∷ BorderLeftStyle ∷ []
longhands Border = BorderTopWidth ∷ BorderRightWidth ∷ BorderBottomWidth ∷ BorderLeftWidth ∷ BorderTopStyle
    ∷ BorderRightStyle ∷ BorderBottomStyle ∷ BorderLeftStyle ∷ []
longhands BorderTop = BorderTopWidth ∷ BorderTopStyle ∷ []
longhands BorderRight = BorderRightWidth ∷ BorderRightStyle ∷ []
longhands BorderBottom = BorderBottomWidth ∷ BorderBottomStyle ∷ []
longhands BorderLeft = BorderLeftWidth ∷ BorderLeftStyle ∷ []
longhands Font = FontSize ∷ FontFamily ∷ LineHeight ∷ []
longhands ListStyle = []

-- ---- amounts

-- whether a property that takes these amounts may have this one
abbrev pub Admits : Takes → ℤ → Type 0
Admits Nothing n = ⊥
Admits All n = Unit {0}
Admits NotNegative n = pos 0 ≤ℤ n
Admits ZeroAlone n = n ≡ pos 0

-- whether a row of the table has this value of one part
abbrev pub HasValue : Row → Value → Type 0
HasValue r (Word place) = place < length r.words
HasValue r (Px n) = Admits r.lengths n
HasValue r (Em n) = Admits r.lengths n
HasValue r (Pct n) = Admits r.percentages n
HasValue r (Number n) = Admits r.numbers n
HasValue r Inherit = ⊥
HasValue r (Names names) = ⊥
HasValue r (Chars text) = ⊥

-- ---- sides

-- what fewer than four values of a shorthand for four sides stand for (CSS 2.1, 8.3)
pub record FewerSides (on : Sides Prop) : Type 0 where
  pub one : (a : Part) → is_inherit (a ∷ []) ≡ false → sides on (a ∷ []) ≡ sides on (a ∷ a ∷ a ∷ a ∷ [])
  pub two : (a b : Part) → sides on (a ∷ b ∷ []) ≡ sides on (a ∷ b ∷ a ∷ b ∷ [])
  pub three : (a b c : Part) → sides on (a ∷ b ∷ c ∷ []) ≡ sides on (a ∷ b ∷ c ∷ b ∷ [])
  pub four : (a b c d : Part) (v : Sides Value) → part_value on.top a ≡ Ok v.top → part_value on.right b ≡ Ok v.right
      → part_value on.bottom c ≡ Ok v.bottom → part_value on.left d ≡ Ok v.left
      → sides on (a ∷ b ∷ c ∷ d ∷ [])
      ≡ Ok (setting on.top v.top ∷ setting on.right v.right ∷ setting on.bottom v.bottom ∷ setting on.left v.left ∷ [])
