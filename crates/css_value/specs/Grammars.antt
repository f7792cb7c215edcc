-- The value of a declaration after the grammars that CSS 2.1 prints: of the shorthands for four sides (8.3,
-- 8.4, 8.5.1 and 8.5.3), for borders (8.5.4) and of `font` (15.8). A part in `< >` is one that the property of
-- that name takes.
use Rattle.std.specs.Prelude.{◌≡◌, ℕ, Bool, true, false, List, [], ◌∷◌, ◌++◌, Some, Result, Ok, Err}
use Rattle.std.specs.List.{list_any, list_all}
use Rattle.viz_base.specs.declared.lengths.Sides.{Sides}
use Rattle.viz_base.specs.declared.settings.Prop.{Prop}
use Rattle.viz_base.specs.declared.settings.Prop.TheVariants.{BorderTopWidth, BorderRightWidth, BorderBottomWidth, BorderLeftWidth, BorderTopStyle, BorderRightStyle, BorderBottomStyle, BorderLeftStyle, FontSize, FontFamily, LineHeight}
use Rattle.viz_base.specs.declared.settings.Value.{Value}
use Rattle.viz_base.specs.declared.settings.Setting.{Setting}
use Rattle.css_semantics.specs.declared.parts.Part.{Part}
use Rattle.css_semantics.specs.declared.parts.Part.TheVariants as part
use Rattle.css_semantics.specs.declared.parts.Shorthand.{Shorthand}
use Rattle.css_semantics.specs.declared.parts.Shorthand.TheVariants.{Margin, Padding, BorderWidth, BorderStyle, Border, BorderTop, BorderRight, BorderBottom, BorderLeft, Font, ListStyle}
use Rattle.css_semantics.specs.declared.parts.Refusal.{Refusal}
use Rattle.css_semantics.specs.declared.parts.Refusal.TheVariants.{Ignored}
use Rattle.css_semantics.specs.Properties.{row}
use Rattle.css_semantics.specs.Values.{setting, part_value, is_inherit}
use Rattle.css_semantics.specs.Shorthands.{margins, paddings, border_widths, border_styles, inherited, is_line, is_line_width, is_line_style, is_before_size, is_front, is_system, system_font, font_names, font_settings, list_style}

-- ---- four sides: <margin-width>{1,4} | inherit, and so <padding-width>, <border-width> and <border-style>

-- the part that is for each side: of one to four parts
pub data AreSides : List Part → Sides Part → Type 0 where
  one : (all : Part) → AreSides (all ∷ []) (record { top = all; right = all; bottom = all; left = all })
  two : (ends sides : Part)
      → AreSides (ends ∷ sides ∷ []) (record { top = ends; right = sides; bottom = ends; left = sides })
  three : (top sides bottom : Part)
      → AreSides (top ∷ sides ∷ bottom ∷ []) (record { top = top; right = sides; bottom = bottom; left = sides })
  four : (top right bottom left : Part)
      → AreSides (top ∷ right ∷ bottom ∷ left ∷ []) (record { top = top; right = right; bottom = bottom; left = left })

pub data IsSides (on : Sides Prop) (ps : List Part) : List Setting → Type 0 where
  inherits : is_inherit ps ≡ true → IsSides on ps (inherited (on.top ∷ on.right ∷ on.bottom ∷ on.left ∷ []))
  written : {parts : Sides Part} {top right bottom left : Value} → is_inherit ps ≡ false → AreSides ps parts
      → part_value on.top parts.top ≡ Ok top → part_value on.right parts.right ≡ Ok right
      → part_value on.bottom parts.bottom ≡ Ok bottom → part_value on.left parts.left ≡ Ok left
      → IsSides on ps (setting on.top top ∷ setting on.right right ∷ setting on.bottom bottom ∷ setting on.left left
      ∷ [])

-- ---- borders: [ <border-width> || <border-style> || <border-top-color> ] | inherit

-- the value of the part of a kind; where there is no such part, the initial value of the property
pub data Gets (kind : Part → Bool) (ps : List Part) (p : Prop) : Value → Type 0 where
  from : (before after : List Part) (a : Part) {v : Value} → ps ≡ before ++ a ∷ after → kind a ≡ true
      → part_value p a ≡ Ok v → Gets kind ps p v
  initial : list_any kind ps ≡ false → Gets kind ps p (row p).initial

-- each of these properties with its value
pub data Sets (kind : Part → Bool) (ps : List Part) : List Prop → List Setting → Type 0 where
  none : Sets kind ps [] []
  more : {p : Prop} {v : Value} {props : List Prop} {settings : List Setting} → Gets kind ps p v
      → Sets kind ps props settings → Sets kind ps (p ∷ props) (setting p v ∷ settings)

-- `inherit` alone is no colour
pub data IsBorder (widths styles : List Prop) (ps : List Part) : List Setting → Type 0 where
  inherits : is_inherit ps ≡ true → IsBorder widths styles ps (inherited widths ++ inherited styles)
  written : {ws ss : List Setting} → is_inherit ps ≡ false → is_line ps ≡ true → Sets is_line_width ps widths ws
      → Sets is_line_style ps styles ss → IsBorder widths styles ps (ws ++ ss)

-- ---- font: [ [ <font-style> || <font-variant> || <font-weight> ]? <font-size> [ / <line-height> ]? <font-family> ]
-- ---- | caption | icon | menu | message-box | small-caption | status-bar | inherit

-- [ / <line-height> ]?, where it is missing with the initial value
pub data IsHeight : List Part → Value → Type 0 where
  height : {a : Part} {v : Value} → part_value LineHeight a ≡ Ok v → IsHeight (part.Solidus ∷ a ∷ []) v
  no_height : IsHeight [] (row LineHeight).initial

-- Before the size stand a style, a variant and a weight, each at most once, and words `normal`, three parts in all; the
-- size is none of these. `inherit` alone names neither a system font nor a family.
pub data IsFont (ps : List Part) : List Setting → Type 0 where
  inherits : is_inherit ps ≡ true → IsFont ps (inherited (FontSize ∷ FontFamily ∷ LineHeight ∷ []))
  system : is_inherit ps ≡ false → is_system ps ≡ true → IsFont ps system_font
  written : (front behind family : List Part) (size : Part) {s h : Value} {names : List (List ℕ)}
      → ps ≡ front ++ size ∷ (behind ++ family)
      → list_all is_before_size front ≡ true → is_front front ≡ true → is_before_size size ≡ false
      → part_value FontSize size ≡ Ok s → IsHeight behind h → font_names family ≡ Some names
      → IsFont ps (font_settings s names h)

-- ---- shorthands

-- what a grammar says; where it says nothing, the declaration is dropped (CSS 2.1, 4.2)
pub data ByGrammar (IsSaid : List Setting → Type 0) : Result (List Setting) Refusal → Type 0 where
  said : {settings : List Setting} → IsSaid settings → ByGrammar IsSaid (Ok settings)
  dropped : ((settings : List Setting) → IsSaid settings → ⊥) → ByGrammar IsSaid (Err Ignored)

-- `list-style` has no grammar here: of it one word alone is asked for
abbrev pub IsShorthand : Shorthand → List Part → Result (List Setting) Refusal → Type 0
IsShorthand Margin ps answer = ByGrammar (IsSides margins ps) answer
IsShorthand Padding ps answer = ByGrammar (IsSides paddings ps) answer
IsShorthand BorderWidth ps answer = ByGrammar (IsSides border_widths ps) answer
IsShorthand BorderStyle ps answer = ByGrammar (IsSides border_styles ps) answer
IsShorthand Border ps answer =
    ByGrammar (IsBorder (BorderTopWidth ∷ BorderRightWidth ∷ BorderBottomWidth ∷ BorderLeftWidth ∷ [])
    (BorderTopStyle ∷ BorderRightStyle ∷ BorderBottomStyle ∷ BorderLeftStyle ∷ []) ps) answer
IsShorthand BorderTop ps answer = ByGrammar (IsBorder (BorderTopWidth ∷ []) (BorderTopStyle ∷ []) ps) answer
IsShorthand BorderRight ps answer = ByGrammar (IsBorder (BorderRightWidth ∷ []) (BorderRightStyle ∷ []) ps) answer
IsShorthand BorderBottom ps answer = ByGrammar (IsBorder (BorderBottomWidth ∷ []) (BorderBottomStyle ∷ []) ps) answer
IsShorthand BorderLeft ps answer = ByGrammar (IsBorder (BorderLeftWidth ∷ []) (BorderLeftStyle ∷ []) ps) answer
IsShorthand Font ps answer = ByGrammar (IsFont ps) answer
IsShorthand ListStyle ps answer = answer ≡ list_style ps
