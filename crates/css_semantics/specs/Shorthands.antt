-- What the value of a declaration says, shorthand properties included (CSS 2.1, 1.4.3).
use Rattle.std.specs.Prelude.{◌≡◌, ℕ, ℤ, pos, negsuc, ◌%◌, ◌==◌, nat_le, Bool, true, false, not, ◌&&◌, ◌||◌, List, [], ◌∷◌, ◌++◌, map, length, take, drop, Option, Some, None, Result, Ok, Err, if◌then◌else◌, codes, is_ok}
use Rattle.std.specs.List.{list_any, list_all, count_by, find, prefix_len}
use Rattle.css_semantics.specs.Pieces.{Token}
use Rattle.viz_base.specs.declared.lengths.Sides.{Sides}
use Rattle.viz_base.specs.declared.settings.Prop.{Prop}
use Rattle.viz_base.specs.declared.settings.Prop.TheVariants.{MarginTop, MarginRight, MarginBottom, MarginLeft, PaddingTop, PaddingRight, PaddingBottom, PaddingLeft, BorderTopWidth, BorderRightWidth, BorderBottomWidth, BorderLeftWidth, BorderTopStyle, BorderRightStyle, BorderBottomStyle, BorderLeftStyle, FontSize, FontFamily, LineHeight, ListStylePosition}
use Rattle.viz_base.specs.declared.settings.Value.{Value}
use Rattle.viz_base.specs.declared.settings.Value.TheVariants.{Inherit, Names}
use Rattle.viz_base.specs.declared.settings.Setting.{Setting}
use Rattle.css_semantics.specs.declared.parts.Part.{Part}
use Rattle.css_semantics.specs.declared.parts.Part.TheVariants as part
use Rattle.css_semantics.specs.declared.parts.Shorthand.{Shorthand}
use Rattle.css_semantics.specs.declared.parts.Shorthand.TheVariants.{Margin, Padding, BorderWidth, BorderStyle, Border, BorderTop, BorderRight, BorderBottom, BorderLeft, Font, ListStyle}
use Rattle.css_semantics.specs.declared.parts.Refusal.{Refusal}
use Rattle.css_semantics.specs.declared.parts.Refusal.TheVariants.{Ignored, Unsupported}
use Rattle.css_semantics.specs.Tokens.{AreTokens}
use Rattle.css_semantics.specs.Names.{same_name}
use Rattle.css_semantics.specs.Properties.{row, property_named}
use Rattle.css_semantics.specs.ValuesParts.{parts}
use Rattle.css_semantics.specs.Values.{then_on, setting, part_value, families, is_keyword, is_inherit, longhand}

-- ---- the shorthands

abbrev pub shorthands : List Shorthand
shorthands = Margin ∷ Padding ∷ BorderWidth ∷ BorderStyle ∷ Border ∷ BorderTop ∷ BorderRight ∷ BorderBottom
    ∷ BorderLeft ∷ Font ∷ ListStyle ∷ []

abbrev pub shorthand_name : Shorthand → List ℕ
shorthand_name Margin = codes "margin"
shorthand_name Padding = codes "padding"
shorthand_name BorderWidth = codes "border-width"
shorthand_name BorderStyle = codes "border-style"
shorthand_name Border = codes "border"
shorthand_name BorderTop = codes "border-top"
shorthand_name BorderRight = codes "border-right"
shorthand_name BorderBottom = codes "border-bottom"
shorthand_name BorderLeft = codes "border-left"
shorthand_name Font = codes "font"
shorthand_name ListStyle = codes "list-style"

abbrev pub shorthand_named : List ℕ → Option Shorthand
shorthand_named name = find (λ s. same_name name (shorthand_name s)) shorthands

-- ---- four sides (CSS 2.1, 8.3, 8.4, 8.5.1 and 8.5.3)

-- a setting for each side, of its property from its part, in the order top, right, bottom, left
abbrev pub four : Sides Prop → Sides Part → Result (List Setting) Refusal
four on parts =
    then_on (part_value on.top parts.top) (λ top.
    then_on (part_value on.right parts.right) (λ right.
    then_on (part_value on.bottom parts.bottom) (λ bottom.
    then_on (part_value on.left parts.left) (λ left.
    Ok (setting on.top top ∷ setting on.right right ∷ setting on.bottom bottom ∷ setting on.left left ∷ [])))))

-- One value is for all sides; of two the first is for top and bottom and the second for
-- right and left; of three the first is for the top, the second for right and left, the
-- third for the bottom; four are for top, right, bottom and left.
abbrev pub spread : (Sides Part → Result (List Setting) Refusal) → List Part → Result (List Setting) Refusal
spread f (a ∷ []) = f (record { top = a; right = a; bottom = a; left = a })
spread f (a ∷ b ∷ []) = f (record { top = a; right = b; bottom = a; left = b })
spread f (a ∷ b ∷ c ∷ []) = f (record { top = a; right = b; bottom = c; left = b })
spread f (a ∷ b ∷ c ∷ d ∷ []) = f (record { top = a; right = b; bottom = c; left = d })
spread f _ = Err Ignored

-- the settings by which properties inherit
abbrev pub inherited : List Prop → List Setting
inherited ps = map (λ p. setting p Inherit) ps

abbrev pub sides : Sides Prop → List Part → Result (List Setting) Refusal
sides on ps = if is_inherit ps then Ok (inherited (on.top ∷ on.right ∷ on.bottom ∷ on.left ∷ []))
    else spread (four on) ps

abbrev pub margins : Sides Prop
margins = record { top = MarginTop; right = MarginRight; bottom = MarginBottom; left = MarginLeft }

abbrev pub paddings : Sides Prop
paddings = record { top = PaddingTop; right = PaddingRight; bottom = PaddingBottom; left = PaddingLeft }

abbrev pub border_widths : Sides Prop
border_widths =
    record { top = BorderTopWidth; right = BorderRightWidth; bottom = BorderBottomWidth; left = BorderLeftWidth }

abbrev pub border_styles : Sides Prop
border_styles =
    record { top = BorderTopStyle; right = BorderRightStyle; bottom = BorderBottomStyle; left = BorderLeftStyle }

-- ---- borders (CSS 2.1, 8.5.4)

abbrev pub is_line_width : Part → Bool
is_line_width a = is_ok (part_value BorderTopWidth a)

abbrev pub is_line_style : Part → Bool
is_line_style a = is_ok (part_value BorderTopStyle a)

-- any other identifier is taken for a colour, and so are the colours of parts (our own, lenient, reading)
abbrev pub is_colour : Part → Bool
is_colour (part.Word word) = not (is_line_width (part.Word word)) && not (is_line_style (part.Word word))
is_colour part.Colour = true
is_colour (part.Function matched) = matched
is_colour _ = false

abbrev pub is_line_part : Part → Bool
is_line_part a = is_line_width a || is_line_style a || is_colour a

abbrev pub is_at_most_one : (Part → Bool) → List Part → Bool
is_at_most_one test ps = nat_le (count_by test ps) 1

-- a width, a style and a colour in any order, each at most once, and one of them at least
abbrev pub is_line : List Part → Bool
is_line ps = not (nat_le (length ps) 0) && list_all is_line_part ps && is_at_most_one is_line_width ps
    && is_at_most_one is_line_style ps && is_at_most_one is_colour ps

-- the value of the part that there is, or a value in its place
abbrev pub value_or : Value → Prop → Option Part → Result Value Refusal
value_or v p None = Ok v
value_or v p (Some a) = part_value p a

-- a setting of each of these properties from the part that passes the test
abbrev pub each_line : (Part → Bool) → Value → List Part → List Prop → Result (List Setting) Refusal
each_line test v ps [] = Ok []
each_line test v ps (p ∷ more) =
    then_on (value_or v p (find test ps))
    (λ u. then_on (each_line test v ps more) (λ settings. Ok (setting p u ∷ settings)))

abbrev pub joined : List Setting → Result (List Setting) Refusal → Result (List Setting) Refusal
joined settings more = then_on more (λ ms. Ok (settings ++ ms))

-- a width or a style that is missing is the initial one, `medium` or `none`, of all sides
abbrev pub written_lines : List Prop → List Prop → List Part → Result (List Setting) Refusal
written_lines widths styles ps =
    then_on (each_line is_line_width (row BorderTopWidth).initial ps widths)
    (λ ws. joined ws (each_line is_line_style (row BorderTopStyle).initial ps styles))

abbrev pub lines : List Prop → List Prop → List Part → Result (List Setting) Refusal
lines widths styles ps =
    if is_inherit ps then Ok (inherited widths ++ inherited styles)
    else (if is_line ps then written_lines widths styles ps else Err Ignored)

-- ---- font (CSS 2.1, 15.8)

abbrev pub is_one_of : List (List ℕ) → Part → Bool
is_one_of words a = list_any (λ word. is_keyword word a) words

abbrev pub is_style_word : Part → Bool
is_style_word = is_one_of (codes "italic" ∷ codes "oblique" ∷ [])

abbrev pub is_variant_word : Part → Bool
is_variant_word = is_one_of (codes "small-caps" ∷ [])

-- 100 to 900 by hundreds, in millionths
abbrev pub is_hundreds : ℤ → Bool
is_hundreds (pos n) = n % 100000000 == 0 && nat_le 1 n && nat_le n 900000000
is_hundreds (negsuc n) = false

abbrev pub is_weight : Part → Bool
is_weight (part.Number n) = is_hundreds n
is_weight a = is_one_of (codes "bold" ∷ codes "bolder" ∷ codes "lighter" ∷ []) a

abbrev pub is_normal : Part → Bool
is_normal = is_keyword (codes "normal")

-- what may stand before the size
abbrev pub is_before_size : Part → Bool
is_before_size a = is_style_word a || is_variant_word a || is_weight a || is_normal a

-- at most one style, one variant and one weight, and no more than three parts with the words `normal`
abbrev pub is_front : List Part → Bool
is_front ps = is_at_most_one is_style_word ps && is_at_most_one is_variant_word ps && is_at_most_one is_weight ps
    && nat_le (length ps) 3

-- the settings of a font
abbrev pub font_settings : Value → List (List ℕ) → Value → List Setting
font_settings size names height = setting FontSize size ∷ setting FontFamily (Names names) ∷ setting LineHeight height
    ∷ []

-- the family, where `inherit` alone is no name
abbrev pub font_names : List Part → Option (List (List ℕ))
font_names ps = if is_inherit ps then None else families ps

abbrev pub named_font : Value → Value → Option (List (List ℕ)) → Result (List Setting) Refusal
named_font size height None = Err Ignored
named_font size height (Some names) = Ok (font_settings size names height)

abbrev pub sized_font : Result Value Refusal → Result Value Refusal → List Part → Result (List Setting) Refusal
sized_font size height ps = then_on size (λ s. then_on height (λ h. named_font s h (font_names ps)))

-- the line height behind a `/`, and what follows it
abbrev pub height_behind : List Part → Option (Part × List Part)
height_behind (part.Solidus ∷ height ∷ ps) = Some (height, ps)
height_behind ps = None

-- behind the size: a line height or the initial one, and the family
abbrev pub font_behind : Part → List Part → Option (Part × List Part) → Result (List Setting) Refusal
font_behind size ps None = sized_font (part_value FontSize size) (Ok (row LineHeight).initial) ps
font_behind size ps (Some p) = sized_font (part_value FontSize size) (part_value LineHeight p.0) p.1

abbrev pub font_from_size : List Part → Result (List Setting) Refusal
font_from_size [] = Err Ignored
font_from_size (size ∷ ps) = font_behind size ps (height_behind ps)

abbrev pub front_len : List Part → ℕ
front_len ps = prefix_len is_before_size ps

abbrev pub written_font : List Part → Result (List Setting) Refusal
written_font ps = if is_front (take (front_len ps) ps) then font_from_size (drop (front_len ps) ps) else Err Ignored

abbrev pub system_words : List (List ℕ)
system_words = codes "caption" ∷ codes "icon" ∷ codes "menu" ∷ codes "message-box" ∷ codes "small-caption"
    ∷ codes "status-bar" ∷ []

abbrev pub is_system : List Part → Bool
is_system (a ∷ []) = is_one_of system_words a
is_system _ = false

-- a system font is of the initial size, family and line height (our own reading)
abbrev pub system_font : List Setting
system_font = map (λ p. setting p (row p).initial) (FontSize ∷ FontFamily ∷ LineHeight ∷ [])

abbrev pub font : List Part → Result (List Setting) Refusal
font ps = if is_inherit ps then Ok (inherited (FontSize ∷ FontFamily ∷ LineHeight ∷ []))
    else (if is_system ps then Ok system_font else written_font ps)

-- ---- list-style (CSS 2.1, 12.5.1)

-- Its one word that has an effect on layout is refused by name; nothing else in it is looked at (our own reading).
abbrev pub list_style : List Part → Result (List Setting) Refusal
list_style ps = Err (if list_any (is_keyword (codes "inside")) ps then Unsupported ListStylePosition else Ignored)

-- ---- declarations

abbrev pub shorthand : Shorthand → List Part → Result (List Setting) Refusal
shorthand Margin ps = sides margins ps
shorthand Padding ps = sides paddings ps
shorthand BorderWidth ps = sides border_widths ps
shorthand BorderStyle ps = sides border_styles ps
shorthand Border ps =
    lines (BorderTopWidth ∷ BorderRightWidth ∷ BorderBottomWidth ∷ BorderLeftWidth ∷ [])
    (BorderTopStyle ∷ BorderRightStyle ∷ BorderBottomStyle ∷ BorderLeftStyle ∷ []) ps
shorthand BorderTop ps = lines (BorderTopWidth ∷ []) (BorderTopStyle ∷ []) ps
shorthand BorderRight ps = lines (BorderRightWidth ∷ []) (BorderRightStyle ∷ []) ps
shorthand BorderBottom ps = lines (BorderBottomWidth ∷ []) (BorderBottomStyle ∷ []) ps
shorthand BorderLeft ps = lines (BorderLeftWidth ∷ []) (BorderLeftStyle ∷ []) ps
shorthand Font ps = font ps
shorthand ListStyle ps = list_style ps

-- an unknown property is dropped
abbrev pub shorthand_or_none : Option Shorthand → List Part → Result (List Setting) Refusal
shorthand_or_none None ps = Err Ignored
shorthand_or_none (Some s) ps = shorthand s ps

abbrev pub longhand_or : Option Prop → Option Shorthand → List Part → Result (List Setting) Refusal
longhand_or (Some p) s ps = longhand p ps
longhand_or None s ps = shorthand_or_none s ps

-- what a declaration of this name with these parts as its value says
abbrev pub declared : List ℕ → List Part → Result (List Setting) Refusal
declared name ps = longhand_or (property_named name) (shorthand_named name) ps

-- What a declaration of this name with this text as its value says, both
-- given by their bytes: settings, or why it gives none.
pub record Says (name text : List ℕ) (answer : Result (List Setting) Refusal) : Type 0 where
  pub tokens : List Token
  pub whole : AreTokens text tokens
  pub answers : answer ≡ declared name (parts tokens)
