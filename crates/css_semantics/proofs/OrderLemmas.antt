-- The settings of declarations in the order of the table.
use Rattle.std.proofs.Common.{◌≡◌, ℕ, zero, suc, Bool, true, false, cond, List, [], ◌∷◌, ◌++◌, take, drop, Option, Some, None, Result, Ok, Err, refl, sym, ap, ◌∙◌, subst}
use Rattle.viz_base.specs.declared.lengths.Sides.{Sides}
use Rattle.viz_base.specs.declared.settings.Prop.{Prop}
use Rattle.viz_base.specs.declared.settings.Prop.TheVariants.{Display, Position, Float, Clear, Overflow, Direction, Width, Height, MinWidth, MinHeight, MaxWidth, MaxHeight, MarginTop, MarginRight, MarginBottom, MarginLeft, PaddingTop, PaddingRight, PaddingBottom, PaddingLeft, BorderTopWidth, BorderRightWidth, BorderBottomWidth, BorderLeftWidth, BorderTopStyle, BorderRightStyle, BorderBottomStyle, BorderLeftStyle, FontSize, FontFamily, LineHeight, VerticalAlign, TextAlign, WhiteSpace, TextIndent, LetterSpacing, WordSpacing, TextTransform, ListStylePosition, Content}
use Rattle.viz_base.specs.declared.settings.Value.{Value}
use Rattle.viz_base.specs.declared.settings.Setting.{Setting}
use Rattle.css_semantics.specs.declared.parts.Part.{Part}
use Rattle.css_semantics.specs.declared.parts.Refusal.{Refusal}
use Rattle.css_semantics.specs.declared.parts.Refusal.TheVariants.{Ignored}
use Rattle.css_semantics.specs.declared.parts.Shorthand.{Shorthand}
use Rattle.css_semantics.specs.declared.parts.Shorthand.TheVariants.{Margin, Padding, BorderWidth, BorderStyle, Border, BorderTop, BorderRight, BorderBottom, BorderLeft, Font, ListStyle}
use Rattle.css_semantics.specs.Properties.{properties, row}
use Rattle.css_semantics.specs.Values.{then_on, setting, longhand, whole_value, part_value, is_inherit}
use Rattle.css_semantics.specs.Shorthands.{shorthand, shorthand_or_none, longhand_or, sides, four, spread, inherited, lines, each_line, joined, value_or, is_line, is_line_width, is_line_style, font, is_system, system_font, written_font, font_from_size, font_behind, height_behind, sized_font, named_font, font_names, is_front, front_len}
use Rattle.css_semantics.specs.ValuesLaws.{IsAmong, none, taken, passed, props, longhands}

-- settings that have these properties, where there are any
abbrev pub Sets : List Prop → Result (List Setting) Refusal → Type 0
Sets ps (Ok settings) = props settings ≡ ps
Sets ps (Err refusal) = Unit {0}

sets_then : {A : Type 0} (ps : List Prop) (r : Result A Refusal) (f : A → Result (List Setting) Refusal) → ((x : A) → Sets ps (f x)) → Sets ps (then_on r f)
sets_then ps (Ok x) f h = h x
sets_then ps (Err refusal) f h = tt

sets_if : (ps : List Prop) (b : Bool) (r s : Result (List Setting) Refusal) → Sets ps r → Sets ps s → Sets ps (cond b r s)
sets_if ps true r s h k = h
sets_if ps false r s h k = k

pub sets_ok : (ps : List Prop) (r : Result (List Setting) Refusal) (settings : List Setting) → Sets ps r → r ≡ Ok settings → props settings ≡ ps
sets_ok ps r settings h e = subst (Sets ps) e h

pub longhand_sets : (p : Prop) (ps : List Part) → Sets (p ∷ []) (longhand p ps)
longhand_sets p ps = sets_then (p ∷ []) (whole_value p ps) _ (λ v. refl)

inherited_sets : (ps : List Prop) → props (inherited ps) ≡ ps
inherited_sets [] = refl
inherited_sets (p ∷ ps) = ap (λ qs. p ∷ qs) (inherited_sets ps)

abbrev all_of : Sides Prop → List Prop
all_of on = on.top ∷ on.right ∷ on.bottom ∷ on.left ∷ []

four_sets : (on : Sides Prop) (a : Sides Part) → Sets (all_of on) (four on a)
four_sets on a =
    sets_then (all_of on) (part_value on.top a.top) _ (λ t. sets_then (all_of on) (part_value on.right a.right) _ (λ r. sets_then (all_of on) (part_value on.bottom a.bottom) _ (λ b. sets_then (all_of on) (part_value on.left a.left) _ (λ l. refl))))

spread_sets : (on : Sides Prop) (ps : List Part) → Sets (all_of on) (spread (four on) ps)
spread_sets on [] = tt
spread_sets on (a ∷ []) = four_sets on _
spread_sets on (a ∷ b ∷ []) = four_sets on _
spread_sets on (a ∷ b ∷ c ∷ []) = four_sets on _
spread_sets on (a ∷ b ∷ c ∷ d ∷ []) = four_sets on _
spread_sets on (a ∷ b ∷ c ∷ d ∷ e ∷ ps) = tt

sides_sets : (on : Sides Prop) (ps : List Part) → Sets (all_of on) (sides on ps)
sides_sets on ps = sets_if _ (is_inherit ps) _ _ refl (spread_sets on ps)

each_sets : (test : Part → Bool) (v : Value) (ps : List Part) (qs : List Prop) → Sets qs (each_line test v ps qs)
each_sets test v ps [] = refl
each_sets test v ps (q ∷ qs) = sets_then _ (value_or v q _) _ (λ u. more_sets u (each_line test v ps qs) (each_sets test v ps qs)) where
  more_sets : (u : Value) (r : Result (List Setting) Refusal) → Sets qs r → Sets (q ∷ qs) (then_on r (λ settings. Ok (setting q u ∷ settings)))
  more_sets u (Ok settings) h = ap (λ x. q ∷ x) h
  more_sets u (Err refusal) h = tt

props_append : (xs ys : List Setting) → props (xs ++ ys) ≡ props xs ++ props ys
props_append [] ys = refl
props_append (x ∷ xs) ys = ap (λ z. x.prop ∷ z) (props_append xs ys)

joined_sets : (ws : List Setting) (qs : List Prop) (r : Result (List Setting) Refusal) → Sets qs r → Sets (props ws ++ qs) (joined ws r)
joined_sets ws qs (Ok ss) h = props_append ws ss ∙ ap (λ x. props ws ++ x) h
joined_sets ws qs (Err refusal) h = tt

both_sets : (ps qs : List Prop) (r s : Result (List Setting) Refusal) → Sets ps r → Sets qs s → Sets (ps ++ qs) (then_on r (λ ws. joined ws s))
both_sets ps qs (Ok ws) s h k = subst (λ x. Sets (x ++ qs) (joined ws s)) h (joined_sets ws qs s k)
both_sets ps qs (Err refusal) s h k = tt

lines_set : (ws ss : List Prop) (ps : List Part) → Sets (ws ++ ss) (lines ws ss ps)
lines_set ws ss ps =
    sets_if _ (is_inherit ps) _ _
    (props_append (inherited ws) (inherited ss) ∙ ap (λ x. x ++ props (inherited ss)) (inherited_sets ws) ∙ ap (λ x. ws ++ x) (inherited_sets ss))
    (sets_if _ (is_line ps) _ _ (both_sets ws ss _ _ (each_sets is_line_width _ ps ws) (each_sets is_line_style _ ps ss)) tt)

abbrev font_props : List Prop
font_props = FontSize ∷ FontFamily ∷ LineHeight ∷ []

named_sets : (s h : Value) (names : Option (List (List ℕ))) → Sets font_props (named_font s h names)
named_sets s h None = tt
named_sets s h (Some names) = refl

sized_sets : (s h : Result Value Refusal) (ps : List Part) → Sets font_props (sized_font s h ps)
sized_sets s h ps = sets_then _ s _ (λ u. sets_then _ h _ (λ v. named_sets u v (font_names ps)))

behind_sets : (size : Part) (ps : List Part) (o : Option (Part × List Part)) → Sets font_props (font_behind size ps o)
behind_sets size ps None = sized_sets (part_value FontSize size) (Ok (row LineHeight).initial) ps
behind_sets size ps (Some p) = sized_sets (part_value FontSize size) (part_value LineHeight p.0) p.1

size_sets : (ps : List Part) → Sets font_props (font_from_size ps)
size_sets [] = tt
size_sets (size ∷ ps) = behind_sets size ps (height_behind ps)

written_sets : (ps : List Part) → Sets font_props (written_font ps)
written_sets ps = sets_if font_props (is_front (take (front_len ps) ps)) (font_from_size (drop (front_len ps) ps)) (Err Ignored) (size_sets (drop (front_len ps) ps)) tt

font_sets : (ps : List Part) → Sets font_props (font ps)
font_sets ps =
    sets_if font_props (is_inherit ps) (Ok (inherited font_props)) (cond (is_system ps) (Ok system_font) (written_font ps)) refl
    (sets_if font_props (is_system ps) (Ok system_font) (written_font ps) refl (written_sets ps))

pub shorthand_sets : (s : Shorthand) (ps : List Part) → Sets (longhands s) (shorthand s ps)
shorthand_sets Margin ps = sides_sets _ ps
shorthand_sets Padding ps = sides_sets _ ps
shorthand_sets BorderWidth ps = sides_sets _ ps
shorthand_sets BorderStyle ps = sides_sets _ ps
shorthand_sets Border ps = lines_set (BorderTopWidth ∷ BorderRightWidth ∷ BorderBottomWidth ∷ BorderLeftWidth ∷ []) (BorderTopStyle ∷ BorderRightStyle ∷ BorderBottomStyle ∷ BorderLeftStyle ∷ []) ps
shorthand_sets BorderTop ps = lines_set (BorderTopWidth ∷ []) (BorderTopStyle ∷ []) ps
shorthand_sets BorderRight ps = lines_set (BorderRightWidth ∷ []) (BorderRightStyle ∷ []) ps
shorthand_sets BorderBottom ps = lines_set (BorderBottomWidth ∷ []) (BorderBottomStyle ∷ []) ps
shorthand_sets BorderLeft ps = lines_set (BorderLeftWidth ∷ []) (BorderLeftStyle ∷ []) ps
shorthand_sets Font ps = font_sets ps
shorthand_sets ListStyle ps = tt

-- ---- the order of the table

-- properties that stand among those behind the first n
past : (n : ℕ) (qs ps : List Prop) → IsAmong qs (drop n ps) → IsAmong qs ps
past zero qs ps h = h
past (suc n) qs [] h = h
past (suc n) qs (p ∷ ps) h = passed (past n qs ps h)

one_among : (p : Prop) → IsAmong (p ∷ []) properties
one_among Display = past 0 _ _ (taken none)
one_among Position = past 1 _ _ (taken none)
one_among Float = past 2 _ _ (taken none)
one_among Clear = past 3 _ _ (taken none)
one_among Overflow = past 4 _ _ (taken none)
one_among Direction = past 5 _ _ (taken none)
one_among Width = past 6 _ _ (taken none)
one_among Height = past 7 _ _ (taken none)
one_among MinWidth = past 8 _ _ (taken none)
one_among MinHeight = past 9 _ _ (taken none)
one_among MaxWidth = past 10 _ _ (taken none)
one_among MaxHeight = past 11 _ _ (taken none)
one_among MarginTop = past 12 _ _ (taken none)
one_among MarginRight = past 13 _ _ (taken none)
one_among MarginBottom = past 14 _ _ (taken none)
one_among MarginLeft = past 15 _ _ (taken none)
one_among PaddingTop = past 16 _ _ (taken none)
one_among PaddingRight = past 17 _ _ (taken none)
one_among PaddingBottom = past 18 _ _ (taken none)
one_among PaddingLeft = past 19 _ _ (taken none)
one_among BorderTopWidth = past 20 _ _ (taken none)
one_among BorderRightWidth = past 21 _ _ (taken none)
one_among BorderBottomWidth = past 22 _ _ (taken none)
one_among BorderLeftWidth = past 23 _ _ (taken none)
one_among BorderTopStyle = past 24 _ _ (taken none)
one_among BorderRightStyle = past 25 _ _ (taken none)
one_among BorderBottomStyle = past 26 _ _ (taken none)
one_among BorderLeftStyle = past 27 _ _ (taken none)
one_among FontSize = past 28 _ _ (taken none)
one_among FontFamily = past 29 _ _ (taken none)
one_among LineHeight = past 30 _ _ (taken none)
one_among VerticalAlign = past 31 _ _ (taken none)
one_among TextAlign = past 32 _ _ (taken none)
one_among WhiteSpace = past 33 _ _ (taken none)
one_among TextIndent = past 34 _ _ (taken none)
one_among LetterSpacing = past 35 _ _ (taken none)
one_among WordSpacing = past 36 _ _ (taken none)
one_among TextTransform = past 37 _ _ (taken none)
one_among ListStylePosition = past 38 _ _ (taken none)
one_among Content = past 39 _ _ (taken none)

pub longhands_among : (s : Shorthand) → IsAmong (longhands s) properties
longhands_among Margin = past 12 _ _ (taken (taken (taken (taken none))))
longhands_among Padding = past 16 _ _ (taken (taken (taken (taken none))))
longhands_among BorderWidth = past 20 _ _ (taken (taken (taken (taken none))))
longhands_among BorderStyle = past 24 _ _ (taken (taken (taken (taken none))))
longhands_among Border = past 20 _ _ (taken (taken (taken (taken (taken (taken (taken (taken none))))))))
longhands_among BorderTop = past 20 _ _ (taken (passed (passed (passed (taken none)))))
longhands_among BorderRight = past 21 _ _ (taken (passed (passed (passed (taken none)))))
longhands_among BorderBottom = past 22 _ _ (taken (passed (passed (passed (taken none)))))
longhands_among BorderLeft = past 23 _ _ (taken (passed (passed (passed (taken none)))))
longhands_among Font = past 28 _ _ (taken (taken (taken none)))
longhands_among ListStyle = none

among_of : (qs : List Prop) (r : Result (List Setting) Refusal) (settings : List Setting) → Sets qs r → IsAmong qs properties → r ≡ Ok settings → IsAmong (props settings) properties
among_of qs r settings h k e = subst (λ x. IsAmong x properties) (sym (sets_ok qs r settings h e)) k

shorthand_among : (o : Option Shorthand) (ps : List Part) (settings : List Setting) → shorthand_or_none o ps ≡ Ok settings → IsAmong (props settings) properties
shorthand_among None ps settings e = cc
shorthand_among (Some s) ps settings e = among_of (longhands s) (shorthand s ps) settings (shorthand_sets s ps) (longhands_among s) e

pub declared_among : (o : Option Prop) (s : Option Shorthand) (ps : List Part) (settings : List Setting) → longhand_or o s ps ≡ Ok settings → IsAmong (props settings) properties
declared_among (Some p) s ps settings e = among_of (p ∷ []) (longhand p ps) settings (longhand_sets p ps) (one_among p) e
declared_among None s ps settings e = shorthand_among s ps settings e
