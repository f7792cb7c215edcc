-- What the code's enums of tests stand for.
use Rattle.std.specs.Prelude.{ℕ, Bool, List, Result}
use Rattle.viz_base.specs.declared.settings.Prop.{Prop}
use Rattle.viz_base.specs.declared.settings.Setting.{Setting}
use Rattle.viz_base.specs.declared.settings.Value.TheVariants.{Word}
use Rattle.css_semantics.specs.declared.parts.Part.{Part}
use Rattle.css_semantics.specs.declared.parts.Refusal.{Refusal}
use Rattle.css_semantics.specs.Shorthands.{each_line, is_line_width, is_line_style, is_colour, is_style_word, is_variant_word, is_weight}
use Rattle.css_value.specs.declared.classes.Class.{Class}
use Rattle.css_value.specs.declared.classes.Class.TheVariants.{LineWidth, LineStyle, Colour, FontStyle, FontVariant, FontWeight}

abbrev pub class_has : Class → Part → Bool
class_has LineWidth a = is_line_width a
class_has LineStyle a = is_line_style a
class_has Colour a = is_colour a
class_has FontStyle a = is_style_word a
class_has FontVariant a = is_variant_word a
class_has FontWeight a = is_weight a

-- the settings of properties by the part of a class, or by the keyword at this place where there is none
abbrev pub set_by : Class → ℕ → List Part → List Prop → Result (List Setting) Refusal
set_by class place ps props = each_line (class_has class) (Word place) ps props
