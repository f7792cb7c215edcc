-- The settings so far, and those of sides behind them.
use Rattle.std.specs.Prelude.{List, [], ◌∷◌, ◌++◌, Result, Ok}
use Rattle.viz_base.specs.declared.settings.Prop.{Prop}
use Rattle.viz_base.specs.declared.settings.Setting.{Setting}
use Rattle.viz_base.specs.declared.lengths.Sides.{Sides}
use Rattle.css_semantics.specs.declared.parts.Part.{Part}
use Rattle.css_semantics.specs.declared.parts.Refusal.{Refusal}
use Rattle.css_semantics.specs.Values.{part_value, setting, then_on}

abbrev pub with_part : List Setting → Prop → Part → Result (List Setting) Refusal
with_part front p a = then_on (part_value p a) (λ v. Ok (front ++ setting p v ∷ []))

abbrev pub with_four : List Setting → Sides Prop → Sides Part → Result (List Setting) Refusal
with_four front on parts =
    then_on (with_part front on.top parts.top) (λ tops.
    then_on (with_part tops on.right parts.right) (λ rights.
    then_on (with_part rights on.bottom parts.bottom) (λ bottoms.
    with_part bottoms on.left parts.left)))
