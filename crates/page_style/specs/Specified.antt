-- Specified values as the code has them.
use Rattle.std.specs.Prelude.{Option, Some, None}
use Rattle.viz_base.specs.declared.settings.Prop.{Prop}
use Rattle.viz_base.specs.declared.settings.Value.{Value}
use Rattle.css_semantics.specs.Properties.{row}
use Rattle.page_style.specs.declared.winners.Specified.{Specified}
use Rattle.page_style.specs.declared.winners.Specified.TheVariants.{Initial, Inherit, Value as Given}

-- the value, or none where it is the parent's computed value
abbrev pub value_of : Prop → Specified → Option Value
value_of p Initial = Some (row p).initial
value_of p Inherit = None
value_of p (Given v) = Some v.now
