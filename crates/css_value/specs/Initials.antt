-- The code's initial values as those of the table of properties.
use Rattle.std.specs.Prelude.{pos, []}
use Rattle.viz_base.specs.declared.settings.Value.{Value}
use Rattle.viz_base.specs.declared.settings.Value.TheVariants.{Word, Px, Names}
use Rattle.css_value.specs.declared.initials.Initial.{Initial}
use Rattle.css_value.specs.declared.initials.Initial.TheVariants as initial

abbrev pub initial_value : Initial → Value
initial_value (initial.Word place) = Word place
initial_value initial.Zero = Px (pos 0)
initial_value initial.NoFamilies = Names []
