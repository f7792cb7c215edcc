-- A row of the code's table as one of the table of properties.
use Rattle.std.specs.Prelude.{map}
use Rattle.viz_base.specs.declared.settings.Prop.{Prop}
use Rattle.css_semantics.specs.Properties.{Row, row}
use Rattle.css_value.specs.declared.rows.TableRow.{TableRow}

-- with the two columns that the code doesn't need
abbrev pub filled : Prop → TableRow → Row
filled p r = record {
  name = r.name.now;
  words = map (λ w. w.now) r.words.now;
  refused = map (λ w. w.now) r.refused.now;
  lengths = r.lengths;
  percentages = r.percentages;
  numbers = r.numbers;
  families = r.families;
  strings = r.strings;
  initial = (row p).initial;
  inherits = (row p).inherits;
}
