use Rattle.std.proofs.Common.{◌≡◌, drop}
use Rattle.viz_base.specs.declared.settings.Value.TheVariants.{Word}
use Rattle.css_semantics.specs.Shorthands.{each_line, joined}
use Rattle.css_value.specs.Classes.{class_has}
use Rattle.css_value.proofs.lines.set_lines.Given as goal

abbrev pub invariant-loop-prop : goal.invariant-loop-prop
invariant-loop-prop l = joined l.settings (each_line (class_has l.class) (Word l.place) l.parts (drop l.prop-index l.props)) ≡ joined l.initial.settings (each_line (class_has l.class) (Word l.place) l.parts l.props)
