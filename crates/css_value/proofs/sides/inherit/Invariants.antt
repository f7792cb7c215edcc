use Rattle.std.proofs.Common.{◌≡◌, ◌++◌, drop}
use Rattle.css_semantics.specs.Shorthands.{inherited}
use Rattle.css_value.proofs.sides.inherit.Given as goal

abbrev pub invariant-loop-prop : goal.invariant-loop-prop
invariant-loop-prop l = l.settings ++ inherited (drop l.prop-index l.props) ≡ l.initial.settings ++ inherited l.props
