use Rattle.std.proofs.Common.{◌≡◌, drop}
use Rattle.std.specs.List.{find}
use Rattle.css_semantics.specs.Names.{same_name}
use Rattle.css_semantics.specs.Properties.{row}
use Rattle.css_value.proofs.rows.first_named.Given as goal

abbrev pub invariant-loop-prop : goal.invariant-loop-prop
invariant-loop-prop l = find (λ p. same_name l.name (row p).name) (drop l.prop-index l.props) ≡ find (λ p. same_name l.name (row p).name) l.props
