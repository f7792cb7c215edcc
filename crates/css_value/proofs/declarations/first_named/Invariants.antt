use Rattle.std.proofs.Common.{◌≡◌, drop}
use Rattle.std.specs.List.{find}
use Rattle.css_semantics.specs.Names.{same_name}
use Rattle.css_semantics.specs.Shorthands.{shorthand_name}
use Rattle.css_value.proofs.declarations.first_named.Given as goal

abbrev pub invariant-loop-shorthand : goal.invariant-loop-shorthand
invariant-loop-shorthand l = find (λ s. same_name l.name (shorthand_name s)) (drop l.shorthand-index l.among) ≡ find (λ s. same_name l.name (shorthand_name s)) l.among
