use Rattle.std.proofs.Common.{◌≡◌, drop}
use Rattle.css_semantics.specs.ComputedValues.{first_named}
use Rattle.page_style.proofs.families.first_named.Given as goal

abbrev pub invariant-loop-name : goal.invariant-loop-name
invariant-loop-name l = first_named l.fonts (drop l.name-index l.names) ≡ first_named l.fonts l.names
