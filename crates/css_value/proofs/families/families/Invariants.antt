use Rattle.std.proofs.Common.{◌≡◌, [], drop}
use Rattle.css_semantics.specs.Values.{families}
use Rattle.css_value.specs.Families.{names_from, with_front}
use Rattle.css_value.proofs.families.families.Given as goal

abbrev pub invariant-loop-part : goal.invariant-loop-part
invariant-loop-part l = with_front l.names (names_from l.before (drop l.part-index l.parts)) ≡ with_front [] (families l.parts)
