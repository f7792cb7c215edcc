use Rattle.std.proofs.Common.{◌≡◌, ◌++◌, drop}
use Rattle.std.specs.Prelude.{flat_map}
use Rattle.css_semantics.specs.Values.{quoted}
use Rattle.css_value.proofs.strings.joined.Given as goal

abbrev pub invariant-loop-part : goal.invariant-loop-part
invariant-loop-part l = l.text ++ flat_map quoted (drop l.part-index l.parts) ≡ flat_map quoted l.parts
