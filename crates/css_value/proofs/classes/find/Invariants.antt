use Rattle.std.proofs.Common.{◌≡◌, drop}
use Rattle.std.specs.List.{find}
use Rattle.css_value.specs.Classes.{class_has}
use Rattle.css_value.proofs.classes.find.Given as goal

abbrev pub invariant-loop-part : goal.invariant-loop-part
invariant-loop-part l = find (class_has l.class) (drop l.part-index l.parts) ≡ find (class_has l.class) l.parts
