use Rattle.std.proofs.Common.{◌≡◌, ◌≤◌, take}
use Rattle.std.specs.List.{count_by}
use Rattle.css_value.specs.Classes.{class_has}
use Rattle.css_value.proofs.classes.count_of.Given as goal

abbrev pub invariant-loop-part : goal.invariant-loop-part
invariant-loop-part l = record { is : l.count ≡ count_by (class_has l.class) (take l.part-index l.parts); within : l.count ≤ l.part-index }
