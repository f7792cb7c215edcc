use Rattle.std.proofs.Common.{◌≡◌, take}
use Rattle.css_syntax.proofs.rules.copied_list.Given as goal

abbrev pub invariant-loop-entry : goal.invariant-loop-entry
invariant-loop-entry l = l.copy ≡ take l.entry-index l.list
