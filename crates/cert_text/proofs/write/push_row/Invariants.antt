use Rattle.std.proofs.Common.{◌≡◌, ◌++◌, take}
use Rattle.std.specs.List.{flat_map}
use Rattle.cert_text.specs.steps.Write.{term_bytes}
use Rattle.cert_text.proofs.write.push_row.Given as goal

abbrev pub invariant-loop-term : goal.invariant-loop-term
invariant-loop-term l = l.text.items ≡ l.initial.text.items ++ flat_map term_bytes (take l.term-index l.term-items)
