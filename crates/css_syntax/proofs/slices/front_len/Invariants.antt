use Rattle.std.proofs.Common.{◌≡◌, ◌+◌, drop}
use Rattle.std.specs.List.{prefix_len}
use Rattle.css_syntax.specs.Classes.{class_has}
use Rattle.css_syntax.proofs.slices.front_len.Given as goal

abbrev pub invariant-loop-at : goal.invariant-loop-at
invariant-loop-at l = l.at + prefix_len (λ t. class_has l.class t.kind) (drop l.at l.tokens) ≡ prefix_len (λ t. class_has l.class t.kind) l.tokens
