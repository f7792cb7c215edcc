use Rattle.std.proofs.Common.{◌≡◌, ◌≤◌, ◌+◌, length, take}
use Rattle.std.specs.List.{suffix_len}
use Rattle.css_syntax.specs.Classes.{class_has}
use Rattle.css_syntax.proofs.slices.end_start.Given as goal

abbrev pub invariant-loop-end : goal.invariant-loop-end
invariant-loop-end l =
    (l.end ≤ length l.tokens) × (l.end + suffix_len (λ t. class_has l.class t.kind) l.tokens ≡ length l.tokens + suffix_len (λ t. class_has l.class t.kind) (take l.end l.tokens))

abbrev pub decreases-loop-end : goal.decreases-loop-end
decreases-loop-end l = l.end
