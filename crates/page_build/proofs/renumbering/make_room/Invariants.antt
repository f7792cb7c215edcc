use Rattle.std.proofs.Common.{◌≡◌, ℕ, suc, ◌-◌, length}
use Rattle.page_build.specs.Seen.{number_at}
use Rattle.page_build.proofs.renumbering.make_room.Given as goal

abbrev pub invariant-loop-numbers : goal.invariant-loop-numbers
invariant-loop-numbers l = (n : ℕ) → number_at l.numbers.items n ≡ number_at l.initial.numbers.items n

abbrev pub decreases-loop-numbers : goal.decreases-loop-numbers
decreases-loop-numbers l = suc l.node - length l.numbers.items
