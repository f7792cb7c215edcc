use Rattle.std.proofs.Common.{◌≡◌, ◌==◌, drop, find}
use Rattle.lay_length.proofs.texts.entry_of.Given as goal

-- the first entry is among those that are left
abbrev pub invariant-loop-other : goal.invariant-loop-other
invariant-loop-other l =
    find (λ entry. entry.0 == l.letter) (drop l.other-index l.advances) ≡ find (λ entry. entry.0 == l.letter) l.advances
