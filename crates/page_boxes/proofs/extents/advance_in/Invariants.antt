use Rattle.std.proofs.Common.{◌≡◌, ℕ, drop}
use Rattle.std.specs.Prelude.{find, ◌==◌}
use Rattle.page_boxes.proofs.extents.advance_in.Given as goal

abbrev pub invariant-loop-entry : goal.invariant-loop-entry
invariant-loop-entry l = find (λ (entry : ℕ × ℕ). entry.0 == l.letter) (drop l.entry-index l.advances) ≡ find (λ (entry : ℕ × ℕ). entry.0 == l.letter) l.advances
