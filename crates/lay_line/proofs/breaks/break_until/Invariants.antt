use Rattle.std.proofs.Common.{◌≡◌, ◌≤◌, drop}
use Rattle.lay_line.specs.Items.{items_of, run_of}
use Rattle.lay_line.specs.steps.Marks.{no_run, break_until}
use Rattle.lay_line.proofs.breaks.break_until.Given as goal

abbrev pub invariant-loop-item : goal.invariant-loop-item
invariant-loop-item l = (break_until l.count (run_of l.run) (items_of (drop l.item-index l.items)) ≡ break_until 0 no_run (items_of l.items)) × (l.count ≤ l.item-index)
