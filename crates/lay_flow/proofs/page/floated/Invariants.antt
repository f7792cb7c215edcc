use Rattle.std.proofs.Common.{◌≡◌, ◌++◌, drop, filter}
use Rattle.layout_semantics.specs.InlineContent.{is_floated_at}
use Rattle.lay_flow.proofs.page.floated.Given as goal

-- those that were found, with those that are left, are all
abbrev pub invariant-loop-at : goal.invariant-loop-at
invariant-loop-at l = l.floats.items ++ filter (is_floated_at l.tree) (drop l.at-index l.boxes) ≡ filter (is_floated_at l.tree) l.boxes
