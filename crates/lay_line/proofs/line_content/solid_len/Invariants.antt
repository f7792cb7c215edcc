use Rattle.std.proofs.Common.{◌≡◌, ◌≤◌, drop}
use Rattle.lay_line.specs.Items.{bare_of}
use Rattle.lay_line.specs.steps.Staying.{no_items, spanned}
use Rattle.lay_line.proofs.line_content.solid_len.Given as goal

abbrev pub invariant-loop-piece : goal.invariant-loop-piece
invariant-loop-piece g l = (spanned (record { items = l.count; solid = l.solid }) (bare_of (drop l.piece-index l.pieces)) ≡ spanned no_items (bare_of l.pieces)) × (l.count ≤ l.piece-index)
