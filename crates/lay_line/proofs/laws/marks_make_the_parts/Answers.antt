use Rattle.std.proofs.Common.{None, sym, ◌∙◌}
use Rattle.layout_semantics.specs.Segments.{may_part, never}
use Rattle.lay_line.proofs.Cuts.{segments-are, pieces-are}
use Rattle.lay_line.proofs.Marks.{marks-same}
use Rattle.lay_line.proofs.laws.marks_make_the_parts.Goals as goal

pub returns-clause-segments : goal.returns-clause-segments
returns-clause-segments args tree items = marks-same (may_part tree) None None items ∙ sym (segments-are tree items)

pub returns-clause-pieces : goal.returns-clause-pieces
returns-clause-pieces args items = marks-same never None None items ∙ sym (pieces-are items)
