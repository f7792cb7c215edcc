use Rattle.std.proofs.Common.{[]}
use Rattle.layout_semantics.specs.Segments.{is_break, may_part}
use Rattle.layout_laws.proofs.Cuts.{cut-joined, cut-full, ends-reversed}
use Rattle.layout_laws.proofs.segments.segments_end_where_lines_may_break.Goals as goal

pub returns-clause-whole : goal.returns-clause-whole
returns-clause-whole c items = cut-joined (is_break (may_part c.args.tree.now)) [] items

pub returns-clause-full : goal.returns-clause-full
returns-clause-full c items = cut-full (is_break (may_part c.args.tree.now)) [] items

pub returns-clause-ends : goal.returns-clause-ends
returns-clause-ends c before after some more = ends-reversed (is_break (may_part c.args.tree.now)) before after some more
