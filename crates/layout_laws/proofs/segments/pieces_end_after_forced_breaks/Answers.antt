use Rattle.std.proofs.Common.{◌≡◌, [], true, reverse, ◌++◌, ◌↔◌, subst}
use Rattle.layout_semantics.specs.Segments.{is_break, never, pieces}
use Rattle.layout_laws.specs.Parts.{EndsAPart}
use Rattle.layout_laws.proofs.Cuts.{cut-joined, cut-full, ends-reversed}
use Rattle.layout_laws.proofs.Breaks.{never-same}
use Rattle.layout_laws.proofs.segments.pieces_end_after_forced_breaks.Goals as goal

pub returns-clause-whole : goal.returns-clause-whole
returns-clause-whole c items = cut-joined (is_break never) [] items

pub returns-clause-full : goal.returns-clause-full
returns-clause-full c items = cut-full (is_break never) [] items

pub returns-clause-ends : goal.returns-clause-ends
returns-clause-ends c before after some more =
    subst (λ b. (b ≡ true) ↔ EndsAPart (pieces (before ++ after)) before) (never-same c.args.tree.now (reverse before) after)
    (ends-reversed (is_break never) before after some more)
