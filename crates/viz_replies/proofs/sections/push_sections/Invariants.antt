use Rattle.std.proofs.Common.{◌≡◌, ◌++◌}
use Rattle.viz_replies.specs.Generated.{number_at, sections_text}
use Rattle.viz_replies.proofs.sections.push_sections.Given as goal

abbrev pub invariant-loop-before : goal.invariant-loop-before
invariant-loop-before l = (l.number ≡ number_at l.seed l.before) × (l.out.items ≡ l.initial.out.items ++ sections_text l.seed l.before)
