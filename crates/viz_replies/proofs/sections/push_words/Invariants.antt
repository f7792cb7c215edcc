use Rattle.std.proofs.Common.{◌≡◌, ◌++◌}
use Rattle.viz_replies.specs.Generated.{words}
use Rattle.viz_replies.proofs.sections.push_words.Given as goal

abbrev pub invariant-loop : goal.invariant-loop
invariant-loop l = l.out.items ≡ l.fn.out.items ++ words l.counter
