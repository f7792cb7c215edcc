use Rattle.std.proofs.Common.{◌≡◌, ◌≤◌, drop, length}
use Rattle.page_media.specs.Features.{known_behind}
use Rattle.page_media.proofs.noting.note_rules.Given as goal

abbrev pub invariant-loop-rule : goal.invariant-loop-rule
invariant-loop-rule l = record {
  rest : known_behind l.known (drop l.rule-index l.rules) ≡ known_behind l.fn.known l.rules;
  few : length l.known ≤ 16;
}
