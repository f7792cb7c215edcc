use Rattle.std.proofs.Common.{◌≡◌, ◌≤◌, drop, length}
use Rattle.page_media.specs.Features.{features_of, known_behind_sheets}
use Rattle.page_media.proofs.noting.features.Given as goal

abbrev pub invariant-loop-number : goal.invariant-loop-number
invariant-loop-number l = record {
  rest : known_behind_sheets l.known l.number (drop l.number l.own) ≡ features_of l.fn.sheets;
  few : length l.known ≤ 16;
}
