use Rattle.std.proofs.Common.{◌≡◌, ◌≤◌, drop, length}
use Rattle.page_media.specs.Features.{noted_all}
use Rattle.page_media.proofs.noting.note_all.Given as goal

abbrev pub invariant-loop-feature : goal.invariant-loop-feature
invariant-loop-feature l = record {
  rest : noted_all l.known (drop l.feature-index l.features) ≡ noted_all l.fn.known l.features;
  few : length l.known ≤ 16;
}
