use Rattle.std.proofs.Common.{◌≡◌, ◌≤◌, drop, length}
use Rattle.std.specs.List.{flat_map}
use Rattle.page_media.specs.Features.{asked_by_entry, noted_all}
use Rattle.page_media.proofs.noting.note_list.Given as goal

abbrev pub invariant-loop-entry : goal.invariant-loop-entry
invariant-loop-entry l = record {
  rest : noted_all l.known (flat_map asked_by_entry (drop l.entry-index l.entries)) ≡ noted_all l.fn.known (flat_map asked_by_entry l.entries);
  few : length l.known ≤ 16;
}
