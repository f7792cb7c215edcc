use Rattle.std.proofs.Common.{◌≡◌, drop}
use Rattle.std.specs.List.{list_any}
use Rattle.page_media.specs.Queries.{entry_met}
use Rattle.page_media.specs.Parts.{sign_of}
use Rattle.page_media.proofs.choosing.one_met.Given as goal

abbrev pub invariant-loop-entry : goal.invariant-loop-entry
invariant-loop-entry l =
    list_any (entry_met (sign_of l.features l.signs)) (drop l.entry-index l.entries)
    ≡ list_any (entry_met (sign_of l.features l.signs)) l.entries
