use Rattle.std.proofs.Common.{◌≡◌, ◌++◌, drop}
use Rattle.page_media.proofs.copies.copied_entries.Given as goal

abbrev pub invariant-loop-entry : goal.invariant-loop-entry
invariant-loop-entry l = l.copies ++ drop l.entry-index l.entries ≡ l.entries
