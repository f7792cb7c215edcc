use Rattle.std.proofs.Common.{◌≡◌, ◌++◌, drop, map}
use Rattle.page_media.specs.Queries.{met_sheet}
use Rattle.page_media.specs.Parts.{sign_of}
use Rattle.page_media.proofs.choosing.met_authors.Given as goal

abbrev pub invariant-loop-sheet : goal.invariant-loop-sheet
invariant-loop-sheet l =
    l.met ++ map (met_sheet (sign_of l.features l.signs)) (drop l.sheet-index l.sheets)
    ≡ l.fn.met ++ map (met_sheet (sign_of l.features l.signs)) l.sheets
