use Rattle.std.proofs.Common.{◌≡◌, drop}
use Rattle.std.specs.Prelude.{map}
use Rattle.serde_json.specs.Find.{as_str}
use Rattle.serde_json.specs.View.{view}
use Rattle.page_json.specs.Values.{each_of}
use Rattle.page_json.proofs.Fronts.{after}
use Rattle.page_json.proofs.jobs.all_sheets.Given as goal

abbrev pub invariant-loop-place : goal.invariant-loop-place
invariant-loop-place l = after l.sheets (each_of as_str l.place (map view (drop l.place l.values))) ≡ each_of as_str 0 (map view l.values)
