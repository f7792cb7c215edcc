use Rattle.std.proofs.Common.{◌≡◌, drop}
use Rattle.std.specs.Prelude.{map, max}
use Rattle.page_json.specs.Documents.{depth_of}
use Rattle.page_json.specs.Seen.{seen}
use Rattle.page_json.proofs.places.depth_of.Given as goal

abbrev pub invariant-loop-place : goal.invariant-loop-place
invariant-loop-place l = max (depth_of (map seen (drop l.place-index l.places))) l.depth ≡ depth_of (map seen l.places)
