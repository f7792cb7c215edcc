use Rattle.std.proofs.Common.{◌≡◌, drop}
use Rattle.std.specs.Prelude.{map}
use Rattle.page_json.specs.Values.{each_of}
use Rattle.page_json.specs.Documents.{node_of}
use Rattle.page_json.specs.Seen.{seen}
use Rattle.page_json.proofs.Fronts.{after}
use Rattle.page_json.proofs.jobs.nodes_at.Given as goal

abbrev pub invariant-loop-at : goal.invariant-loop-at
invariant-loop-at l = after l.nodes (each_of node_of l.at (map seen (drop l.at l.places))) ≡ each_of node_of 0 (map seen l.places)
