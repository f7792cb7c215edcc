use Rattle.std.proofs.Common.{◌≡◌, ◌+◌, [], length, drop}
use Rattle.std.specs.Prelude.{replicate}
use Rattle.page_boxes.specs.Seen.{all_seen}
use Rattle.page_boxes.specs.steps.Places.{count_walk, places_walk, with_all}
use Rattle.page_boxes.proofs.places.boxes_of.Given as goal

abbrev pub invariant-loop-at : goal.invariant-loop-at
invariant-loop-at l = (with_all l.boxes.items (places_walk l.places.items (length l.boxes.items) l.leads l.at (all_seen (drop l.at l.parts))) ≡ with_all [] (places_walk (replicate l.nodes 0) 0 l.leads 0 (all_seen l.parts))) × (length l.boxes.items + count_walk l.leads l.at (all_seen (drop l.at l.parts)) ≡ count_walk l.leads 0 (all_seen l.parts))
