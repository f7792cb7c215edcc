use Rattle.std.proofs.Common.{◌≡◌, ◌≤◌, ◌+◌, ◌*◌, drop}
use Rattle.page_boxes.specs.Seen.{all_seen}
use Rattle.page_boxes.specs.steps.Places.{count_walk}
use Rattle.page_boxes.proofs.places.count.Given as goal

abbrev pub invariant-loop-at : goal.invariant-loop-at
invariant-loop-at l = (l.boxes + count_walk l.leads l.at (all_seen (drop l.at l.parts)) ≡ count_walk l.leads 0 (all_seen l.parts)) × (l.boxes ≤ 2 * l.at)
