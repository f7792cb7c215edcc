use Rattle.std.proofs.Common.{◌≡◌, ◌++◌, drop, None}
use Rattle.std.specs.Prelude.{replicate}
use Rattle.page_boxes.specs.Seen.{all_seen}
use Rattle.page_boxes.specs.steps.Leads.{leads_walk}
use Rattle.page_boxes.proofs.leads.leads_by.Given as goal

abbrev pub invariant-loop-at : goal.invariant-loop-at
invariant-loop-at l = l.leads.items ++ leads_walk l.led.items l.blocks l.ahead l.at (all_seen (drop l.at l.parts)) ≡ leads_walk (replicate l.nodes None) l.blocks l.ahead 0 (all_seen l.parts)
