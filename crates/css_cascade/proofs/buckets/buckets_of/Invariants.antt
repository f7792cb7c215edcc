use Rattle.std.proofs.Common.{◌≡◌, ◌++◌, List, length, drop, map}
use Rattle.css_cascade.specs.steps.Buckets.{AllStand, Numbered, numbered, numbered_from}
use Rattle.css_cascade.specs.steps.Present.{present_in}
use Rattle.css_cascade.specs.steps.Trimming.{rules_of}
use Rattle.css_cascade.specs.steps.Trying.{StandFor}
use Rattle.css_cascade.proofs.buckets.buckets_of.Given as goal

abbrev pub invariant-loop-rules : goal.invariant-loop-rules
invariant-loop-rules l =
    (length l.buckets.named.items ≡ 8191)
    × ((all : List Numbered) × StandFor l.page.nodes (map numbered l.buckets.candidates.items) all × (all ++ numbered_from l.rules (map rules_of (drop l.rules l.rulesets)) ≡ numbered_from 0 (map rules_of l.rulesets)))
    × AllStand l.buckets
    × (l.present.items ≡ present_in l.page.nodes)
