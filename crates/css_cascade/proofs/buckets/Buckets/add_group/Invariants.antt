use Rattle.std.proofs.Common.{◌≡◌, ◌++◌, List, length, drop, map}
use Rattle.viz_base.specs.declared.nodes.Node.{Node}
use Rattle.css_cascade.specs.steps.Buckets.{AllStand, Numbered, numbered}
use Rattle.css_cascade.specs.steps.Present.{present_in}
use Rattle.css_cascade.specs.steps.Trying.{StandFor}
use Rattle.css_cascade.proofs.buckets.Buckets.add_group.Given as goal

abbrev pub invariant-loop-ranked : goal.invariant-loop-ranked
invariant-loop-ranked l =
    (length l.self.named.items ≡ 8191)
    × ((nodes : List Node) (all : List Numbered) → l.present ≡ present_in nodes → StandFor nodes (map numbered l.initial.self.candidates.items) all → (more : List Numbered) × StandFor nodes (map numbered l.self.candidates.items) more × (more ++ map (λ r. (l.rules, r)) (drop l.ranked-index l.group) ≡ all ++ map (λ r. (l.rules, r)) l.group))
    × (AllStand l.initial.self → AllStand l.self)
