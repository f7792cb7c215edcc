use Rattle.std.proofs.Common.{◌≡◌, ◌++◌, Some, drop, length}
use Rattle.std.specs.Prelude.{map}
use Rattle.serde_json.specs.Data as json
use Rattle.serde_json.specs.View.{view}
use Rattle.page_json.specs.Seen.{seen}
use Rattle.page_json.proofs.ListedLemmas.{each_listed}
use Rattle.page_json.proofs.places.+add.Given as goal

abbrev pub decreases-add : goal.decreases-add
decreases-add l = json.depth (view l.value.now)

abbrev pub invariant-loop-child : goal.invariant-loop-child
invariant-loop-child l =
    map seen l.places.items ++ each_listed (map view (drop l.child-index l.child-items)) (Some l.at) l.below (length l.places.items)
    ≡ map seen l.initial.places.items ++ each_listed (map view l.child-items) (Some l.at) l.below (length l.initial.places.items)
