use Rattle.std.proofs.Common.{◌≡◌, ◌<◌, ◌++◌, ◌∷◌, [], Some, ◌∙◌, ap, length, arith}
use Rattle.std.specs.Prelude.{map}
use Rattle.std.proofs.lemmas.List.{length-map, map-append}
use Rattle.serde_json.specs.Data as json
use Rattle.serde_json.specs.View.{view}
use Rattle.page_json.specs.Seen.{seen}
use Rattle.page_json.specs.Documents.{listed}
use Rattle.page_json.proofs.ListedLemmas.{each_listed, each_turn, each_end, child_less}
use Rattle.page_json.proofs.places.+add.Goals as goal

pub add-requires : goal.add-requires
add-requires t c =
    let less : json.depth (view c.child-item.result) < json.depth (view c.args.value.now) =
    child_less (view c.args.value.now) c.children_of-child-items.result.now c.loop-child.child-index c.child-item.result
    c.children_of-child-items.ensures c.loop-child-test.true c.child-item.is in
    (omega arith, tt)

pub loop-child-preserved : goal.loop-child-preserved
loop-child-preserved t c =
    each_turn (Some c.in_ok-at.at) c.in_ok-below.below (length c.loop-child.places.items) (length c.add.new.places.items)
    (map seen c.loop-child.places.items) (map seen c.add.new.places.items)
    (map seen c.push.new.self.items ++ each_listed (map view c.children_of-child-items.result.now) (Some c.in_ok-at.at) c.in_ok-below.below (length c.push.new.self.items))
    c.children_of-child-items.result.now c.loop-child.child-index c.child-item.result
    (length-map c.loop-child.places.items seen) (length-map c.add.new.places.items seen)
    c.loop-child-test.true c.child-item.is c.in_ok-add.ensures c.loop-child.invariant

pub returns : goal.returns
returns t c =
    let pushed : map seen c.push.new.self.items ≡ map seen c.args.places.now.items ++ _ ∷ [] =
    ap (map seen) c.in_ok-push.ensures.items ∙ map-append seen c.args.places.now.items _ in
    each_end (view c.args.value.now) c.args.parent c.args.depth c.in_ok-below.below c.in_ok-at.at (length c.loop-child.places.items) (length c.push.new.self.items)
    (map seen c.args.places.now.items) (map seen c.push.new.self.items) (map seen c.loop-child.places.items) c.children_of-child-items.result.now c.loop-child.child-index
    pushed (length-map c.push.new.self.items seen) (omega (arith, length-map c.args.places.now.items seen)) c.in_ok-below.ensures c.children_of-child-items.ensures c.loop-child-test.false c.loop-child.invariant
    ∙ ap (λ n. map seen c.args.places.now.items ++ listed (view c.args.value.now) c.args.parent c.args.depth n) (length-map c.args.places.now.items seen)
