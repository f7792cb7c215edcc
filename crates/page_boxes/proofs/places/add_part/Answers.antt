use Rattle.std.proofs.Common.{◌≡◌, length, ap, ◌∙◌, slice_set, arith}
use Rattle.page_boxes.specs.Seen.{seen}
use Rattle.page_boxes.specs.steps.Places.{outer_in, own_place_at, place_around}
use Rattle.page_boxes.proofs.Lists.{own_place_most, added_part}
use Rattle.page_boxes.proofs.places.add_part.Goals as goal

pub overflow_cast-place : goal.overflow_cast-place
overflow_cast-place c =
    let most = own_place_most (length c.args.boxes.now.items) (seen c.args.part.now) c.args.lead in
    omega (arith, most, c.in_ok-add_anonymous.ensures.count, c.len-place.ensures, c.requires)

pub add_box-requires : goal.add_box-requires
add_box-requires c =
    let most = own_place_most (length c.args.boxes.now.items) (seen c.args.part.now) c.args.lead in
    omega (arith, most, c.in_ok-add_anonymous.ensures.count, c.requires)

pub returns-clause-boxes : goal.returns-clause-boxes
returns-clause-boxes c =
    let place : c.len-place.result ≡ own_place_at (length c.args.boxes.now.items) (seen c.args.part.now) c.args.lead = omega (arith, c.in_ok-add_anonymous.ensures.count, c.len-place.ensures) in
    added_part c.args.boxes.now.items _ _ c.args.places.now.items c.put_place.new.places.items (seen c.args.part.now) c.args.lead _ _ _
    c.in_ok-add_anonymous.ensures.boxes (c.place_around-around.ensures ∙ ap (λ ps. place_around ps c.args.part.now.parent) c.deref.ensures.value) (c.put_place.ensures ∙ ap (λ n. slice_set c.args.places.now.items c.args.part.now.node n) place) (c.outer_in-outer.ensures ∙ ap (λ ps. outer_in ps c.place_around-around.result c.args.lead) c.deref-2.ensures.value) c.in_ok-own_box.ensures c.in_ok-add_box.ensures

pub returns-clause-places : goal.returns-clause-places
returns-clause-places c =
    let place : c.len-place.result ≡ own_place_at (length c.args.boxes.now.items) (seen c.args.part.now) c.args.lead = omega (arith, c.in_ok-add_anonymous.ensures.count, c.len-place.ensures) in
    c.put_place.ensures ∙ ap (λ n. slice_set c.args.places.now.items c.args.part.now.node n) place
