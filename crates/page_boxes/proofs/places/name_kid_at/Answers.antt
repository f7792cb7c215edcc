use Rattle.std.proofs.Common.{◌∙◌, slice_set, ap, arith}
use Rattle.page_boxes.proofs.Lists.{set_with_kid, past_with_kid}
use Rattle.page_boxes.proofs.places.name_kid_at.Goals as goal

pub returns-in_ok-add_kid : goal.returns-in_ok-add_kid
returns-in_ok-add_kid c =
    ap (λ b. slice_set c.args.boxes.now.items c.args.place b) c.in_ok-add_kid.ensures
    ∙ set_with_kid c.args.place c.args.kid c.args.boxes.now.items c.index_mut.result.now (omega arith) c.index_mut.ensures.value

pub returns-else-place-len : goal.returns-else-place-len
returns-else-place-len c = past_with_kid c.args.place c.args.kid c.args.boxes.now.items (omega arith)
