use Rattle.std.proofs.Common.{◌≡◌, ◌+◌, true, length, ap, sym, ◌∙◌, if◌then◌else◌}
use Rattle.page_boxes.specs.Seen.{seen}
use Rattle.page_boxes.specs.steps.Places.{begins}
use Rattle.page_boxes.proofs.Lists.{length_with_box}
use Rattle.page_boxes.proofs.places.add_anonymous.Goals as goal

pub returns-in_ok-add_box-clause-count : goal.returns-in_ok-add_box-clause-count
returns-in_ok-add_box-clause-count c =
    let yes : begins (seen c.args.part.now) c.args.lead ≡ true = sym c.begins.ensures ∙ c.if-begins.true in
    ap length c.in_ok-add_box.ensures ∙ (length_with_box c.args.boxes.now.items _ ∙ ap (λ b. length c.args.boxes.now.items + (if b then 1 else 0)) (sym yes))
