use Rattle.std.proofs.Common.{◌∙◌, false, ap, sym, replicate}
use Rattle.layout_semantics.specs.Refusals.{blocks_in_inlines, right_to_left_letters}
use Rattle.page_boxes.specs.Seen.{all_seen}
use Rattle.page_boxes.specs.steps.Refusing.{block_in, inline_nodes}
use Rattle.page_boxes.proofs.RefusalSteps.{first_letter}
use Rattle.page_boxes.proofs.Together.{block_first, judged_block, judged_letter, none_at_front, none_mapped}
use Rattle.page_boxes.proofs.building.judge.Goals as goal

pub returns-in-Some : goal.returns-in-Some
returns-in-Some c =
    let parts = all_seen c.args.parts.now in
    let first = block_first c.args.page.now.nodes c.args.styles.now c.args.page.now.ok parts c.requires in
    judged_block (blocks_in_inlines parts) (right_to_left_letters parts) c.in-Some.node
    (sym first ∙ (ap (λ n. block_in (inline_nodes (replicate n false) parts) parts) (sym c.len.ensures) ∙ (sym c.in_ok-node.ensures ∙ c.in-Some.is)))

pub returns-in-Some-right_to_left : goal.returns-in-Some-right_to_left
returns-in-Some-right_to_left c =
    let parts = all_seen c.args.parts.now in
    let first = block_first c.args.page.now.nodes c.args.styles.now c.args.page.now.ok parts c.requires in
    let none = none_mapped (blocks_in_inlines parts) (sym first ∙ (ap (λ n. block_in (inline_nodes (replicate n false) parts) parts) (sym c.len.ensures) ∙ (sym c.in_ok-node.ensures ∙ c.in_default.is))) in
    judged_letter (blocks_in_inlines parts) (right_to_left_letters parts) c.in-Some-right_to_left.found.0 c.in-Some-right_to_left.found.1 none
    (sym (first_letter parts) ∙ sym c.in-Some-right_to_left.ensures)

pub returns : goal.returns
returns c =
    let parts = all_seen c.args.parts.now in
    let first = block_first c.args.page.now.nodes c.args.styles.now c.args.page.now.ok parts c.requires in (
      none_mapped (blocks_in_inlines parts) (sym first ∙ (ap (λ n. block_in (inline_nodes (replicate n false) parts) parts) (sym c.len.ensures) ∙ (sym c.in_ok-node.ensures ∙ c.in_default.is))),
      none_at_front (right_to_left_letters parts) (sym (first_letter parts) ∙ sym c.in_default-right_to_left.ensures),
    )
