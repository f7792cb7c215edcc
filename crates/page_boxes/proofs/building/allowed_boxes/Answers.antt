use Rattle.std.proofs.Common.{◌≡◌, ◌∙◌, length, ap, sym}
use Rattle.layout_semantics.specs.BoxTrees.{page_parts}
use Rattle.layout_semantics.specs.Parts.{shown_parts}
use Rattle.layout_semantics.specs.Refusals.{blocks_in_inlines, right_to_left_letters}
use Rattle.layout_semantics.specs.WhiteSpace.{collapsed}
use Rattle.layout_laws.proofs.TreeFacts.{tree_styles_length}
use Rattle.page_boxes.specs.Seen.{all_seen}
use Rattle.page_boxes.specs.Trees.{refusal_named}
use Rattle.page_boxes.proofs.Together.{fails_judged, placed_allowed}
use Rattle.page_boxes.proofs.building.allowed_boxes.Goals as goal

pub parts_of-requires-clause-styled : goal.parts_of-requires-clause-styled
parts_of-requires-clause-styled c = ap length c.requires.used ∙ tree_styles_length c.args.page.now.nodes c.args.styles.now c.requires.styled

pub returns : goal.returns
returns c =
    let nodes = c.args.page.now.nodes in
    let styles = c.args.styles.now in
    let same : all_seen c.deref.result.now ≡ page_parts nodes styles = ap all_seen c.deref.ensures.value ∙ (c.in_ok-parts.ensures ∙ ap (λ us. collapsed (shown_parts nodes us)) c.requires.used) in
    λ fonts. fails_judged nodes styles fonts (refusal_named c.in-Err.fault) (blocks_in_inlines (all_seen c.deref.result.now)) (right_to_left_letters (all_seen c.deref.result.now))
    (ap blocks_in_inlines same) (ap right_to_left_letters same) c.in-Err.ensures

pub returns-in-Ok : goal.returns-in-Ok
returns-in-Ok c =
    let nodes = c.args.page.now.nodes in
    let styles = c.args.styles.now in
    let same : all_seen c.deref.result.now ≡ page_parts nodes styles = ap all_seen c.deref.ensures.value ∙ (c.in_ok-parts.ensures ∙ ap (λ us. collapsed (shown_parts nodes us)) c.requires.used) in
    placed_allowed nodes styles c.placed.result (sym (ap blocks_in_inlines same) ∙ c.in-Ok.ensures.0) (sym (ap right_to_left_letters same) ∙ c.in-Ok.ensures.1) c.placed.ensures
