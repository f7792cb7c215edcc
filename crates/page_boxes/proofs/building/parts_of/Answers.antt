use Rattle.std.proofs.Common.{◌∙◌, ap, false, length, replicate}
use Rattle.page_boxes.specs.Seen.{all_seen}
use Rattle.page_boxes.specs.steps.Spaces.{spaces_walk}
use Rattle.page_boxes.proofs.NodeSteps.{nodes_walk_is}
use Rattle.page_boxes.proofs.PageSteps.{spaces_are}
use Rattle.page_boxes.proofs.building.parts_of.Goals as goal

pub returns : goal.returns
returns c =
    let nodes = c.args.page.now.nodes in
    let styles = c.args.styles.now in
    c.in_ok-parts.ensures
    ∙ (ap (λ n. spaces_walk (replicate n false) (all_seen c.deref.result.now)) c.len.ensures
    ∙ (ap (λ ps. spaces_walk (replicate (length nodes) false) (all_seen ps)) c.deref.ensures.value
    ∙ (ap (spaces_walk (replicate (length nodes) false)) (c.in_ok-shown.ensures ∙ nodes_walk_is nodes styles c.args.page.now.ok c.requires.styled)
    ∙ spaces_are nodes styles c.args.page.now.ok)))
