use Rattle.std.proofs.Common.{◌≡◌, ◌∙◌, length, refl, ap, arith, lt-ltb}
use Rattle.std.proofs.lemmas.Bool.{le-ltb}
use Rattle.std.proofs.lemmas.List.{length-map}
use Rattle.layout_semantics.specs.BoxTrees.{page_boxes, tree_styles}
use Rattle.page_boxes.specs.Seen.{all_seen, seen}
use Rattle.page_boxes.proofs.Together.{boxes_eq, count_eq, few_parts, leads_eq}
use Rattle.page_boxes.proofs.building.placed.Goals as goal

pub count-requires : goal.count-requires
count-requires c =
    let few = few_parts c.args.page.now.nodes (tree_styles c.args.page.now.nodes c.args.styles.now) in
    let same = ap length c.requires.parts in
    let size = length-map c.args.parts.now seen in
    omega (arith, few, same, size, c.requires.few)

pub returns-then-count-gt-MOST_BOXES : goal.returns-then-count-gt-MOST_BOXES
returns-then-count-gt-MOST_BOXES c =
    let nodes = c.args.page.now.nodes in
    let styles = c.args.styles.now in
    let leads = c.in_ok-leads.ensures ∙ leads_eq nodes styles c.args.page.now.ok c.len-nodes.result (all_seen c.args.parts.now) c.len-nodes.ensures c.requires.parts in
    let counted : c.count.result ≡ length (page_boxes nodes styles) = c.count.ensures ∙ count_eq nodes styles c.args.page.now.ok c.deref.result.now (all_seen c.args.parts.now) (c.deref.ensures.value ∙ leads) c.requires.parts in
    (refl, lt-ltb 16384 (length (page_boxes nodes styles)) (let many = c.if-count-gt-MOST_BOXES.true in omega (arith, counted, many)))

pub returns : goal.returns
returns c =
    let nodes = c.args.page.now.nodes in
    let styles = c.args.styles.now in
    let leads = c.in_ok-leads.ensures ∙ leads_eq nodes styles c.args.page.now.ok c.len-nodes.result (all_seen c.args.parts.now) c.len-nodes.ensures c.requires.parts in
    let counted : c.count.result ≡ length (page_boxes nodes styles) = c.count.ensures ∙ count_eq nodes styles c.args.page.now.ok c.deref.result.now (all_seen c.args.parts.now) (c.deref.ensures.value ∙ leads) c.requires.parts in (
      c.in_ok-boxes_of.ensures ∙ boxes_eq nodes styles c.args.page.now.ok c.len-nodes.result c.deref-2.result.now (all_seen c.args.parts.now) c.len-nodes.ensures (c.deref-2.ensures.value ∙ leads) c.requires.parts,
      le-ltb 16384 (length (page_boxes nodes styles)) (let few = c.if-count-gt-MOST_BOXES.false in omega (arith, counted, few)),
    )
