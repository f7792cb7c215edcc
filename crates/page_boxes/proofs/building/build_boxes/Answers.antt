use Rattle.std.proofs.Common.{◌≡◌, ◌∙◌, List, rules, ap, sym, slice_get}
use Rattle.viz_base.specs.declared.trees.BoxNode.{BoxNode}
use Rattle.viz_base.specs.Answers.{FailsWith}
use Rattle.layout_semantics.specs.BoxTrees.{tree_parents}
use Rattle.page_boxes.specs.Trees.{page_tree, refusal_named}
use Rattle.page_boxes.proofs.Together.{fails_far, far_eq, keeps_facts, passes}
use Rattle.page_boxes.proofs.building.build_boxes.Goals as goal

pub returns-in_err-boxes : goal.returns-in_err-boxes
returns-in_err-boxes c =
    let k : FailsWith (refusal_named c.in_err-boxes.field-0.0) (λ given. page_tree c.args.page.now.nodes c.args.styles.now c.args.fonts.now ≡ given) = c.in_err-boxes.ensures c.args.fonts.now in
    search rules

pub returns-in-Some : goal.returns-in-Some
returns-in-Some c =
    let nodes = c.args.page.now.nodes in
    let styles = c.args.styles.now in
    fails_far nodes styles c.args.fonts.now c.in-Some.node c.in_ok-boxes.ensures.no_blocks c.in_ok-boxes.ensures.no_letters c.in_ok-boxes.ensures.few
    (sym c.in-Some.is ∙ (c.in_ok-node.ensures
    ∙ far_eq nodes styles c.args.fonts.now c.args.page.now.ok c.requires.styled c.in_ok-boxes.ensures.no_blocks c.in_ok-boxes.boxes c.in_ok-used.used c.in_ok-parents.parents c.in_ok-boxes.ensures.boxes c.in_ok-used.ensures (c.in_ok-parents.ensures ∙ ap tree_parents c.as_slice.ensures)))

pub words_of-requires : goal.words_of-requires
words_of-requires c =
    let nodes = c.args.page.now.nodes in
    let styles = c.args.styles.now in
    let facts = keeps_facts nodes styles c.args.fonts.now c.args.page.now.ok c.requires.styled c.in_ok-boxes.ensures.no_blocks c.in_ok-boxes.boxes c.in_ok-used.used c.in_ok-fonts.fonts c.in_ok-parents.parents
    c.in_ok-boxes.ensures.boxes c.in_ok-used.ensures (c.in_ok-fonts.ensures ∙ c.as_slice-2.ensures) (c.in_ok-parents.ensures ∙ ap tree_parents c.as_slice.ensures) in
    λ at b is. (facts.each at b (sym (ap (λ (l : List BoxNode). slice_get l at) c.as_slice-3.ensures) ∙ is)).characters

pub invariant_of-result : goal.invariant_of-result
invariant_of-result c =
    let nodes = c.args.page.now.nodes in
    let styles = c.args.styles.now in
    record {
      ok = keeps_facts nodes styles c.args.fonts.now c.args.page.now.ok c.requires.styled c.in_ok-boxes.ensures.no_blocks c.in_ok-boxes.boxes c.in_ok-used.used c.in_ok-fonts.fonts c.in_ok-parents.parents
          c.in_ok-boxes.ensures.boxes c.in_ok-used.ensures (c.in_ok-fonts.ensures ∙ c.as_slice-2.ensures) (c.in_ok-parents.ensures ∙ ap tree_parents c.as_slice.ensures);
      kept = cc (c.in_ok-words.ensures, c.as_slice-3.ensures, c.as_slice-4.ensures, c.as_slice-5.ensures);
    }

pub returns : goal.returns
returns c =
    let nodes = c.args.page.now.nodes in
    let styles = c.args.styles.now in
    passes nodes styles c.args.fonts.now c.in_ok-boxes.ensures.no_blocks c.in_ok-boxes.ensures.no_letters c.in_ok-boxes.ensures.few
    (sym c.in_default.is ∙ (c.in_ok-node.ensures
    ∙ far_eq nodes styles c.args.fonts.now c.args.page.now.ok c.requires.styled c.in_ok-boxes.ensures.no_blocks c.in_ok-boxes.boxes c.in_ok-used.used c.in_ok-parents.parents c.in_ok-boxes.ensures.boxes c.in_ok-used.ensures (c.in_ok-parents.ensures ∙ ap tree_parents c.as_slice.ensures)))
    c.in_ok-boxes.boxes c.in_ok-used.used c.in_ok-fonts.fonts c.in_ok-parents.parents
    c.in_ok-boxes.ensures.boxes c.in_ok-used.ensures (c.in_ok-fonts.ensures ∙ c.as_slice-2.ensures) (c.in_ok-parents.ensures ∙ ap tree_parents c.as_slice.ensures)
