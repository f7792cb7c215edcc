use Rattle.std.proofs.Common.{◌≡◌, ◌<◌, ◌∙◌, sym, subst}
use Rattle.viz_base.specs.declared.nodes.Body.TheVariants as of_body
use Rattle.css_select.proofs.NodeByNode.{child_at, child_kept, no_element, no_parent, parent_within}
use Rattle.css_select.proofs.siblings.keep_last.Goals as goal

pub index_mut-requires : goal.index_mut-requires
index_mut-requires c =
    subst (λ n. c.in-Some.parent < n) (sym (c.args.last.now.ok.0 ∙ c.requires.len))
    (parent_within c.args.page.now.nodes c.args.page.now.ok c.args.at c.in-Some.parent c.args.node.now c.requires.found c.in-Some.is)

pub returns-in-Some-clause-last : goal.returns-in-Some-clause-last
returns-in-Some-clause-last c =
    let nodes = c.args.page.now.nodes in
    let within = parent_within nodes c.args.page.now.ok c.args.at c.in-Some.parent c.args.node.now c.requires.found c.in-Some.is in
    child_kept nodes c.args.at c.in-Some.parent c.args.last.now.items (child_at nodes c.args.at c.in-Some.parent c.args.node.now c.in-Element.field-0 c.requires.found c.in-Some.is c.in-Element.is)
    (subst (λ n. c.in-Some.parent < n) (sym c.requires.len) within) c.requires.last

pub returns-in_default-parent-clause-last : goal.returns-in_default-parent-clause-last
returns-in_default-parent-clause-last c = no_parent c.args.page.now.nodes c.args.at c.args.node.now c.args.last.now.items c.requires.found c.in_default-parent.is c.requires.last

pub returns-in_default-clause-last : goal.returns-in_default-clause-last
returns-in_default-clause-last c =
    no_element c.args.page.now.nodes c.args.at c.args.node.now c.args.last.now.items c.requires.found (λ e k. let both : of_body.Chars c.in_default.field-0 ≡ of_body.Element e = sym c.in_default.is ∙ k in cc) c.requires.last
