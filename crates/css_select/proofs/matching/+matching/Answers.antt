use Rattle.std.proofs.Common.{reverse}
use Rattle.css_semantics.specs.Matching.{further}
use Rattle.viz_base.specs.declared.selectors.Join.TheVariants.{Child, Next}
use Rattle.css_select.specs.declared.matching.Outcome.TheVariants.{Failed}
use Rattle.css_select.proofs.Tries.{around_out, at_parts, left_further, none_above, out_child, out_next, out_no_parent, out_no_sibling}
use Rattle.css_select.proofs.matching.+matching.Goals as goal

pub match_around-loop-parent-preserved : goal.match_around-loop-parent-preserved
match_around-loop-parent-preserved t c = record {
  left = left_further c.args.page.now.nodes (reverse c.args.parts.now) c.args.node c.loop-parent.at c.in-Some.parent c.loop-parent.invariant.left c.in-Some.ensures.is c.in-Failed.ensures;
  around = λ top a. c.loop-parent.invariant.around top (further c.in-Some.ensures.is a);
}

pub match_around-returns-in_default-match_parts : goal.match_around-returns-in_default-match_parts
match_around-returns-in_default-match_parts t c =
    around_out c.args.page.now.nodes (reverse c.args.parts.now) c.args.node c.loop-parent.at c.in-Some.parent c.match_parts.result c.in_default-match_parts.not-Failed c.loop-parent.invariant.left c.loop-parent.invariant.around c.in-Some.ensures.is c.match_parts.ensures

pub match_around-returns : goal.match_around-returns
match_around-returns t c = none_above c.args.page.now.nodes (reverse c.args.parts.now) c.args.node c.loop-parent.at c.loop-parent.invariant.left c.in_default.ensures.is

pub match_parts-returns-in-Some-parent_of : goal.match_parts-returns-in-Some-parent_of
match_parts-returns-in-Some-parent_of t c =
    let nodes = c.args.page.now.nodes in
    let before = c.in-Some.before.now in
    let last = c.in-Some.field-0-0.now in
    at_parts nodes c.args.parts.now before last c.args.node c.match_parts.result Child c.in-Some.ensures.cases.0 c.in-Child.is
    (out_child nodes last.1 (reverse before) c.args.node c.in-Some-parent_of.parent c.match_parts.result (c.matches_compound.ensures.0 c.if-not-matches_compound.false) c.in-Some-parent_of.ensures.is c.match_parts.ensures)

pub match_parts-returns-in-None : goal.match_parts-returns-in-None
match_parts-returns-in-None t c =
    let nodes = c.args.page.now.nodes in
    let before = c.in-Some.before.now in
    let last = c.in-Some.field-0-0.now in
    at_parts nodes c.args.parts.now before last c.args.node Failed Child c.in-Some.ensures.cases.0 c.in-Child.is (out_no_parent nodes last.1 (reverse before) c.args.node c.in-None.ensures.is)

pub match_parts-returns-in-Some-previous_sibling : goal.match_parts-returns-in-Some-previous_sibling
match_parts-returns-in-Some-previous_sibling t c =
    let nodes = c.args.page.now.nodes in
    let before = c.in-Some.before.now in
    let last = c.in-Some.field-0-0.now in
    at_parts nodes c.args.parts.now before last c.args.node c.match_parts-in-Some-previous_sibling.result Next c.in-Some.ensures.cases.0 c.in-Next.is
    (out_next nodes last.1 (reverse before) c.args.node c.in-Some-previous_sibling.sibling c.match_parts-in-Some-previous_sibling.result (c.matches_compound.ensures.0 c.if-not-matches_compound.false) c.in-Some-previous_sibling.ensures
    c.match_parts-in-Some-previous_sibling.ensures)

pub match_parts-returns-in-None-previous_sibling : goal.match_parts-returns-in-None-previous_sibling
match_parts-returns-in-None-previous_sibling t c =
    let nodes = c.args.page.now.nodes in
    let before = c.in-Some.before.now in
    let last = c.in-Some.field-0-0.now in
    at_parts nodes c.args.parts.now before last c.args.node Failed Next c.in-Some.ensures.cases.0 c.in-Next.is (out_no_sibling nodes last.1 (reverse before) c.args.node c.in-None-previous_sibling.ensures)
