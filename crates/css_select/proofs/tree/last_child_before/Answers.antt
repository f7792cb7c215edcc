use Rattle.std.proofs.Common.{arith}
use Rattle.css_semantics.specs.Matching.{IsChildElement}
use Rattle.css_semantics.proofs.Parents.{child_after}
use Rattle.css_select.proofs.Nodes.{none_step, not_here}
use Rattle.css_select.proofs.tree.last_child_before.Goals as goal

pub returns-then-is_child_element : goal.returns-then-is_child_element
returns-then-is_child_element c = record {
  before = omega (arith, c.loop-at.invariant.within, c.loop-at-test.true);
  is_child = c.is_child_element.ensures.0 c.if-is_child_element.true;
  last = λ m l h k. c.loop-at.invariant.none m (omega arith) h k;
}

pub loop-at-preserved : goal.loop-at-preserved
loop-at-preserved c = record {
  within = omega (arith, c.loop-at.invariant.within);
  none = none_step (IsChildElement c.args.page.now.nodes c.args.parent) c.loop-at.at c.args.node (omega (arith, c.loop-at-test.true)) c.loop-at.invariant.none (not_here c.is_child_element.ensures.1 c.if-is_child_element.false);
}

pub returns : goal.returns
returns c = λ m l h.
    let after = child_after c.args.page.now.nodes c.args.page.now.ok c.args.parent m h.0 in
    c.loop-at.invariant.none m (omega (arith, after, c.loop-at-test.false)) l h
