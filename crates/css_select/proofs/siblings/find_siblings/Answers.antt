use Rattle.std.proofs.Common.{◌≡◌, ◌+◌, ◌<◌, ◌∙◌, None, Some, length, get_or, slice_get, refl, sym, ap, subst, length-append}
use Rattle.std.proofs.lemmas.Option.{slice_get_read}
use Rattle.css_select.specs.steps.Trees.{AreLast, AreSiblingsTo}
use Rattle.css_select.proofs.NodeByNode.{siblings_more}
use Rattle.css_select.proofs.siblings.find_siblings.Goals as goal

pub keep_last-requires-clause-last : goal.keep_last-requires-clause-last
keep_last-requires-clause-last c = subst (λ n. AreLast c.args.page.now.nodes n c.loop-at.last.items) (sym c.in_ok-place.ensures.is) c.loop-at.invariant.2

pub loop-at-preserved : goal.loop-at-preserved
loop-at-preserved c =
    let nodes = c.args.page.now.nodes in
    let at = c.loop-at.at in
    let node = c.index-nodes-at.result in
    let within : at < length nodes = rw c.as_slice-nodes.ensures at c.loop-at-test.true in
    let here : slice_get nodes at ≡ Some node = slice_get_read nodes (length nodes) at node refl within (subst (λ ns. node ≡ get_or ns at node) c.as_slice-nodes.ensures c.index-nodes-at.is) in (
      subst (λ xs. length xs ≡ at + 1) (sym c.in_ok-push.ensures.items) (simp length-append (ap (λ n. n + 1) c.loop-at.invariant.0)),
      c.keep_last.ensures.len,
      subst (λ n. AreLast nodes (n + 1) c.keep_last.new.last.items) c.in_ok-place.ensures.is c.keep_last.ensures.last,
      subst (AreSiblingsTo nodes (at + 1)) (sym c.in_ok-push.ensures.items)
          (siblings_more nodes at node c.loop-at.last.items c.loop-at.previous.items c.last_of.result here c.loop-at.invariant.0 c.loop-at.invariant.2 (λ p e. c.last_of.ensures p e ∙ ap (λ xs. get_or xs p None) c.deref.ensures.value) c.loop-at.invariant.3),
    )
