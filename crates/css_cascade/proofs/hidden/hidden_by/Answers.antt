use Rattle.std.proofs.Common.{◌≡◌, ◌<◌, ◌+◌, ◌∷◌, ◌++◌, Bool, [], true, false, ◌||◌, length, get_or, slice_get, map, Some, rules, sym, ap, ◌∙◌, subst}
use Rattle.std.proofs.lemmas.Option.{slice_get-get_or}
use Rattle.viz_base.specs.declared.nodes.Node.{Node}
use Rattle.css_cascade.specs.steps.Beside.{AreHiddenTo, HidesHere, is_inside_hidden}
use Rattle.css_cascade.specs.steps.Trimming.{rules_of}
use Rattle.css_cascade.proofs.Hiding.{hidden_more}
use Rattle.css_cascade.proofs.hidden.hidden_by.Goals.{then-inside, else-inside}
use Rattle.css_cascade.proofs.hidden.hidden_by.Goals as goal

pub loop-at-preserved : goal.loop-at-preserved
loop-at-preserved c texts sheets read =
    let nodes = c.args.page.now.nodes in
    let node : Node = c.index-nodes-at.result in
    let at = c.loop-at.at in
    let hidden = c.loop-at.hidden.items in
    let within : at < length nodes = rw c.as_slice-nodes.ensures at c.loop-at-test.true in
    let is : node ≡ get_or nodes at node = subst (λ ns. node ≡ get_or ns at node) c.as_slice-nodes.ensures c.index-nodes-at.is in
    let here : slice_get nodes at ≡ Some node = slice_get-get_or nodes at node within ∙ ap Some (sym is) in
    let hides : HidesHere nodes (map rules_of c.args.rulesets.now) at node.body c.in_ok-here.here =
    subst (λ n. HidesHere nodes (map rules_of c.args.rulesets.now) n node.body c.in_ok-here.here) c.in_ok-number.ensures c.in_ok-here.ensures in
    let inside : c.is_inside_hidden-inside.result ≡ is_inside_hidden hidden node.parent = c.is_inside_hidden-inside.ensures ∙ ap (λ hs. is_inside_hidden hs node.parent) c.deref.ensures.value in
    let pushed : c.if-inside.push ≡ (is_inside_hidden hidden node.parent || c.in_ok-here.here) =
    elim c.if-inside.branch [
      | then-inside w ↦ w.push-is ∙ w.if-inside.true ∙ ap (λ x. x || c.in_ok-here.here) (sym w.if-inside.true ∙ inside)
      | else-inside w ↦ w.push-is ∙ ap (λ x. x || c.in_ok-here.here) (sym w.if-inside.false ∙ inside)
    ] in
    subst (AreHiddenTo nodes texts sheets (at + 1)) (sym c.in_ok-push.ensures.items)
    (hidden_more nodes texts sheets (map rules_of c.args.rulesets.now) c.args.page.now.ok read at node here hidden (c.loop-at.invariant texts sheets read) c.in_ok-here.here c.if-inside.push hides pushed)
