use Rattle.std.proofs.Common.{◌≡◌, ◌<◌, ◌+◌, ◌∷◌, ◌++◌, [], List, Option, length, get_or, slice_get, map, Some, sym, ap, ◌∙◌, subst}
use Rattle.std.proofs.lemmas.Option.{slice_get-get_or}
use Rattle.viz_base.specs.declared.nodes.Node.{Node}
use Rattle.viz_base.specs.declared.settings.Setting.{Setting}
use Rattle.css_cascade.specs.declared.beside.Refused.{Refused}
use Rattle.css_cascade.specs.steps.Beside.{AreBesideTo, IsBeside}
use Rattle.css_cascade.specs.steps.Trimming.{rules_of}
use Rattle.css_cascade.proofs.Besides.{beside_more}
use Rattle.css_cascade.proofs.beside.beside_nodes.Goals as goal

pub loop-at-preserved : goal.loop-at-preserved
loop-at-preserved c =
    let nodes = c.args.page.now.nodes in
    let rulesets = map rules_of c.args.rulesets.now in
    let node : Node = c.index-nodes-at.result in
    let at = c.loop-at.at in
    let within : at < length nodes = rw c.as_slice-nodes.ensures at c.loop-at-test.true in
    let is : node ≡ get_or nodes at node = subst (λ ns. node ≡ get_or ns at node) c.as_slice-nodes.ensures c.index-nodes-at.is in
    let here : slice_get nodes at ≡ Some node = slice_get-get_or nodes at node within ∙ ap Some (sym is) in
    let come : IsBeside nodes rulesets at node.body c.in_ok-settings.settings c.in_ok-settings.named =
    subst (λ n. IsBeside nodes rulesets n node.body c.in_ok-settings.settings c.in_ok-settings.named) c.in_ok-number.ensures c.in_ok-settings.ensures in
    let more = beside_more nodes rulesets at node c.loop-at.winners c.loop-at.refused.items c.in_ok-settings.settings c.in_ok-settings.named here c.loop-at.invariant come in
    subst (λ (ws : List (List Setting)). AreBesideTo nodes rulesets (at + 1) ws c.push-in-loop-at.new.self.items) (sym c.in_ok-push.ensures.ok)
    (subst (λ (rs : List (Option Refused)). AreBesideTo nodes rulesets (at + 1) (c.loop-at.winners ++ c.in_ok-settings.settings ∷ []) rs) (sym c.in_ok-push-2.ensures.items) more)
