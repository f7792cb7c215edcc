use Rattle.std.proofs.Common.{◌≡◌, ◌++◌, ◌∷◌, ◌<◌, ◌≤◌, ◌+◌, [], length, map, get_or, Ok, rules, sym, subst}
use Rattle.css_semantics.specs.Cascade.{ComesTo, Goes}
use Rattle.viz_base.specs.Answers.{FailsWith}
use Rattle.css_cascade.specs.Faults.{ByValue, refusal_of}
use Rattle.css_cascade.specs.steps.Trimming.{rules_of}
use Rattle.css_cascade.proofs.Walks.{ReachedNodes, nodes_more, nodes_refusal, nodes_end}
use Rattle.css_cascade.proofs.cascading.cascade_nodes.Goals as goal

pub returns-in_err-settings : goal.returns-in_err-settings
returns-in_err-settings c =
    let within : c.loop-at.at < length c.args.page.now.nodes = rw c.as_slice-nodes.ensures at c.loop-at-test.true in
    let h = subst (λ n. FailsWith (refusal_of c.in_err-settings.field-0.0) (ByValue n (ComesTo c.args.page.now.nodes (map rules_of c.args.rulesets.now) c.loop-at.standings.items n c.index-nodes-at.result))) c.in_ok-number.ensures
    (subst (λ ss. FailsWith (refusal_of c.in_err-settings.field-0.0) (ByValue c.in_ok-number.number (ComesTo c.args.page.now.nodes (map rules_of c.args.rulesets.now) ss c.in_ok-number.number c.index-nodes-at.result))) c.as_slice.ensures.value c.in_err-settings.ensures) in
    let k : FailsWith (refusal_of c.in_err-settings.field-0.0) (Goes c.args.page.now.nodes (map rules_of c.args.rulesets.now) [] [] c.args.page.now.nodes) =
    nodes_refusal _ _ c.loop-at.at _ _ c.index-nodes-at.result c.in_err-settings.field-0.0 within
    (subst (λ ns. c.index-nodes-at.result ≡ get_or ns c.loop-at.at c.index-nodes-at.result) c.as_slice-nodes.ensures c.index-nodes-at.is) c.loop-at.invariant h in
    search rules

pub loop-at-preserved : goal.loop-at-preserved
loop-at-preserved c =
    let within : c.loop-at.at < length c.args.page.now.nodes = rw c.as_slice-nodes.ensures at c.loop-at-test.true in
    let h = subst (λ n. ComesTo c.args.page.now.nodes (map rules_of c.args.rulesets.now) c.loop-at.standings.items n c.index-nodes-at.result (Ok (c.in_ok-settings.settings, c.in_ok-settings.standing))) c.in_ok-number.ensures
    (subst (λ ss. ComesTo c.args.page.now.nodes (map rules_of c.args.rulesets.now) ss c.in_ok-number.number c.index-nodes-at.result (Ok (c.in_ok-settings.settings, c.in_ok-settings.standing))) c.as_slice.ensures.value c.in_ok-settings.ensures) in
    subst (λ ss. ReachedNodes c.args.page.now.nodes (map rules_of c.args.rulesets.now) (c.loop-at.at + 1) ss c.push-in-loop-at.new.self) (sym c.in_ok-push.ensures.items)
    (subst (λ ws. ReachedNodes c.args.page.now.nodes (map rules_of c.args.rulesets.now) (c.loop-at.at + 1) (c.loop-at.standings.items ++ c.in_ok-settings.standing ∷ []) ws) (sym c.in_ok-push-2.ensures.ok)
    (nodes_more _ _ c.loop-at.at _ _ c.index-nodes-at.result c.in_ok-settings.settings c.in_ok-settings.standing within
    (subst (λ ns. c.index-nodes-at.result ≡ get_or ns c.loop-at.at c.index-nodes-at.result) c.as_slice-nodes.ensures c.index-nodes-at.is) c.loop-at.invariant h))

pub returns : goal.returns
returns c = let past : length c.args.page.now.nodes ≤ c.loop-at.at = rw c.as_slice-nodes.ensures at c.loop-at-test.false in
    nodes_end _ _ c.loop-at.at _ _ past c.loop-at.invariant
