-- What the loop over the nodes has made, and what the rest gives behind it.
use Rattle.std.proofs.Common.{◌≡◌, ℕ, ◌+◌, ◌<◌, ◌≤◌, List, [], ◌∷◌, ◌++◌, length, drop, get_or, Result, Ok, Err, sym, ap, subst, length-append}
use Rattle.std.proofs.lemmas.List.{drop_all}
use Rattle.viz_base.specs.declared.nodes.Node.{Node}
use Rattle.viz_base.specs.declared.settings.Setting.{Setting}
use Rattle.css_semantics.specs.declared.claims.Claim.{Claim}
use Rattle.css_semantics.specs.declared.claims.Ruleset.{Ruleset}
use Rattle.css_semantics.specs.declared.claims.Standing.{Standing}
use Rattle.css_semantics.specs.Cascade.{ComesTo, Goes, Fault, selector_at, value_at}
use Rattle.css_cascade.specs.declared.faults.CascadeFault.{CascadeFault}
use Rattle.css_cascade.specs.declared.faults.CascadeFault.TheVariants.{Mem, Selector, Value}
use Rattle.viz_base.specs.Answers.{FailsWith}
use Rattle.viz_base.proofs.ListLemmas.{drop_at}
use Rattle.css_cascade.specs.Faults.{ByValue, refusal_of}

abbrev Answer : Type 0
Answer = Result (List (List Setting)) Fault

pub record ReachedNodes (nodes : List Node) (rulesets : List Ruleset) (at : ℕ) (standings : List Standing) (winners : List (List Setting)) : Type 0 where
  pub count : length winners ≡ at
  pub goes : (answer : Answer) → Goes nodes rulesets standings winners (drop at nodes) answer → Goes nodes rulesets [] [] nodes answer

pub nodes_more : (nodes : List Node) (rulesets : List Ruleset) (at : ℕ) (standings : List Standing) (winners : List (List Setting)) (node : Node) (settings : List Setting) (standing : Standing) → at < length nodes → node ≡ get_or nodes at node → ReachedNodes nodes rulesets at standings winners → ComesTo nodes rulesets standings at node (Ok (settings, standing)) → ReachedNodes nodes rulesets (at + 1) (standings ++ standing ∷ []) (winners ++ settings ∷ [])
nodes_more nodes rulesets at standings winners node settings standing l e r h = record {
  count = simp length-append (ap (λ n. n + 1) r.count);
  goes = λ answer rest. r.goes answer (subst (λ ns. Goes nodes rulesets standings winners ns answer) (sym (drop_at nodes at node l e)) (Goes.goes_on (subst (λ n. ComesTo nodes rulesets standings n node (Ok (settings, standing))) (sym r.count) h) rest));
}

refused_node : (nodes : List Node) (rulesets : List Ruleset) (at : ℕ) (standings : List Standing) (winners : List (List Setting)) (node : Node) (c : Claim) → at < length nodes → node ≡ get_or nodes at node → ReachedNodes nodes rulesets at standings winners → ComesTo nodes rulesets standings at node (Err c) → Goes nodes rulesets [] [] nodes (Err (value_at at c.prop c.source))
refused_node nodes rulesets at standings winners node c l e r h =
    r.goes _ (subst (λ ns. Goes nodes rulesets standings winners ns (Err (value_at at c.prop c.source))) (sym (drop_at nodes at node l e))
    (subst (λ n. Goes nodes rulesets standings winners (node ∷ drop (at + 1) nodes) (Err (value_at n c.prop c.source))) r.count
    (Goes.refuses (subst (λ n. ComesTo nodes rulesets standings n node (Err c)) (sym r.count) h))))

refused_by : (nodes : List Node) (rulesets : List Ruleset) (at : ℕ) (standings : List Standing) (winners : List (List Setting)) (node : Node) (fault : Fault) → at < length nodes → node ≡ get_or nodes at node → ReachedNodes nodes rulesets at standings winners → ByValue at (ComesTo nodes rulesets standings at node) (Err fault) → Goes nodes rulesets [] [] nodes (Err fault)
refused_by nodes rulesets at standings winners node fault l e r h = subst (λ f. Goes nodes rulesets [] [] nodes (Err f)) (sym h.1) (refused_node nodes rulesets at standings winners node h.0 l e r h.2)

pub nodes_refusal : (nodes : List Node) (rulesets : List Ruleset) (at : ℕ) (standings : List Standing) (winners : List (List Setting)) (node : Node) (fault : CascadeFault) → at < length nodes → node ≡ get_or nodes at node → ReachedNodes nodes rulesets at standings winners → FailsWith (refusal_of fault) (ByValue at (ComesTo nodes rulesets standings at node)) → FailsWith (refusal_of fault) (Goes nodes rulesets [] [] nodes)
nodes_refusal nodes rulesets at standings winners node Mem l e r h = h
nodes_refusal nodes rulesets at standings winners node (Selector s place) l e r h = refused_by nodes rulesets at standings winners node (selector_at s place) l e r h
nodes_refusal nodes rulesets at standings winners node (Value n p source) l e r h = refused_by nodes rulesets at standings winners node (value_at n p source) l e r h

pub nodes_end : (nodes : List Node) (rulesets : List Ruleset) (at : ℕ) (standings : List Standing) (winners : List (List Setting)) → length nodes ≤ at → ReachedNodes nodes rulesets at standings winners → Goes nodes rulesets [] [] nodes (Ok winners)
nodes_end nodes rulesets at standings winners h r = r.goes (Ok winners) (subst (λ ns. Goes nodes rulesets standings winners ns (Ok winners)) (sym (drop_all at nodes h)) Goes.ends)
