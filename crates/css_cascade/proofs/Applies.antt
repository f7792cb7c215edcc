-- What a ruleset says that applies.
use Rattle.std.proofs.Common.{◌≡◌, ℕ, Bool, List, Result, Ok, Err, IfOk, sym, subst}
use Rattle.viz_base.specs.declared.nodes.Node.{Node}
use Rattle.viz_base.specs.declared.settings.Setting.{Setting}
use Rattle.viz_base.specs.declared.sheets.Decl.{Decl}
use Rattle.css_semantics.specs.declared.claims.Claim.{Claim}
use Rattle.css_semantics.specs.declared.claims.Origin.TheVariants as of_origin
use Rattle.css_semantics.specs.declared.claims.Standing.{Standing}
use Rattle.css_semantics.specs.SheetsGrammar.{AreDeclarationsOf}
use Rattle.css_semantics.specs.declared.claims.Ruleset.{Ruleset}
use Rattle.css_semantics.specs.CascadeOrder.{Applied}
use Rattle.css_semantics.specs.CascadeReading.{AreApplied, AreClaimed}
use Rattle.viz_base.specs.Pages.{is_replaced}
use Rattle.css_semantics.specs.CascadeNodes.{judged, standing_around, winners_of}
use Rattle.css_semantics.specs.Cascade.{ComesTo, comes_to}
use Rattle.css_cascade.specs.declared.faults.CascadeFault.{CascadeFault}
use Rattle.css_cascade.specs.declared.faults.CascadeFault.TheVariants.{Mem, Selector, Value}
use Rattle.css_cascade.specs.Faults.{ByValue, refusal_of}
use Rattle.viz_base.specs.Answers.{GivesOneOf}

pub if_ok : {T E : Type 0} {P Q : T → Type 0} (r : Result T E) → ((x : T) → P x → Q x) → IfOk r P → IfOk r Q
if_ok (Ok x) f h = f x h
if_ok (Err e) f h = h

pub styled_as : (node : ℕ) (text : List ℕ) (decls : List Decl) → AreDeclarationsOf text decls → (claims : List Claim) → AreClaimed (of_origin.Style node) text decls claims → (ds : List Decl) × AreDeclarationsOf text ds × AreClaimed (of_origin.Style node) text ds claims
styled_as node text decls d claims h = (decls, d, h)

-- what a node comes to by the code is what it comes to
pub comes : (nodes : List Node) (rulesets : List Ruleset) (standings : List Standing) (n : ℕ) (node : Node) (replaced : Bool) (outer : Standing) (all : List Applied) (winners : List Claim) → AreApplied nodes rulesets n node.body all → replaced ≡ is_replaced node.body → outer ≡ standing_around standings node.parent → winners ≡ winners_of all → ComesTo nodes rulesets standings n node (judged replaced outer winners)
comes nodes rulesets standings n node replaced outer all winners applied r o same = rw (r, o, same) (comes_to applied)

pub comes_by : (nodes : List Node) (rulesets : List Ruleset) (standings : List Standing) (n : ℕ) (node : Node) (answer : Result (List Setting × Standing) Claim) → ComesTo nodes rulesets standings n node answer → (r : Result (List Setting × Standing) CascadeFault)
    → GivesOneOf (λ p. (p.0, p.1)) refusal_of r (ByValue n (λ a. a ≡ answer))
    → GivesOneOf (λ p. (p.0, p.1)) refusal_of r (ByValue n (ComesTo nodes rulesets standings n node))
comes_by nodes rulesets standings n node answer is (Ok p) h = subst (ComesTo nodes rulesets standings n node) (sym h) is
comes_by nodes rulesets standings n node answer is (Err Mem) h = h
comes_by nodes rulesets standings n node answer is (Err (Selector s at)) h = (h.0, h.1, subst (ComesTo nodes rulesets standings n node) (sym h.2) is)
comes_by nodes rulesets standings n node answer is (Err (Value m p source)) h = (h.0, h.1, subst (ComesTo nodes rulesets standings n node) (sym h.2) is)
