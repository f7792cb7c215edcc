-- The cascade: what wins at each node for each property (CSS 2.1, 6.4), or the first that is refused.
use Rattle.std.specs.Prelude.{ℕ, List, [], ◌∷◌, ◌++◌, length, None, Result, Ok, Err}
use Rattle.viz_base.specs.declared.nodes.Node.{Node}
use Rattle.viz_base.specs.declared.settings.Prop.{Prop}
use Rattle.viz_base.specs.declared.settings.Setting.{Setting}
use Rattle.viz_base.specs.declared.settings.Source.{Source}
use Rattle.viz_base.specs.declared.sheets.Sheet.{Sheet}
use Rattle.css_semantics.specs.declared.claims.Claim.{Claim}
use Rattle.css_semantics.specs.declared.claims.Ruleset.{Ruleset}
use Rattle.css_semantics.specs.declared.claims.Standing.{Standing}
use Rattle.css_semantics.specs.CascadeOrder.{Applied}
use Rattle.css_semantics.specs.CascadeReading.{AreApplied, AreRulesets}
use Rattle.viz_base.specs.Pages.{is_replaced}
use Rattle.css_semantics.specs.CascadeNodes.{judged, standing_around, winners_of}

-- what refuses a page
pub data Fault : Type 0 where
  selector_at : ℕ → ℕ → Fault
  value_at : ℕ → Prop → Source → Fault

-- what a node comes to that has these before it, in which its parent is
pub data ComesTo (nodes : List Node) (rulesets : List Ruleset) (standings : List Standing) (n : ℕ) (node : Node)
    : Result (List Setting × Standing) Claim → Type 0 where
  comes_to : {all : List Applied}
      → AreApplied nodes rulesets n node.body all
      → ComesTo nodes rulesets standings n node
      (judged (is_replaced node.body) (standing_around standings node.parent) (winners_of all))

-- The settings of one node after another, behind those of the nodes before; or the first refused value.
pub data Goes (nodes : List Node) (rulesets : List Ruleset) : List Standing → List (List Setting) → List Node
    → Result (List (List Setting)) Fault → Type 0 where
  ends : {standings : List Standing} {winners : List (List Setting)}
      → Goes nodes rulesets standings winners [] (Ok winners)
  refuses : {standings : List Standing} {winners : List (List Setting)} {node : Node} {rest : List Node} {c : Claim}
      → ComesTo nodes rulesets standings (length winners) node (Err c)
      → Goes nodes rulesets standings winners (node ∷ rest) (Err (value_at (length winners) c.prop c.source))
  goes_on : {standings : List Standing} {winners : List (List Setting)} {node : Node} {rest : List Node}
      {settings : List Setting}
      → {standing : Standing} {answer : Result (List (List Setting)) Fault}
      → ComesTo nodes rulesets standings (length winners) node (Ok (settings, standing))
      → Goes nodes rulesets (standings ++ standing ∷ []) (winners ++ settings ∷ []) rest answer
      → Goes nodes rulesets standings winners (node ∷ rest) answer

-- The cascade of a page, by the selectors without a pseudo-element: refused selectors come before refused values.
pub data IsCascade (nodes : List Node) (texts : List (List ℕ)) (sheets : List Sheet)
    : Result (List (List Setting)) Fault → Type 0 where
  refused_selector : {sheet at : ℕ}
      → AreRulesets None texts sheets (Err (sheet, at))
      → IsCascade nodes texts sheets (Err (selector_at sheet at))
  cascaded : {rulesets : List Ruleset} {answer : Result (List (List Setting)) Fault}
      → AreRulesets None texts sheets (Ok rulesets)
      → Goes nodes rulesets [] [] nodes answer
      → IsCascade nodes texts sheets answer
