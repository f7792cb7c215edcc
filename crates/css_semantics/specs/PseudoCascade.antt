-- The cascade of a pseudo-element: what wins there at each node for each property, or the first value that is refused
-- (CSS 2.1, 6.4 and 12.1).
use Rattle.std.specs.Prelude.{◌≡◌, ℕ, Bool, true, false, not, ◌&&◌, List, [], ◌∷◌, ◌++◌, flat_map, length, Option, Some, None, Result, Ok, Err, is_none, slice_get}
use Rattle.std.specs.List.{find, list_any}
use Rattle.viz_base.specs.declared.nodes.Node.{Node}
use Rattle.viz_base.specs.declared.selectors.Pseudo.{Pseudo}
use Rattle.viz_base.specs.declared.settings.Prop.TheVariants as of_prop
use Rattle.viz_base.specs.declared.settings.Setting.{Setting}
use Rattle.viz_base.specs.declared.settings.Value.{Value}
use Rattle.viz_base.specs.declared.settings.Value.TheVariants as of_value
use Rattle.viz_base.specs.declared.sheets.Sheet.{Sheet}
use Rattle.css_semantics.specs.declared.claims.Claim.{Claim}
use Rattle.css_semantics.specs.declared.claims.Ruleset.{Ruleset}
use Rattle.css_semantics.specs.Matching.{IsAncestor}
use Rattle.css_semantics.specs.CascadeOrder.{Applied, is_prop}
use Rattle.css_semantics.specs.CascadeReading.{AreApplied, AreAppliedBeside, AreRulesets}
use Rattle.css_semantics.specs.CascadeNodes.{hides, set_by, winners_of}
use Rattle.css_semantics.specs.Cascade.{Fault, selector_at, value_at}

-- ---- shown elements

-- `display: none` wins at a node, by the selectors without a pseudo-element and its style attribute
pub record IsNone (nodes : List Node) (texts : List (List ℕ)) (sheets : List Sheet) (n : ℕ) : Type 0 where
  pub rulesets : List Ruleset
  pub node : Node
  pub all : List Applied
  pub are_rulesets : AreRulesets None texts sheets (Ok rulesets)
  pub is_node : slice_get nodes n ≡ Some node
  pub are_applied : AreApplied nodes rulesets n node.body all
  pub is_hidden : list_any hides (winners_of all) ≡ true

-- it wins there, or at an element that the node is in (CSS 2.1, 9.2.4)
pub data IsNotShown (nodes : List Node) (texts : List (List ℕ)) (sheets : List Sheet) (n : ℕ) : Type 0 where
  itself : IsNone nodes texts sheets n → IsNotShown nodes texts sheets n
  inside : {top : ℕ} → IsAncestor nodes top n → IsNone nodes texts sheets top → IsNotShown nodes texts sheets n

-- ---- what is refused

-- a text, or a value that is refused by name
abbrev pub is_text_or_refused : Option Value → Bool
is_text_or_refused None = true
is_text_or_refused (Some (of_value.Chars text)) = true
is_text_or_refused (Some _) = false

abbrev pub asks_text : Claim → Bool
asks_text c = is_prop c.prop of_prop.Content && is_text_or_refused c.value

-- Whether a pseudo-element with these winners has to be laid out: content is asked for, and isn't hidden there.
abbrev pub is_asked : List Claim → Bool
is_asked winners = list_any asks_text winners && not (list_any hides winners)

-- the first value that is refused by name
abbrev pub first_unsupported : List Claim → Option Claim
first_unsupported winners = find (λ c. is_none c.value) winners

-- Such a value refuses the page where the pseudo-element has to be laid out, at an element that is shown.
pub record Refuses (nodes : List Node) (texts : List (List ℕ)) (sheets : List Sheet) (n : ℕ) (winners : List Claim)
    (c : Claim) : Type 0 where
  pub asked : is_asked winners ≡ true
  pub first : first_unsupported winners ≡ Some c
  pub shown : IsNotShown nodes texts sheets n → ⊥

-- ---- one node after another

-- what is refused sets nothing
abbrev pub settings_beside : List Claim → List Setting
settings_beside winners = flat_map (λ c. set_by c.prop c.value) winners

-- what the pseudo-element of a node comes to by its rulesets
pub data ComesToBeside (nodes : List Node) (texts : List (List ℕ)) (sheets : List Sheet) (rulesets : List Ruleset)
    (n : ℕ) (node : Node) : Result (List Setting) Claim → Type 0 where
  refused : {all : List Applied} {c : Claim} → AreAppliedBeside nodes rulesets n node.body all
      → Refuses nodes texts sheets n (winners_of all) c → ComesToBeside nodes texts sheets rulesets n node (Err c)
  given : {all : List Applied} → AreAppliedBeside nodes rulesets n node.body all
      → ((c : Claim) → Refuses nodes texts sheets n (winners_of all) c → ⊥)
      → ComesToBeside nodes texts sheets rulesets n node (Ok (settings_beside (winners_of all)))

-- The settings of one node after another, behind those of the nodes before; or the first refused value.
pub data GoesBeside (nodes : List Node) (texts : List (List ℕ)) (sheets : List Sheet) (rulesets : List Ruleset)
    : List (List Setting) → List Node → Result (List (List Setting)) Fault → Type 0 where
  ends : {winners : List (List Setting)} → GoesBeside nodes texts sheets rulesets winners [] (Ok winners)
  refuses : {winners : List (List Setting)} {node : Node} {rest : List Node} {c : Claim}
      → ComesToBeside nodes texts sheets rulesets (length winners) node (Err c)
      → GoesBeside nodes texts sheets rulesets winners (node ∷ rest) (Err (value_at (length winners) c.prop c.source))
  goes_on : {winners : List (List Setting)} {node : Node} {rest : List Node} {settings : List Setting}
      {answer : Result (List (List Setting)) Fault}
      → ComesToBeside nodes texts sheets rulesets (length winners) node (Ok settings)
      → GoesBeside nodes texts sheets rulesets (winners ++ settings ∷ []) rest answer
      → GoesBeside nodes texts sheets rulesets winners (node ∷ rest) answer

-- The cascade of a pseudo-element on a page, by the selectors with it: refused selectors come before refused values.
pub data IsPseudoCascade (nodes : List Node) (texts : List (List ℕ)) (sheets : List Sheet) (which : Pseudo)
    : Result (List (List Setting)) Fault → Type 0 where
  refused_selector : {sheet at : ℕ} → AreRulesets (Some which) texts sheets (Err (sheet, at))
      → IsPseudoCascade nodes texts sheets which (Err (selector_at sheet at))
  cascaded : {rulesets : List Ruleset} {answer : Result (List (List Setting)) Fault}
      → AreRulesets (Some which) texts sheets (Ok rulesets)
      → GoesBeside nodes texts sheets rulesets [] nodes answer
      → IsPseudoCascade nodes texts sheets which answer
