-- What the pseudo-elements of the nodes of a page come to, and which nodes are hidden.
use Rattle.std.specs.Prelude.{◌≡◌, ◌↔◌, ℕ, Bool, true, false, ◌⊎◌, List, [], length, get_or, slice_get, ◌<◌, is_some, Option, Some, None, option_map, Result, Ok, Err, if◌then◌else◌}
use Rattle.std.specs.List.{list_any}
use Rattle.viz_base.specs.declared.nodes.Body.{Body}
use Rattle.viz_base.specs.declared.nodes.Node.{Node}
use Rattle.viz_base.specs.declared.settings.Setting.{Setting}
use Rattle.viz_base.specs.declared.sheets.Sheet.{Sheet}
use Rattle.css_semantics.specs.declared.claims.Claim.{Claim}
use Rattle.css_semantics.specs.declared.claims.Ruleset.{Ruleset}
use Rattle.css_semantics.specs.CascadeOrder.{Applied}
use Rattle.css_semantics.specs.Cascade.{Fault, selector_at, value_at}
use Rattle.css_semantics.specs.CascadeReading.{AreApplied, AreAppliedBeside, AreRulesets}
use Rattle.css_semantics.specs.CascadeNodes.{hides, winners_of}
use Rattle.css_semantics.specs.PseudoCascade.{GoesBeside, IsNotShown, first_unsupported, is_asked, settings_beside}
use Rattle.css_cascade.specs.declared.beside.Beside.{Beside}
use Rattle.css_cascade.specs.declared.beside.Refused.{Refused}

-- ---- pseudo-elements

-- which value a fault names
abbrev pub named : Claim → Refused
named c = record { prop = c.prop; source = c.source }

-- what is refused of these winners, where the element is shown
abbrev pub refused_of : List Claim → Option Claim
refused_of winners = if is_asked winners then first_unsupported winners else None

-- what the pseudo-element of a node sets, and which value of it is refused where the element is shown
pub record IsBeside (nodes : List Node) (rulesets : List Ruleset) (n : ℕ) (body : Body) (settings : List Setting)
    (refused : Option Refused) : Type 0 where
  pub all : List Applied
  pub are_applied : AreAppliedBeside nodes rulesets n body all
  pub settings_are : settings ≡ settings_beside (winners_of all)
  pub refused_is : refused ≡ option_map named (refused_of (winners_of all))

-- of the nodes before a number
pub record AreBesideTo (nodes : List Node) (rulesets : List Ruleset) (n : ℕ) (winners : List (List Setting))
    (refused : List (Option Refused)) : Type 0 where
  pub one_list_each : length winners ≡ n
  pub one_each : length refused ≡ n
  pub each : (at : ℕ) (node : Node) (settings : List Setting) (r : Option Refused) → slice_get nodes at ≡ Some node
      → slice_get winners at ≡ Some settings → slice_get refused at ≡ Some r
      → IsBeside nodes rulesets at node.body settings r

abbrev pub AreBeside : List Node → List Ruleset → Beside → Type 0
AreBeside nodes rulesets b = AreBesideTo nodes rulesets (length nodes) b.winners b.refused.items

-- ---- hidden nodes

-- of the nodes before a number whether they are hidden
pub record AreHiddenTo (nodes : List Node) (texts : List (List ℕ)) (sheets : List Sheet) (n : ℕ)
    (hidden : List Bool) : Type 0 where
  pub one_each : length hidden ≡ n
  pub each : (at : ℕ) (h : Bool) → slice_get hidden at ≡ Some h → (h ≡ true) ↔ IsNotShown nodes texts sheets at

abbrev pub AreHidden : List Node → List (List ℕ) → List Sheet → List Bool → Type 0
AreHidden nodes texts sheets hidden = AreHiddenTo nodes texts sheets (length nodes) hidden

-- whether `display: none` wins at a node with this body
abbrev pub HidesHere : List Node → List Ruleset → ℕ → Body → Bool → Type 0
HidesHere nodes rulesets n body here = (all : List Applied) × AreApplied nodes rulesets n body all
    × (here ≡ list_any hides (winners_of all))

abbrev pub is_inside_hidden : List Bool → Option ℕ → Bool
is_inside_hidden hidden None = false
is_inside_hidden hidden (Some p) = get_or hidden p false

-- Whether nodes are hidden, or the first refused selector of an author.
abbrev pub IsHiddenAnswer : List Node → List (List ℕ) → List Sheet → Result (List Bool) Fault → Type 0
IsHiddenAnswer nodes texts sheets (Ok hidden) = AreHidden nodes texts sheets hidden
IsHiddenAnswer nodes texts sheets (Err (selector_at sheet at)) = AreRulesets None texts sheets (Err (sheet, at))
IsHiddenAnswer nodes texts sheets (Err (value_at n p source)) = ⊥

-- ---- what refuses

abbrev pub has_refused : List (Option Refused) → Bool
has_refused refused = list_any is_some refused

-- a value is refused at a node that isn't hidden
abbrev pub IsRefusedAt : List (Option Refused) → List Bool → ℕ → Refused → Type 0
IsRefusedAt refused hidden at r = (slice_get refused at ≡ Some (Some r)) × (get_or hidden at false ≡ false)

-- at no node before a number
abbrev pub NoneRefusedTo : List (Option Refused) → List Bool → ℕ → Type 0
NoneRefusedTo refused hidden n = (m : ℕ) (r : Refused) → m < n → IsRefusedAt refused hidden m r → ⊥

-- The cascade by these rulesets, or the first selector of an author that the rulesets of elements have refused.
abbrev pub GoesOrRefuses : List Node → List (List ℕ) → List Sheet → List Ruleset → Result (List (List Setting)) Fault
    → Type 0
GoesOrRefuses nodes texts sheets rulesets answer =
    GoesBeside nodes texts sheets rulesets [] nodes answer
    ⊎ ((sheet : ℕ) × (at : ℕ) × (answer ≡ Err (selector_at sheet at)) × AreRulesets None texts sheets (Err (sheet, at)))
