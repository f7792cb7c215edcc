-- Which answer of the code stands for which answer of the definition.
use Rattle.std.specs.Prelude.{◌≡◌, ℕ, suc, ◌+◌, ◌<◌, length, List, [], MatchOption, Option, Some, None, Result, Ok, Err}
use Rattle.viz_base.specs.declared.nodes.Node.{Node}
use Rattle.viz_base.specs.declared.settings.Setting.{Setting}
use Rattle.css_semantics.specs.declared.claims.Claim.{Claim}
use Rattle.css_semantics.specs.declared.claims.Origin.{Origin}
use Rattle.css_semantics.specs.declared.claims.Ruleset.{Ruleset}
use Rattle.css_semantics.specs.declared.claims.Standing.{Standing}
use Rattle.css_semantics.specs.CascadeReading.{Refused, unsupported_at}
use Rattle.css_select.specs.declared.faults.SelFault.{SelFault}
use Rattle.css_select.specs.Refusals.{Refusal, bad_at, unsupported_at as no_support_at, refusal_of as reason_of}
use Rattle.css_semantics.specs.Cascade.{Fault, selector_at, value_at}
use Rattle.css_semantics.specs.Sources.{IsValueAt}
use Rattle.css_cascade.specs.declared.faults.CascadeFault.{CascadeFault}
use Rattle.css_cascade.specs.declared.faults.CascadeFault.TheVariants.{Mem, Selector, Value}

-- the refusal that a fault names; want of memory names none
abbrev pub refusal_of : CascadeFault → Option Fault
refusal_of Mem = None
refusal_of (Selector sheet at) = Some (selector_at sheet at)
refusal_of (Value node p source) = Some (value_at node p source)

-- A refused selector stands in a sheet of an author, and a refused value of a node stands where its source says.
abbrev pub IsPlaced : List Node → List (List ℕ) → Fault → Type 0
IsPlaced nodes texts (selector_at sheet at) = suc sheet < length texts
IsPlaced nodes texts (value_at n p source) = (n < length nodes)
    × ((value : List ℕ) × IsValueAt nodes texts source value)

-- Answers about sheets, as answers about a page: only a selector refuses them.
abbrev pub BySelector : {B : Type 0} → (Result (List B) Refused → Type 0) → Result (List B) Fault → Type 0
BySelector Answer (Ok found) = Answer (Ok found)
BySelector Answer (Err (selector_at sheet at)) = Answer (Err (sheet, at))
BySelector Answer (Err (value_at n p source)) = ⊥

-- Answers about a node, as answers about a page: only a value refuses it.
abbrev pub ByValue : ℕ → (Result (List Setting × Standing) Claim → Type 0)
    → Result (List Setting × Standing) Fault → Type 0
ByValue n Answer (Ok judged) = Answer (Ok judged)
ByValue n Answer (Err fault) = (c : Claim) × (fault ≡ value_at n c.prop c.source) × Answer (Err c)

-- what a rule at a place comes to whose selector is refused so
abbrev pub unread : Origin → ℕ → Refusal → Result (List Ruleset) Refused
unread origin rule (bad_at at) = Ok []
unread origin rule (no_support_at at) = unsupported_at origin (rule + at)

-- what it comes to where reading its selector ends with this fault; where memory is wanting, nothing
abbrev pub IsUnread : Origin → ℕ → SelFault → Result (List Ruleset) Refused → Type 0
IsUnread origin rule fault answer = MatchOption (reason_of fault) ⊥ (λ reason. answer ≡ unread origin rule reason)
