-- Which nodes are hidden, since `display: none` wins at them or around them (CSS 2.1, 9.2.4).
use Rattle.std.specs.Prelude.{◌≡◌, ◌↔◌, ℕ, Bool, true, false, ◌&&◌, List, [], ◌∷◌, ◌++◌, length, Some, slice_get, Ok}
use Rattle.std.specs.List.{list_any}
use Rattle.std.specs.Option.{option_map_or}
use Rattle.viz_base.specs.declared.nodes.Node.{Node}
use Rattle.viz_base.specs.declared.settings.Prop.TheVariants as of_prop
use Rattle.viz_base.specs.declared.settings.Setting.{Setting}
use Rattle.css_semantics.specs.Places.{at_none}
use Rattle.css_semantics.specs.declared.claims.Ruleset.{Ruleset}
use Rattle.css_semantics.specs.declared.claims.Standing.{Standing}
use Rattle.css_semantics.specs.Matching.{IsAncestor}
use Rattle.css_semantics.specs.CascadeOrder.{is_prop}
use Rattle.css_semantics.specs.CascadeNodes.{is_word}
use Rattle.css_semantics.specs.Cascade.{ComesTo}

-- `display: none`
abbrev pub is_none : Setting → Bool
is_none s = is_prop s.prop of_prop.Display && is_word at_none (Some s.value)

-- it wins at this node
abbrev pub has_none : List (List Setting) → ℕ → Bool
has_none winners n = option_map_or (list_any is_none) (slice_get winners n) false

-- it wins at this node, or at one that this node is in
pub data IsHidden (nodes : List Node) (winners : List (List Setting)) (n : ℕ) : Type 0 where
  itself : has_none winners n ≡ true → IsHidden nodes winners n
  inside : {top : ℕ} → IsAncestor nodes top n → has_none winners top ≡ true → IsHidden nodes winners n

-- the nodes so far have come to these standings and settings
pub data HaveCome (nodes : List Node) (rulesets : List Ruleset) : List Standing → List (List Setting) → Type 0 where
  nothing_yet : HaveCome nodes rulesets [] []
  one_more : {standings : List Standing} {winners : List (List Setting)} {node : Node} {settings : List Setting}
      {standing : Standing} → HaveCome nodes rulesets standings winners → slice_get nodes (length winners) ≡ Some node
      → ComesTo nodes rulesets standings (length winners) node (Ok (settings, standing))
      → HaveCome nodes rulesets (standings ++ standing ∷ []) (winners ++ settings ∷ [])

-- Of the nodes to which it has come so far, a standing says that its node is hidden exactly where it is.
abbrev pub StandingsAgree : List Node → List Ruleset → Type 0
StandingsAgree nodes rulesets =
    (standings : List Standing) (winners : List (List Setting)) → HaveCome nodes rulesets standings winners
    → (n : ℕ) (s : Standing) → slice_get standings n ≡ Some s → (s.hidden ≡ true) ↔ IsHidden nodes winners n
