-- Children of an element before a node.
use Rattle.std.specs.Prelude.{◌≡◌, ℕ, ◌<◌, List, None, Option, get_or, length, MatchOption}
use Rattle.viz_base.specs.declared.nodes.Node.{Node}
use Rattle.css_semantics.specs.Matching.{IsChildElement, IsParent}
use Rattle.css_select.specs.declared.siblings.Siblings.{Siblings}

-- no element before the node is a child of the parent
abbrev pub NoChildBefore : List Node → ℕ → ℕ → Type 0
NoChildBefore nodes parent n = (m : ℕ) → m < n → IsChildElement nodes parent m → ⊥

-- the last one that is
pub record IsLastChildBefore (nodes : List Node) (parent n s : ℕ) : Type 0 where
  pub before : s < n
  pub is_child : IsChildElement nodes parent s
  pub last : (m : ℕ) → s < m → m < n → IsChildElement nodes parent m → ⊥

-- the last child of a parent before a node, if there is one
abbrev pub IsLast : List Node → ℕ → ℕ → Option ℕ → Type 0
IsLast nodes parent n found = MatchOption found (NoChildBefore nodes parent n) (IsLastChildBefore nodes parent n)

-- of each node the last child before this one
abbrev pub AreLast : List Node → ℕ → List (Option ℕ) → Type 0
AreLast nodes n last = (parent : ℕ) → IsLast nodes parent n (get_or last parent None)

-- of the nodes before this one the last child of their parents before them
abbrev pub AreSiblingsTo : List Node → ℕ → List (Option ℕ) → Type 0
AreSiblingsTo nodes n previous = (m parent : ℕ) → m < n → IsParent nodes parent m
    → IsLast nodes parent m (get_or previous m None)

abbrev pub AreSiblings : List Node → Siblings → Type 0
AreSiblings nodes s = (length s.previous.items ≡ length nodes) × AreSiblingsTo nodes (length nodes) s.previous.items
