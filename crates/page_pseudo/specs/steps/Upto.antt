-- What the nodes before a number have become, while some elements may go on.
use Rattle.std.specs.Prelude.{◌≡◌, ℕ, zero, suc, ◌+◌, ◌<◌, ◌≤◌, List, ◌∷◌, ◌++◌, length, take, get_or, slice_get, Option, Some, None, option_and_then, if◌then◌else◌, IsTrue}
use Rattle.viz_base.specs.Orders.{is_from}
use Rattle.viz_base.specs.Pages.{is_element_at}
use Rattle.viz_base.specs.declared.nodes.Node.{Node}
use Rattle.viz_base.specs.declared.selectors.Pseudo.TheVariants.{Before}
use Rattle.page_pseudo.specs.declared.nodes.GrownNode.{GrownNode}
use Rattle.page_pseudo.specs.declared.walking.Growing.{Growing}
use Rattle.page_pseudo.specs.Grown.{Grow, Written, children, children_from, content, own_node, winners_at}

-- those of the nodes before a number that have this parent
abbrev pub children_to : List Node → ℕ → Option ℕ → List ℕ
children_to nodes n parent = children_from 0 parent (take n nodes)

-- the nodes between an element and a number are all in it
abbrev pub AreInside : List Node → ℕ → ℕ → Type 0
AreInside nodes a n = (m : ℕ) (node : Node) → slice_get nodes m ≡ Some node → a < m → m < n
    → IsTrue (is_from a node.parent)

-- the new number of a node, if there is one
abbrev pub new_number : List ℕ → Option ℕ → Option ℕ
new_number numbers None = None
new_number numbers (Some n) = Some (get_or numbers n 0)

-- What the nodes before `n` have become, the innermost element that goes on being `going`. New numbers stand at the old
-- ones.
pub data Upto (w : Written) (numbers : List ℕ) : ℕ → Option ℕ → List GrownNode → Type 0 where
  outside : {n : ℕ} {all : List GrownNode} → Grow w (children_to w.nodes n None) 0 None all
      → Upto w numbers n None all
  inside : {n a : ℕ} {node : Node} {outer first items : List GrownNode} → slice_get w.nodes a ≡ Some node
      → a < n → get_or numbers a 0 ≡ length outer → AreInside w.nodes a n
      → first ≡ content Before (suc (length outer)) (length outer) node.body (winners_at w.before a)
      → Grow w (children_to w.nodes n (Some a)) (suc (length outer) + length first) (Some (length outer)) items
      → Upto w numbers a node.parent outer
      → Upto w numbers n (Some a) (outer ++ own_node w a (new_number numbers node.parent) node ∷ (first ++ items))

-- as many nodes are done as have new numbers
abbrev pub IsGrowing : Written → Growing → Type 0
IsGrowing w g = Upto w g.numbers.items (length g.numbers.items) g.going g.grown.items

-- ---- which element goes on

abbrev pub parent_at : List Node → ℕ → Option ℕ
parent_at nodes n = option_and_then (λ (node : Node). node.parent) (slice_get nodes n)

-- the innermost element that goes on behind the node before a number
abbrev pub open_behind : List Node → ℕ → Option ℕ
open_behind nodes zero = None
open_behind nodes (suc n) = if is_element_at nodes n then Some n else parent_at nodes n

-- all children of an element are before a number
abbrev pub HasAllBefore : List Node → ℕ → ℕ → Type 0
HasAllBefore nodes a n = children_to nodes n (Some a) ≡ children nodes (Some a)

-- a parent stands before the element that goes on, or is it
abbrev pub IsAbove : Option ℕ → Option ℕ → Type 0
IsAbove parent going = (q : ℕ) → parent ≡ Some q → (a : ℕ) × (going ≡ Some a) × (q ≤ a)
