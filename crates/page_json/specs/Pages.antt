-- What a page keeps apart from the lengths of its texts.
use Rattle.std.specs.Prelude.{◌≡◌, ℕ, List, map, slice_get, Some, IsTrue}
use Rattle.viz_base.specs.declared.nodes.Node.{Node}
use Rattle.viz_base.specs.Orders.{IsInOrder}
use Rattle.viz_base.specs.Pages.{is_element_at, parent_fits, has_lower_names}

pub record IsDocument (nodes : List Node) : Type 0 where
  pub root : IsTrue (is_element_at nodes 0)
  pub parents : (at : ℕ) (n : Node) → slice_get nodes at ≡ Some n → IsTrue (parent_fits nodes at n.parent)
  pub in_order : IsInOrder (map (λ (n : Node). n.parent) nodes)
  pub names : (at : ℕ) (n : Node) → slice_get nodes at ≡ Some n → IsTrue (has_lower_names n.body)
