-- The page with its generated content (CSS 2.1, 12.1): an element's `:before` is its first child and its `:after` its
-- last, each with its text in it. All else stays. Nodes are numbered in document order.
use Rattle.std.specs.Prelude.{◌≡◌, ℕ, suc, ◌+◌, ◌==◌, Bool, true, false, List, [], ◌∷◌, ◌++◌, length, map, get_or, slice_get, Option, Some, None, if◌then◌else◌}
use Rattle.viz_base.specs.declared.nodes.Body.{Body}
use Rattle.viz_base.specs.declared.nodes.Body.TheVariants as of_body
use Rattle.viz_base.specs.declared.nodes.Node.{Node}
use Rattle.viz_base.specs.declared.selectors.Pseudo.{Pseudo}
use Rattle.viz_base.specs.declared.selectors.Pseudo.TheVariants.{Before, After}
use Rattle.viz_base.specs.declared.settings.Setting.{Setting}
use Rattle.page_pseudo.specs.declared.nodes.GrownNode.{GrownNode}
use Rattle.page_pseudo.specs.Generated.{generated, tag_of}

-- a page as it is written, and what wins at each of its nodes: there, at its `:before`, and at its `:after`
pub record Written : Type 0 where
  pub nodes : List Node
  pub own : List (List Setting)
  pub before : List (List Setting)
  pub after : List (List Setting)

abbrev pub winners_at : List (List Setting) → ℕ → List Setting
winners_at all n = get_or all n []

-- ---- the page as it is written

abbrev pub is_same_parent : Option ℕ → Option ℕ → Bool
is_same_parent None None = true
is_same_parent (Some p) (Some q) = p == q
is_same_parent _ _ = false

-- those with this parent among nodes of which the first has the number `at`
abbrev pub children_from : ℕ → Option ℕ → List Node → List ℕ
children_from at parent [] = []
children_from at parent (n ∷ nodes) =
    if is_same_parent n.parent parent then at ∷ children_from (suc at) parent nodes
    else children_from (suc at) parent nodes

-- the numbers of the nodes with this parent, in document order
abbrev pub children : List Node → Option ℕ → List ℕ
children nodes parent = children_from 0 parent nodes

-- ---- nodes of the grown page

-- a node that was written; it is the same with another number, and so may be its parent
abbrev pub own_node : Written → ℕ → Option ℕ → Node → GrownNode
own_node w n parent node = record { parent = parent; body = node.body; from = Some n; winners = winners_at w.own n }

-- a pseudo-element: it has no attributes and no size of its own
abbrev pub pseudo_element : Pseudo → ℕ → List Setting → GrownNode
pseudo_element which parent winners = record {
  parent = Some parent;
  body = of_body.Element (record { tag = tag_of which; attrs = []; size = None });
  from = None;
  winners = winners;
}

-- its text; an empty one is no node
abbrev pub text_nodes : ℕ → List ℕ → List GrownNode
text_nodes parent [] = []
text_nodes parent (c ∷ text) =
    record { parent = Some parent; body = of_body.Chars (c ∷ text); from = None; winners = [] } ∷ []

abbrev pub pseudo_nodes : Pseudo → (at parent : ℕ) → List Setting → Option (List ℕ) → List GrownNode
pseudo_nodes which at parent winners None = []
pseudo_nodes which at parent winners (Some text) = pseudo_element which parent winners ∷ text_nodes at text

-- the nodes of a pseudo-element of the node `parent` of the grown page, the first of which has the number `at`
abbrev pub content : Pseudo → (at parent : ℕ) → Body → List Setting → List GrownNode
content which at parent body winners = pseudo_nodes which at parent winners (generated body winners)

-- ---- the grown page

-- What nodes become, one after another, in the node `parent` of the grown page or in none, the first with the number
-- `at`: each is itself, its `:before`, what its children become, and its `:after`.
pub data Grow (w : Written) : List ℕ → ℕ → Option ℕ → List GrownNode → Type 0 where
  nothing : {at : ℕ} {parent : Option ℕ} → Grow w [] at parent []
  grown : {n at : ℕ} {parent : Option ℕ} {rest : List ℕ} {node : Node} {first inside last others : List GrownNode}
      → slice_get w.nodes n ≡ Some node
      → first ≡ content Before (suc at) at node.body (winners_at w.before n)
      → Grow w (children w.nodes (Some n)) (suc at + length first) (Some at) inside
      → last ≡ content After (suc at + length first + length inside) at node.body (winners_at w.after n)
      → Grow w rest (suc at + length first + length inside + length last) parent others
      → Grow w (n ∷ rest) at parent (own_node w n parent node ∷ (first ++ (inside ++ (last ++ others))))

abbrev pub node_of : GrownNode → Node
node_of g = record { parent = g.parent; body = g.body }

-- The nodes of the grown page, what wins at each, and its number on the page as it is written, unless it is generated.
pub record IsGrown (w : Written) (nodes : List Node) (winners : List (List Setting)) (from : List (Option ℕ))
    : Type 0 where
  pub all : List GrownNode
  pub grow : Grow w (children w.nodes None) 0 None all
  pub nodes_are : nodes ≡ map node_of all
  pub winners_are : winners ≡ map (λ (g : GrownNode). g.winners) all
  pub from_is : from ≡ map (λ (g : GrownNode). g.from) all
