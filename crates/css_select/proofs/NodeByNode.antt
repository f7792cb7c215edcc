-- The last children before each node, node after node.
use Rattle.std.proofs.Common.{◌≡◌, ℕ, ◌+◌, ◌<◌, List, [], ◌∷◌, ◌++◌, length, get_or, set, slice_get, Option, Some, None, sym, ◌∙◌, ap, subst, arith}
use Rattle.std.proofs.lemmas.Grind.{get_or-set_at}
use Rattle.std.proofs.lemmas.List.{get_or-set_other, get_or_append_left}
use Rattle.std.proofs.lemmas.Option.{same_Some, slice_get_within}
use Rattle.std.proofs.Math.Seq.{get_or-append_seam}
use Rattle.viz_base.specs.declared.nodes.Body.TheVariants as of_body
use Rattle.viz_base.specs.declared.nodes.Element.{Element}
use Rattle.viz_base.specs.declared.nodes.Node.{Node}
use Rattle.viz_base.specs.Pages.{IsPage}
use Rattle.css_semantics.specs.Matching.{IsChildElement, IsParent}
use Rattle.css_semantics.proofs.Parents.{child_after, one_parent}
use Rattle.css_select.specs.steps.Trees.{AreLast, AreSiblingsTo, IsLast, IsLastChildBefore}
use Rattle.css_select.proofs.Nodes.{eq_or_not}

-- ---- the last children

last_here : (nodes : List Node) (parent n : ℕ) → IsChildElement nodes parent n → IsLastChildBefore nodes parent (n + 1) n
last_here nodes parent n h = record { before = omega arith; is_child = h; last = λ m a b k. absurd (omega (arith, a, b)) }

last_more : (nodes : List Node) (parent n : ℕ) (found : Option ℕ) → (IsChildElement nodes parent n → ⊥) → IsLast nodes parent n found → IsLast nodes parent (n + 1) found
last_more nodes parent n None none h = λ m l k. eq_or_not m n (λ e. none (subst (IsChildElement nodes parent) e k)) (λ e. h m (omega (arith, l, e)) k)
last_more nodes parent n (Some s) none h = record {
  before = omega (arith, h.before);
  is_child = h.is_child;
  last = λ m a b k. eq_or_not m n (λ e. none (subst (IsChildElement nodes parent) e k)) (λ e. h.last m a (omega (arith, b, e)) k);
}

same_node : (nodes : List Node) (n : ℕ) (a b : Node) → slice_get nodes n ≡ Some a → slice_get nodes n ≡ Some b → a ≡ b
same_node nodes n a b h k = same_Some a b (sym h ∙ k)

pub no_element : (nodes : List Node) (n : ℕ) (node : Node) (last : List (Option ℕ)) → slice_get nodes n ≡ Some node → ((e : Element) → node.body ≡ of_body.Element e → ⊥) → AreLast nodes n last → AreLast nodes (n + 1) last
no_element nodes n node last found other h = λ parent.
    last_more nodes parent n (get_or last parent None) (λ k. other k.1.0 (ap (λ (x : Node). x.body) (same_node nodes n node _ found k.1.1.1))) (h parent)

pub no_parent : (nodes : List Node) (n : ℕ) (node : Node) (last : List (Option ℕ)) → slice_get nodes n ≡ Some node → node.parent ≡ None → AreLast nodes n last → AreLast nodes (n + 1) last
no_parent nodes n node last found none h = λ parent.
    last_more nodes parent n (get_or last parent None)
    (λ k. let is : None ≡ Some parent = sym none ∙ ap (λ (x : Node). x.parent) (same_node nodes n node k.0.0 found k.0.1) ∙ k.0.2 in cc) (h parent)

pub child_kept : (nodes : List Node) (n parent : ℕ) (last : List (Option ℕ)) → IsChildElement nodes parent n → parent < length last → AreLast nodes n last → AreLast nodes (n + 1) (set last parent (Some n))
child_kept nodes n parent last child within h = λ q.
    eq_or_not q parent
    (λ e. subst (IsLast nodes q (n + 1)) (sym (get_or-set_at last parent q (Some n) None e within)) (subst (λ p. IsLastChildBefore nodes p (n + 1) n) (sym e) (last_here nodes parent n child)))
    (λ other. subst (IsLast nodes q (n + 1)) (sym (get_or-set_other last parent q (Some n) None other)) (last_more nodes q n (get_or last q None) (λ k. other (one_parent nodes q parent n k.0 child.0)) (h q)))

pub child_at : (nodes : List Node) (n parent : ℕ) (node : Node) (e : Element) → slice_get nodes n ≡ Some node → node.parent ≡ Some parent → node.body ≡ of_body.Element e → IsChildElement nodes parent n
child_at nodes n parent node e found is body = ((node, found, is), (e, (node.parent, found ∙ ap (λ b. Some (record { parent = node.parent; body = b })) body)))

pub parent_within : (nodes : List Node) → IsPage nodes → (n parent : ℕ) (node : Node) → slice_get nodes n ≡ Some node → node.parent ≡ Some parent → parent < length nodes
parent_within nodes page n parent node found is =
    let before = child_after nodes page parent n (node, found, is) in
    let within = slice_get_within nodes n node found in
    omega (arith, before, within)

-- ---- the table

pub siblings_more : (nodes : List Node) (n : ℕ) (node : Node) (last previous : List (Option ℕ)) (found : Option ℕ) → slice_get nodes n ≡ Some node → length previous ≡ n → AreLast nodes n last → ((p : ℕ) → node.parent ≡ Some p → found ≡ get_or last p None) → AreSiblingsTo nodes n previous → AreSiblingsTo nodes (n + 1) (previous ++ found ∷ [])
siblings_more nodes n node last previous found is count all of_parent h = λ m parent l k.
    eq_or_not m n
    (λ e.
    let here : IsParent nodes parent n = subst (IsParent nodes parent) e k in
    let at : found ≡ get_or last parent None = of_parent parent (ap (λ (x : Node). x.parent) (same_node nodes n node here.0 is here.1) ∙ here.2) in
    let seam : get_or (previous ++ found ∷ []) m None ≡ found = ap (λ i. get_or (previous ++ found ∷ []) i None) (e ∙ sym count) ∙ get_or-append_seam previous found [] None in
    subst (IsLast nodes parent m) (sym (seam ∙ at)) (subst (λ i. IsLast nodes parent i (get_or last parent None)) (sym e) (all parent)))
    (λ e.
    let before : m < n = omega (arith, l, e) in
    let within : m < length previous = omega (arith, before, count) in
    subst (IsLast nodes parent m) (sym (get_or_append_left previous (found ∷ []) None m within)) (h m parent before k))
