-- What holds of each node of a grown page.
use Rattle.std.proofs.Common.{◌≡◌, ℕ, zero, suc, List, [], ◌∷◌, ◌++◌, slice_get, Option, Some, None, refl, sym, subst}
use Rattle.std.specs.List.{AllByRecursion}
use Rattle.viz_base.specs.declared.nodes.Body.TheVariants as of_body
use Rattle.viz_base.specs.declared.nodes.Node.{Node}
use Rattle.viz_base.specs.declared.selectors.Pseudo.{Pseudo}
use Rattle.viz_base.specs.declared.selectors.Pseudo.TheVariants.{Before, After}
use Rattle.viz_base.specs.declared.settings.Setting.{Setting}
use Rattle.viz_base.proofs.ListLemmas.{all_append}
use Rattle.page_pseudo.specs.declared.nodes.GrownNode.{GrownNode}
use Rattle.page_pseudo.specs.Generated.{generated}
use Rattle.page_pseudo.specs.Grown.{Grow, Written, content, grown, nothing, own_node, pseudo_element, pseudo_nodes, text_nodes, winners_at}

-- what wins at a pseudo-element of a node
abbrev pub beside : Written → Pseudo → ℕ → List Setting
beside w Before n = winners_at w.before n
beside w After n = winners_at w.after n

-- the node of a text
abbrev pub text_node : ℕ → List ℕ → GrownNode
text_node parent text = record { parent = Some parent; body = of_body.Chars text; from = None; winners = [] }

-- It holds of the nodes that are written, of the pseudo-elements and of their texts.
pub record HoldsOf (w : Written) (P : GrownNode → Type 0) : Type 0 where
  pub own : (n : ℕ) (parent : Option ℕ) (node : Node) → slice_get w.nodes n ≡ Some node → P (own_node w n parent node)
  pub element : (which : Pseudo) (n parent : ℕ) (node : Node) → slice_get w.nodes n ≡ Some node → P (pseudo_element which parent (beside w which n))
  pub text : (which : Pseudo) (n parent : ℕ) (node : Node) (text : List ℕ) → slice_get w.nodes n ≡ Some node → generated node.body (beside w which n) ≡ Some text → P (text_node parent text)

module _ (w : Written) (P : GrownNode → Type 0) (h : HoldsOf w P) where
  texts_hold : (which : Pseudo) (n at : ℕ) (node : Node) (text : List ℕ) → slice_get w.nodes n ≡ Some node → generated node.body (beside w which n) ≡ Some text → AllByRecursion P (text_nodes at text)
  texts_hold which n at node [] e f = tt
  texts_hold which n at node (c ∷ text) e f = (h.text which n at node (c ∷ text) e f, tt)

  pseudo_holds : (which : Pseudo) (n at parent : ℕ) (node : Node) (o : Option (List ℕ)) → slice_get w.nodes n ≡ Some node → generated node.body (beside w which n) ≡ o → AllByRecursion P (pseudo_nodes which at parent (beside w which n) o)
  pseudo_holds which n at parent node None e f = tt
  pseudo_holds which n at parent node (Some text) e f = (h.element which n parent node e, texts_hold which n at node text e f)

  content_holds : (which : Pseudo) (n at parent : ℕ) (node : Node) → slice_get w.nodes n ≡ Some node → AllByRecursion P (content which at parent node.body (beside w which n))
  content_holds which n at parent node e = pseudo_holds which n at parent node (generated node.body (beside w which n)) e refl

  pub all_hold : {ks : List ℕ} {at : ℕ} {parent : Option ℕ} {xs : List GrownNode} → Grow w ks at parent xs → AllByRecursion P xs
  all_hold nothing = tt
  all_hold (grown {n = n} {at = at} {parent = parent} {node = node} {first = first} {inside = items} {last = last} {others = others} e f g l more) = (
    h.own n parent node e,
    all_append P first (items ++ (last ++ others)) (subst (AllByRecursion P) (sym f) (content_holds Before n _ at node e))
        (all_append P items (last ++ others) (all_hold g)
        (all_append P last others (subst (AllByRecursion P) (sym l) (content_holds After n _ at node e)) (all_hold more))),
  )

-- past the last node nothing wins
pub none_past : (all : List (List Setting)) (n : ℕ) → slice_get all n ≡ None → winners_at all n ≡ []
none_past [] n e = refl
none_past (x ∷ all) zero e = cc
none_past (x ∷ all) (suc n) e = none_past all n e
