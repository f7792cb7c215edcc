-- Which elements end before a node.
use Rattle.std.proofs.Common.{◌≡◌, ℕ, zero, suc, ◌<◌, ◌≤◌, Bool, true, false, cond, not, eqb, eq-eqb, List, map, length, slice_get, Option, Some, None, refl, sym, ap, ◌∙◌, subst, arith, inl, inr, ◌⊎◌}
use Rattle.std.specs.Prelude.{option_map, option_and_then}
use Rattle.std.specs.Option.{option_eq, option_map_or}
use Rattle.std.proofs.lemmas.Bool.{cases_lt, cases_order, false≢true}
use Rattle.std.proofs.lemmas.Option.{none-some, same_Some, slice_get-map, slice_get_past, slice_get_within}
use Rattle.viz_base.specs.Pages.{IsPage, is_element_at}
use Rattle.viz_base.specs.declared.nodes.Node.{Node}
use Rattle.viz_base.proofs.ListLemmas.{slice_some}
use Rattle.viz_base.proofs.Truths.{by_bool, not_both}
use Rattle.page_pseudo.specs.Grown.{is_same_parent}
use Rattle.page_pseudo.specs.steps.Upto.{HasAllBefore, IsAbove, open_behind, parent_at}
use Rattle.page_pseudo.proofs.Children.{all_before, from_is, none_to, parent_before, parent_is_element, same_parent}

module _ (nodes : List Node) (page : IsPage nodes) where
  abbrev parents : List (Option ℕ)
  parents = map (λ (n : Node). n.parent) nodes

  parents_at : (n : ℕ) (node : Node) → slice_get nodes n ≡ Some node → slice_get parents n ≡ Some node.parent
  parents_at n node e = slice_get-map (λ (n : Node). n.parent) nodes n ∙ ap (option_map (λ (n : Node). n.parent)) e

  -- what stands between an element and a child of it
  between : (q a n : ℕ) (x y : Node) → slice_get nodes a ≡ Some x → slice_get nodes n ≡ Some y → y.parent ≡ Some q → q < a → a < n → (p : ℕ) × (x.parent ≡ Some p) × (q ≤ p)
  between q a n x y e f g l u = from_is q x.parent (page.in_order q a n x.parent (parents_at n y f ∙ ap Some g) (parents_at a x e) l u)

  parent_node : (n q : ℕ) → parent_at nodes n ≡ Some q → (node : Node) × (slice_get nodes n ≡ Some node) × (node.parent ≡ Some q)
  parent_node n q e = by_node (slice_get nodes n) refl
    where
      by_node : (o : Option Node) → slice_get nodes n ≡ o → (node : Node) × (slice_get nodes n ≡ Some node) × (node.parent ≡ Some q)
      by_node None f = absurd (none-some _ (sym (ap (option_and_then (λ (m : Node). m.parent)) f) ∙ e))
      by_node (Some node) f = (node, f, sym (ap (option_and_then (λ (m : Node). m.parent)) f) ∙ e)

  pub at_parent : (n : ℕ) (node : Node) → slice_get nodes n ≡ Some node → parent_at nodes n ≡ node.parent
  at_parent n node e = ap (option_and_then (λ (m : Node). m.parent)) e

  pub past_parent : (n : ℕ) → length nodes ≤ n → parent_at nodes n ≡ None
  past_parent n le = ap (option_and_then (λ (m : Node). m.parent)) (slice_get_past nodes n le)

  -- ---- the parent of the next node is the last element, or around it

  pub above_start : (n : ℕ) → IsAbove (parent_at nodes n) (open_behind nodes n)
  above_start zero q e =
      let k = parent_node zero q e in
      let b = parent_before nodes page zero k.0 q k.1 k.2 in absurd (omega (arith, b))
  above_start (suc l) q e = by_bool (is_element_at nodes l) behind_element behind_text
    where
      next : (node : Node) × (slice_get nodes (suc l) ≡ Some node) × (node.parent ≡ Some q)
      next = parent_node (suc l) q e

      before : q < suc l
      before = parent_before nodes page (suc l) next.0 q next.1 next.2

      smaller : (q l : ℕ) → q < suc l → (q ≡ l → ⊥) → q < l
      smaller q l b other = by_order (cases_order q l)
        where
          by_order : (q ≡ l) ⊎ ((q < l) ⊎ (l < q)) → q < l
          by_order (inl s) = absurd (other s)
          by_order (inr (inl s)) = s
          by_order (inr (inr s)) = absurd (omega (arith, b, s))

      behind_element : is_element_at nodes l ≡ true → (a : ℕ) × (open_behind nodes (suc l) ≡ Some a) × (q ≤ a)
      behind_element t = (l, ap (λ b. cond b (Some l) (parent_at nodes l)) t, omega (arith, before))

      behind_text : is_element_at nodes l ≡ false → (a : ℕ) × (open_behind nodes (suc l) ≡ Some a) × (q ≤ a)
      behind_text f =
          let within = slice_get_within nodes (suc l) next.0 next.1 in
          let last = slice_some nodes l (omega (arith, within)) in
          let other : q ≡ l → ⊥ = λ s. not_both (is_element_at nodes q) (parent_is_element nodes page (suc l) next.0 q next.1 next.2) (ap (is_element_at nodes) s ∙ f) in
          let p = between q l (suc l) last.0 next.0 last.1 next.1 next.2 (smaller q l before other) (omega arith) in
          (p.0, ap (λ b. cond b (Some l) (parent_at nodes l)) f ∙ at_parent l last.0 last.1 ∙ p.1, p.2)

  -- ---- an element that isn't the parent of the next node ends there

  module _ (n a : ℕ) (node : Node) (here : slice_get nodes a ≡ Some node) (before : a < n) (above : IsAbove (parent_at nodes n) (Some a)) (other : Some a ≡ parent_at nodes n → ⊥) where
    low : (q : ℕ) → parent_at nodes n ≡ Some q → q < a
    low q e =
        let k = above q e in
        let le : q ≤ a = subst (λ x. q ≤ x) (sym (same_Some a k.0 k.1)) k.2 in
        by_order le (cases_order q a)
      where
        by_order : q ≤ a → (q ≡ a) ⊎ ((q < a) ⊎ (a < q)) → q < a
        by_order le (inl s) = absurd (other (ap Some (sym s) ∙ sym e))
        by_order le (inr (inl s)) = s
        by_order le (inr (inr s)) = absurd (omega (arith, le, s))

    pub above_parent : IsAbove (parent_at nodes n) node.parent
    above_parent q e =
        let k = parent_node n q e in
        between q a n node k.0 here k.1 k.2 (low q e) before

    no_later : (k : ℕ) (m : Node) → slice_get nodes k ≡ Some m → n ≤ k → m.parent ≡ Some a → ⊥
    no_later k m e le f = by_order (cases_lt n k)
      where
        by_order : (n < k) ⊎ (k ≤ n) → ⊥
        by_order (inr g) = other (sym f ∙ sym (at_parent k m e) ∙ ap (parent_at nodes) (let s : k ≡ n = omega (arith, g, le) in s))
        by_order (inl l) =
            let within = slice_get_within nodes k m e in
            let next = slice_some nodes n (omega (arith, within, l)) in
            let p = between a n k next.0 m next.1 e f before l in
            let under = low p.0 (at_parent n next.0 next.1 ∙ p.1) in
            omega (arith, under, p.2)

    pub whole_before : HasAllBefore nodes a n
    whole_before = by_end (cases_lt n (length nodes))
      where
        not_child : (k : ℕ) (m : Node) → slice_get nodes k ≡ Some m → n ≤ k → is_same_parent m.parent (Some a) ≡ false
        not_child k m e le = by_bool (is_same_parent m.parent (Some a)) (λ t. absurd (no_later k m e le (same_parent m.parent (Some a) t))) (λ f. f)

        by_end : (n < length nodes) ⊎ (length nodes ≤ n) → HasAllBefore nodes a n
        by_end (inr le) = all_before nodes n (Some a) le
        by_end (inl l) = sym (none_to nodes (Some a) n (length nodes) (omega (arith, l)) (omega arith) (λ k m e le u. not_child k m e le)) ∙ all_before nodes (length nodes) (Some a) (omega arith)

-- where no element goes on, the next node has no parent
pub above_none : (parent going : Option ℕ) → IsAbove parent going → going ≡ None → going ≡ parent
above_none None going h e = e
above_none (Some q) going h e = absurd (none-some _ (sym e ∙ (h q refl).1))

-- ---- as the code asks

same_option : (o : Option ℕ) → option_eq eqb o o ≡ true
same_option None = refl
same_option (Some n) = eq-eqb n n refl

pub told_apart : (o p : Option ℕ) (b : Bool) → b ≡ not (option_eq eqb o p) → b ≡ true → o ≡ p → ⊥
told_apart o p b e t same = false≢true (sym (ap not (ap (option_eq eqb o) (sym same) ∙ same_option o)) ∙ sym e ∙ t)

smaller_by : (o p : Option ℕ) (a : ℕ) → ((q : ℕ) → o ≡ Some q → q < a) → p ≡ Some a → option_map_or suc o 0 < option_map_or suc p 0
smaller_by None p a b e = subst (λ x. 0 < option_map_or suc x 0) (sym e) (let l : 0 < suc a = omega arith in l)
smaller_by (Some q) p a b e = subst (λ x. suc q < option_map_or suc x 0) (sym e) (let l = b q refl in let m : suc q < suc a = omega (arith, l) in m)

pub smaller_open : (nodes : List Node) → IsPage nodes → (a : ℕ) (node : Node) (o p : Option ℕ) → slice_get nodes a ≡ Some node → o ≡ node.parent → p ≡ Some a → option_map_or suc o 0 < option_map_or suc p 0
smaller_open nodes page a node o p here e f = smaller_by o p a (λ q s. parent_before nodes page a node q here (sym e ∙ s)) f
