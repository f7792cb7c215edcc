-- What a shown node is in is shown too, and takes boxes.
use Rattle.std.proofs.Common.{◌≡◌, ℕ, zero, suc, ◌<◌, ◌≤◌, Bool, true, false, not, nat_lt, ◌&&◌, ◌||◌, List, ◌∷◌, length, Option, Some, None, option_and_then, slice_get, IsTrue, refl, sym, ◌∙◌, ap, subst, arith, ltb-true}
use Rattle.std.specs.List.{list_all}
use Rattle.std.proofs.lemmas.Bool.{and_parts}
use Rattle.viz_base.specs.Pages.{IsPage, parent_fits, is_element_at}
use Rattle.viz_base.specs.declared.nodes.Node.{Node}
use Rattle.viz_base.specs.declared.styles.Style.{Style}
use Rattle.layout_semantics.specs.Elements.{is_closed, is_hidden, is_shown, node_passes, parent_of, ancestors, upwards}

-- ---- parents

pub not_or : (a b : Bool) → not (a || b) ≡ true → (a ≡ false) × (b ≡ false)
not_or true b e = absurd (cc)
not_or false true e = absurd (cc)
not_or false false e = (refl, refl)

module _ (nodes : List Node) (page : IsPage nodes) where
  -- the parent of a node
  parent_by : (at q : ℕ) (o : Option Node) → slice_get nodes at ≡ o → option_and_then (λ (n : Node). n.parent) o ≡ Some q → (q < at) × (is_element_at nodes q ≡ true)
  parent_by at q None e p = absurd (cc)
  parent_by at q (Some n) e p =
      let fits : IsTrue (parent_fits nodes at n.parent) = page.parents at n e in
      let both = and_parts (nat_lt q at) (is_element_at nodes q) (subst (λ o. IsTrue (parent_fits nodes at o)) p fits) in
      (ltb-true q at both.0, both.1)

  pub parent_is : (at q : ℕ) → parent_of nodes at ≡ Some q → (q < at) × (is_element_at nodes q ≡ true)
  parent_is at q e = parent_by at q (slice_get nodes at) refl e

  -- further levels than a node's number change nothing
  upwards_by : (more q : ℕ) (o : Option ℕ) → ((r : ℕ) → o ≡ Some r → r < q) → q ≤ more → ((r m : ℕ) → suc m ≡ more → r ≤ m → upwards m nodes (parent_of nodes r) ≡ upwards (suc m) nodes (parent_of nodes r)) → upwards more nodes o ≡ upwards (suc more) nodes o
  upwards_by zero q None f l again = refl
  upwards_by (suc m) q None f l again = refl
  upwards_by zero q (Some r) f l again = let below = f r refl in absurd (omega (arith, below, l))
  upwards_by (suc m) q (Some r) f l again = let below = f r refl in ap (λ (above : List ℕ). r ∷ above) (again r m refl (omega (arith, below, l)))

  pub upwards_enough : (more q : ℕ) → q ≤ more → upwards more nodes (parent_of nodes q) ≡ upwards (suc more) nodes (parent_of nodes q)
  upwards_enough zero q l = upwards_by zero q (parent_of nodes q) (λ r e. (parent_is q r e).0) l (λ r m e h. absurd (omega (arith, e)))
  upwards_enough (suc more) q l = upwards_by (suc more) q (parent_of nodes q) (λ r e. (parent_is q r e).0) l (λ r m e h. let same : m ≡ more = omega (arith, e) in subst (λ k. upwards k nodes (parent_of nodes r) ≡ upwards (suc k) nodes (parent_of nodes r)) (sym same) (upwards_enough more r (omega (arith, h, same))))

  -- the ancestors of a node are its parent and the parent's
  pub ancestors_are : (at q : ℕ) → at < length nodes → parent_of nodes at ≡ Some q → ancestors nodes at ≡ q ∷ ancestors nodes q
  ancestors_are at q l e = by_length (length nodes) refl
    where
      by_length : (k : ℕ) → length nodes ≡ k → upwards k nodes (parent_of nodes at) ≡ q ∷ upwards k nodes (parent_of nodes q)
      by_length zero s = absurd (omega (arith, l, s))
      by_length (suc k) s =
          let below = (parent_is at q e).0 in
          ap (upwards (suc k) nodes) e ∙ ap (λ (above : List ℕ). q ∷ above) (upwards_enough k q (omega (arith, below, l, s)))

  -- the parent of a shown node is shown, and no closed element
  pub parent_shown : (styles : List Style) (at q : ℕ) → at < length nodes → parent_of nodes at ≡ Some q → is_shown nodes styles at ≡ true → (is_shown nodes styles q ≡ true) × (node_passes is_closed nodes q ≡ false)
  parent_shown styles at q l e s =
      let parts = and_parts (not (is_hidden styles at)) (list_all (λ above. not (is_hidden styles above || node_passes is_closed nodes above)) (ancestors nodes at)) s in
      let all : list_all (λ above. not (is_hidden styles above || node_passes is_closed nodes above)) (q ∷ ancestors nodes q) ≡ true = subst (λ (l : List ℕ). list_all (λ above. not (is_hidden styles above || node_passes is_closed nodes above)) l ≡ true) (ancestors_are at q l e) parts.1 in
      let first = and_parts (not (is_hidden styles q || node_passes is_closed nodes q)) (list_all (λ above. not (is_hidden styles above || node_passes is_closed nodes above)) (ancestors nodes q)) all in
      let open_q = not_or (is_hidden styles q) (node_passes is_closed nodes q) first.0 in
      (both (is_hidden styles q) (list_all (λ above. not (is_hidden styles above || node_passes is_closed nodes above)) (ancestors nodes q)) open_q.0 first.1, open_q.1)
    where
      both : (a b : Bool) → a ≡ false → b ≡ true → (not a && b) ≡ true
      both a b e f = ap (λ c. not c && b) e ∙ f
