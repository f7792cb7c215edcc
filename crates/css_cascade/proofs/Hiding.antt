-- Which nodes are hidden, one after another.
use Rattle.std.proofs.Common.{◌≡◌, ℕ, ◌+◌, ◌<◌, ◌≤◌, Bool, true, false, ◌||◌, ◌↔◌, List, [], ◌∷◌, ◌++◌, length, get_or, slice_get, map, Option, Some, None, Ok, refl, sym, ap, ◌∙◌, subst, arith, length-append, inl, inr, ◌⊎◌}
use Rattle.std.specs.List.{list_any}
use Rattle.std.proofs.lemmas.Bool.{false≢true, or_cases, or_left, or_right}
use Rattle.std.proofs.lemmas.List.{get_or_past}
use Rattle.std.proofs.lemmas.Option.{same_Some, slice_get-get_or, slice_get_cases}
use Rattle.viz_base.specs.Pages.{IsPage}
use Rattle.viz_base.specs.declared.nodes.Body.{Body}
use Rattle.viz_base.specs.declared.nodes.Node.{Node}
use Rattle.viz_base.specs.declared.sheets.Sheet.{Sheet}
use Rattle.viz_base.proofs.ListLemmas.{get_before}
use Rattle.viz_base.proofs.Sameness.{same_Ok}
use Rattle.css_semantics.specs.declared.claims.Ruleset.{Ruleset}
use Rattle.css_semantics.specs.CascadeNodes.{hides, winners_of}
use Rattle.css_semantics.specs.CascadeReading.{AreApplied, AreRulesets}
use Rattle.css_semantics.specs.Matching.{IsAncestor, IsParent, further, parent}
use Rattle.css_semantics.specs.PseudoCascade.{IsNone, IsNotShown, inside, itself}
use Rattle.css_semantics.proofs.Parents.{child_after, one_parent}
use Rattle.css_cascade.specs.steps.Beside.{AreHidden, AreHiddenTo, HidesHere, is_inside_hidden}
use Rattle.css_cascade.proofs.OneCascade.{same_applied, same_rulesets}
use Rattle.css_cascade.proofs.Places.{at_or_last}

-- ---- what is hidden inside

inside_hidden : {nodes : List Node} {texts : List (List ℕ)} {sheets : List Sheet} {p n : ℕ} → IsParent nodes p n → IsNotShown nodes texts sheets p → IsNotShown nodes texts sheets n
inside_hidden h (IsNotShown.itself e) = inside (parent h) e
inside_hidden h (IsNotShown.inside a e) = inside (further h a) e

-- ---- what is said of one node

pub hidden_at : (nodes : List Node) (texts : List (List ℕ)) (sheets : List Sheet) (hidden : List Bool) → AreHidden nodes texts sheets hidden → (n : ℕ) → get_or hidden n false ≡ true → IsNotShown nodes texts sheets n
hidden_at nodes texts sheets hidden h n e = by_case (slice_get_cases hidden n).1
  where
    by_case : ((b : Bool) × (n < length hidden) × (slice_get hidden n ≡ Some b) × (get_or hidden n b ≡ b)) ⊎ ((length hidden ≤ n) × (slice_get hidden n ≡ None)) → IsNotShown nodes texts sheets n
    by_case (inl k) = (h.each n true (slice_get-get_or hidden n false k.1 ∙ ap Some e)).0 refl
    by_case (inr k) = absurd (false≢true (sym (get_or_past hidden n false k.0) ∙ e))

pub shown_at : (nodes : List Node) (texts : List (List ℕ)) (sheets : List Sheet) (hidden : List Bool) → AreHidden nodes texts sheets hidden → (n : ℕ) → n < length nodes → get_or hidden n false ≡ false → IsNotShown nodes texts sheets n → ⊥
shown_at nodes texts sheets hidden h n l e k =
    let all = h.one_each in
    let at = slice_get-get_or hidden n false (omega arith) ∙ ap Some e in
    false≢true ((h.each n false at).1 k)

-- ---- one more node

module _ (nodes : List Node) (texts : List (List ℕ)) (sheets : List Sheet) (rulesets : List Ruleset) (page : IsPage nodes) (read : AreRulesets None texts sheets (Ok rulesets)) (at : ℕ) (node : Node) (here : slice_get nodes at ≡ Some node) (hidden : List Bool) (h : AreHiddenTo nodes texts sheets at hidden) where
  parent_hidden : (o : Option ℕ) → node.parent ≡ o → is_inside_hidden hidden o ≡ true → IsNotShown nodes texts sheets at
  parent_hidden None e k = absurd (false≢true k)
  parent_hidden (Some p) e k = by_case (slice_get_cases hidden p).1
    where
      by_case : ((b : Bool) × (p < length hidden) × (slice_get hidden p ≡ Some b) × (get_or hidden p b ≡ b)) ⊎ ((length hidden ≤ p) × (slice_get hidden p ≡ None)) → IsNotShown nodes texts sheets at
      by_case (inl c) = inside_hidden (node, here, e) ((h.each p true (slice_get-get_or hidden p false c.1 ∙ ap Some k)).0 refl)
      by_case (inr c) = absurd (false≢true (sym (get_or_past hidden p false c.0) ∙ k))

  by_parent : (p : ℕ) → IsParent nodes p at → IsNotShown nodes texts sheets p → is_inside_hidden hidden node.parent ≡ true
  by_parent p k s =
      let l = child_after nodes page p at k in
      let all = h.one_each in
      let same = same_Some k.0 node (sym k.1 ∙ here) in
      let is : node.parent ≡ Some p = ap (λ (m : Node). m.parent) (sym same) ∙ k.2 in
      let value : get_or hidden p false ≡ true = (h.each p (get_or hidden p false) (slice_get-get_or hidden p false (omega arith))).1 s in
      ap (is_inside_hidden hidden) is ∙ value

  here_none : (b : Bool) → HidesHere nodes rulesets at node.body b → IsNone nodes texts sheets at → b ≡ true
  here_none b k none =
      let same = same_Some node none.node (sym here ∙ none.is_node) in
      let applied = same_applied k.1 none.are_applied (ap (λ (m : Node). m.body) same) (same_Ok (same_rulesets None texts sheets read none.are_rulesets)) in
      k.2 ∙ (ap (λ all. list_any hides (winners_of all)) applied ∙ none.is_hidden)

  none_here : (b : Bool) → HidesHere nodes rulesets at node.body b → b ≡ true → IsNone nodes texts sheets at
  none_here b k e = record { rulesets = rulesets; node = node; all = k.0; are_rulesets = read; is_node = here; are_applied = k.1; is_hidden = sym k.2 ∙ e }

  of_shown : (b : Bool) → HidesHere nodes rulesets at node.body b → IsNotShown nodes texts sheets at → (is_inside_hidden hidden node.parent || b) ≡ true
  of_shown b k (IsNotShown.itself none) = or_right (is_inside_hidden hidden node.parent) b (here_none b k none)
  of_shown b k (IsNotShown.inside (IsAncestor.parent {p = p} q) none) = or_left (is_inside_hidden hidden node.parent) b (by_parent p q (itself none))
  of_shown b k (IsNotShown.inside (IsAncestor.further {p = p} q a) none) = or_left (is_inside_hidden hidden node.parent) b (by_parent p q (inside a none))

  to_shown : (b : Bool) → HidesHere nodes rulesets at node.body b → (is_inside_hidden hidden node.parent || b) ≡ true → IsNotShown nodes texts sheets at
  to_shown b k e = by_case (or_cases (is_inside_hidden hidden node.parent) b e)
    where
      by_case : (is_inside_hidden hidden node.parent ≡ true) ⊎ (b ≡ true) → IsNotShown nodes texts sheets at
      by_case (inl t) = parent_hidden node.parent refl t
      by_case (inr t) = itself (none_here b k t)

  pub hidden_more : (b c : Bool) → HidesHere nodes rulesets at node.body b → c ≡ (is_inside_hidden hidden node.parent || b) → AreHiddenTo nodes texts sheets (at + 1) (hidden ++ c ∷ [])
  hidden_more b c k e = record {
    one_each = length-append hidden (c ∷ []) ∙ ap (λ n. n + 1) h.one_each;
    each = λ i x at_i. by_place i x (at_or_last hidden c x at i h.one_each at_i);
  }
    where
      by_place : (i : ℕ) (x : Bool) → ((i < at) × (slice_get hidden i ≡ Some x)) ⊎ ((i ≡ at) × (c ≡ x)) → (x ≡ true) ↔ IsNotShown nodes texts sheets i
      by_place i x (inl p) = h.each i x p.1
      by_place i x (inr p) = (
        (λ t. subst (IsNotShown nodes texts sheets) (sym p.0) (to_shown b k (sym e ∙ p.1 ∙ t))),
        (λ s. sym p.1 ∙ e ∙ of_shown b k (subst (IsNotShown nodes texts sheets) p.0 s)),
      )
