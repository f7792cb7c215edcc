-- A standing says that its node is hidden exactly where `display: none` wins at the node or around it.
use Rattle.std.proofs.Common.{◌≡◌, ℕ, ◌+◌, ◌<◌, ◌≤◌, Bool, true, false, cond, ◌&&◌, ◌||◌, inl, inr, ◌↔◌, List, [], ◌∷◌, ◌++◌, length, slice_get, Option, Some, None, Result, Ok, Err, refl, sym, ap, ◌∙◌, subst, arith, length-append}
use Rattle.std.specs.List.{list_any}
use Rattle.std.specs.Option.{option_map_or}
use Rattle.std.proofs.lemmas.Bool.{cases_lt, or_cases, or_left, or_right}
use Rattle.std.proofs.lemmas.List.Folds.{list_any-append}
use Rattle.std.proofs.lemmas.Option.{same_Some, slice_get-get_or, slice_get_within}
use Rattle.std.proofs.Math.Bool.{and-false, or-false}
use Rattle.viz_base.specs.Pages.{IsPage}
use Rattle.viz_base.specs.declared.nodes.Node.{Node}
use Rattle.viz_base.specs.declared.settings.Prop.{Prop}
use Rattle.viz_base.specs.declared.settings.Prop.TheVariants as of_prop
use Rattle.viz_base.specs.declared.settings.Setting.{Setting}
use Rattle.viz_base.specs.declared.settings.Value.{Value}
use Rattle.viz_base.proofs.Truths.{by_bool}
use Rattle.viz_base.proofs.ListLemmas.{get_before, get_last}
use Rattle.css_semantics.specs.declared.claims.Claim.{Claim}
use Rattle.css_semantics.specs.declared.claims.Ruleset.{Ruleset}
use Rattle.css_semantics.specs.declared.claims.Standing.{Standing}
use Rattle.css_semantics.specs.Cascade.{ComesTo, comes_to}
use Rattle.css_semantics.specs.CascadeNodes.{around_root, first_refused, found_or, hides, is_hidden, is_word, judged, node_outcome, refused_at, refuses, set_by, settings_by, settings_of, standing_around, winners_of}
use Rattle.css_semantics.specs.CascadeOrder.{is_prop}
use Rattle.css_semantics.specs.Hidden.{HaveCome, IsHidden, has_none, inside, is_none, itself}
use Rattle.css_semantics.specs.Matching.{IsAncestor, IsParent, further, parent}
use Rattle.css_semantics.proofs.Parents.{child_after, one_parent}

-- ---- what hides a node is among its settings

refused_hides_not : (replaced : Bool) (outer : Standing) (p : Prop) (v : Option Value) → refuses replaced outer p v ≡ true → (is_prop p of_prop.Display && is_word 0 v) ≡ false
refused_hides_not replaced outer of_prop.Display None e = refl
refused_hides_not replaced outer of_prop.Display (Some v) e = absurd (only_limits replaced e) where
  only_limits : (b : Bool) → (b && false) ≡ true → ⊥
  only_limits true h = cc
  only_limits false h = cc
refused_hides_not replaced outer _ v e = refl

one_hides : (replaced : Bool) (outer : Standing) (p : Prop) (v : Option Value) → list_any is_none (cond (refuses replaced outer p v) [] (set_by p v)) ≡ (is_prop p of_prop.Display && is_word 0 v)
one_hides replaced outer p None = nothing_set (refuses replaced outer p None) ∙ sym (and-false (is_prop p of_prop.Display)) where
  nothing_set : (b : Bool) → list_any is_none (cond b [] []) ≡ false
  nothing_set true = refl
  nothing_set false = refl
one_hides replaced outer p (Some v) =
    by_bool (refuses replaced outer p (Some v))
    (λ t. ap (λ b. list_any is_none (cond b [] (set_by p (Some v)))) t ∙ sym (refused_hides_not replaced outer p (Some v) t))
    (λ f. ap (λ b. list_any is_none (cond b [] (set_by p (Some v)))) f ∙ or-false (is_prop p of_prop.Display && is_word 0 (Some v)))

settings_hide : (replaced : Bool) (outer : Standing) (cs : List Claim) → list_any is_none (settings_of replaced outer cs) ≡ list_any hides cs
settings_hide replaced outer [] = refl
settings_hide replaced outer (c ∷ cs) =
    list_any-append is_none (settings_by replaced outer c) (settings_of replaced outer cs)
    ∙ ap (λ b. b || list_any is_none (settings_of replaced outer cs)) (one_hides replaced outer c.prop c.value)
    ∙ ap (λ b. hides c || b) (settings_hide replaced outer cs)

-- ---- one node

abbrev HidesAs : Standing → Result (List Setting × Standing) Claim → Type 0
HidesAs outer (Ok come) = come.1.hidden ≡ (outer.hidden || list_any is_none come.0)
HidesAs outer (Err c) = Unit {0}

outcome_hides : (outer : Standing) (hidden : Bool) (settings : List Setting) (o : Option Claim) → hidden ≡ (outer.hidden || list_any is_none settings) → HidesAs outer (node_outcome outer hidden settings o)
outcome_hides outer hidden settings None e = e
outcome_hides outer hidden settings (Some c) e = tt

judged_hides : (replaced : Bool) (outer : Standing) (cs : List Claim) → HidesAs outer (judged replaced outer cs)
judged_hides replaced outer cs =
    outcome_hides outer (is_hidden outer cs) (settings_of replaced outer cs) (refused_at (is_hidden outer cs) (first_refused replaced outer cs)) (ap (λ b. outer.hidden || b) (sym (settings_hide replaced outer cs)))

node_hides : {nodes : List Node} {rulesets : List Ruleset} {standings : List Standing} {n : ℕ} {node : Node} {r : Result (List Setting × Standing) Claim} → ComesTo nodes rulesets standings n node r → HidesAs (standing_around standings node.parent) r
node_hides {standings = standings} {node = node} (comes_to {all = all} applied) = judged_hides _ (standing_around standings node.parent) (winners_of all)

-- ---- one more item

-- ---- parents stand before

ancestor_before : {nodes : List Node} {top n : ℕ} → IsPage nodes → IsAncestor nodes top n → top < n
ancestor_before {nodes} {top} {n} page (IsAncestor.parent h) = child_after nodes page top n h
ancestor_before {nodes} {top} {n} page (IsAncestor.further {p = p} h more) = let a = child_after nodes page p n h in let b = ancestor_before page more in omega arith

-- ---- one more node

abbrev Longer : List (List Setting) → List Setting → List (List Setting)
Longer winners x = winners ++ x ∷ []

none_before : (winners : List (List Setting)) (x : List Setting) (n : ℕ) → n < length winners → has_none (Longer winners x) n ≡ has_none winners n
none_before winners x n l = ap (λ o. option_map_or (list_any is_none) o false) (get_before winners (x ∷ []) n l)

none_last : (winners : List (List Setting)) (x : List Setting) → has_none (Longer winners x) (length winners) ≡ list_any is_none x
none_last winners x = ap (λ o. option_map_or (list_any is_none) o false) (get_last winners x)

hidden_longer : {nodes : List Node} {winners : List (List Setting)} {n : ℕ} (x : List Setting) → IsPage nodes → n < length winners → IsHidden nodes winners n → IsHidden nodes (Longer winners x) n
hidden_longer {winners = winners} {n = n} x page l (IsHidden.itself e) = itself (none_before winners x n l ∙ e)
hidden_longer {winners = winners} {n = n} x page l (IsHidden.inside {top = top} a e) = let b = ancestor_before page a in let k : top < length winners = omega arith in inside a (none_before winners x top k ∙ e)

hidden_shorter : {nodes : List Node} {winners : List (List Setting)} {n : ℕ} (x : List Setting) → IsPage nodes → n < length winners → IsHidden nodes (Longer winners x) n → IsHidden nodes winners n
hidden_shorter {winners = winners} {n = n} x page l (IsHidden.itself e) = itself (sym (none_before winners x n l) ∙ e)
hidden_shorter {winners = winners} {n = n} x page l (IsHidden.inside {top = top} a e) = let b = ancestor_before page a in let k : top < length winners = omega arith in inside a (sym (none_before winners x top k) ∙ e)

-- what is hidden inside a node that is hidden
inside_hidden : {nodes : List Node} {winners : List (List Setting)} {p n : ℕ} → IsParent nodes p n → IsHidden nodes winners p → IsHidden nodes winners n
inside_hidden h (IsHidden.itself e) = inside (parent h) e
inside_hidden h (IsHidden.inside a e) = inside (further h a) e

around_hidden : {nodes : List Node} {winners : List (List Setting)} {p n : ℕ} → IsParent nodes p n → IsHidden nodes winners n → has_none winners n ≡ false → IsHidden nodes winners p
around_hidden h (IsHidden.itself e) f = let k : true ≡ false = sym e ∙ f in cc
around_hidden {nodes} {winners} {p} {n} h (IsHidden.inside {top = top} (IsAncestor.parent k) e) f = itself (ap (has_none winners) (one_parent nodes p top n h k) ∙ e)
around_hidden {nodes} {winners} {p} {n} h (IsHidden.inside (IsAncestor.further {p = q} k a) e) f = subst (IsHidden nodes winners) (sym (one_parent nodes p q n h k)) (inside a e)

none_is : (nodes : List Node) (p n : ℕ) (node : Node) → slice_get nodes n ≡ Some node → node.parent ≡ None → IsParent nodes p n → ⊥
none_is nodes p n node at e k =
    let same = same_Some k.0 node (sym k.1 ∙ at) in
    let both : Some p ≡ None = sym k.2 ∙ ap (λ (m : Node). m.parent) same ∙ e in cc

no_parent : {nodes : List Node} {winners : List (List Setting)} {n : ℕ} (node : Node) → slice_get nodes n ≡ Some node → node.parent ≡ None → IsHidden nodes winners n → has_none winners n ≡ true
no_parent node at e (IsHidden.itself h) = h
no_parent {nodes} {n = n} node at e (IsHidden.inside {top = top} (IsAncestor.parent k) h) = absurd (none_is nodes top n node at e k)
no_parent {nodes} {n = n} node at e (IsHidden.inside (IsAncestor.further {p = p} k a) h) = absurd (none_is nodes p n node at e k)

-- ---- what standings say

abbrev Agrees : List Node → List (List Setting) → ℕ → Standing → Type 0
Agrees nodes winners n s = (s.hidden ≡ true) ↔ IsHidden nodes winners n

abbrev AllAgree : List Node → List Standing → List (List Setting) → Type 0
AllAgree nodes standings winners = (length standings ≡ length winners) × ((n : ℕ) (s : Standing) → slice_get standings n ≡ Some s → Agrees nodes winners n s)

-- the node behind those so far, whose parent is none or one of them
last_agrees : (nodes : List Node) (standings : List Standing) (winners : List (List Setting)) (node : Node) (x : List Setting) (s : Standing) (o : Option ℕ) → IsPage nodes → AllAgree nodes standings winners → slice_get nodes (length winners) ≡ Some node → node.parent ≡ o
    → s.hidden ≡ ((standing_around standings o).hidden || list_any is_none x) → Agrees nodes (Longer winners x) (length winners) s
last_agrees nodes standings winners node x s None page all at e h =
    (λ t. itself (none_last winners x ∙ sym h ∙ t), λ k. h ∙ sym (none_last winners x) ∙ no_parent node at e k)
last_agrees nodes standings winners node x s (Some p) page all at e h =
    let is_parent : IsParent nodes p (length winners) = (node, at, e) in
    let before : p < length winners = child_after nodes page p (length winners) is_parent in
    behind is_parent before (slice_get standings p) refl where
      behind : IsParent nodes p (length winners) → p < length winners → (found : Option Standing) → slice_get standings p ≡ found → Agrees nodes (Longer winners x) (length winners) s
      behind is_parent before None f = let l = all.0 in absurd (past (slice_get-get_or standings p around_root (omega arith)) f) where
        past : {y : Standing} → slice_get standings p ≡ Some y → slice_get standings p ≡ None → ⊥
        past {y} g k = let both : Some y ≡ None = sym g ∙ k in cc
      behind is_parent before (Some outer) f =
          let is : s.hidden ≡ (outer.hidden || list_any is_none x) = h ∙ ap (λ q. (found_or around_root q).hidden || list_any is_none x) f in
          let agrees = all.1 p outer f in (
            λ t. elim (or_cases outer.hidden (list_any is_none x) (sym is ∙ t)) [
              | inl a ↦ inside_hidden is_parent (hidden_longer x page before (agrees.0 a))
              | inr b ↦ itself (none_last winners x ∙ b)
            ],
            λ k. is ∙ by_bool (list_any is_none x) (or_right outer.hidden (list_any is_none x))
                (λ g. or_left outer.hidden (list_any is_none x) (agrees.1 (hidden_shorter x page before (around_hidden is_parent k (none_last winners x ∙ g))))),
          )

longer_agree : (nodes : List Node) (standings : List Standing) (winners : List (List Setting)) (x : List Setting) (s : Standing) → IsPage nodes → AllAgree nodes standings winners → Agrees nodes (Longer winners x) (length winners) s → AllAgree nodes (standings ++ s ∷ []) (Longer winners x)
longer_agree nodes standings winners x s page all here = (
  length-append standings (s ∷ []) ∙ ap (λ n. n + 1) all.0 ∙ sym (length-append winners (x ∷ [])),
  λ n t e. elim (cases_lt n (length standings)) [
    | inl l ↦ before n t l (sym (get_before standings (s ∷ []) n l) ∙ e)
    | inr l ↦ last n t l (slice_get_within (standings ++ s ∷ []) n t e) e
  ],
) where
  before : (n : ℕ) (t : Standing) → n < length standings → slice_get standings n ≡ Some t → Agrees nodes (Longer winners x) n t
  before n t l e =
      let size = all.0 in
      let k : n < length winners = omega arith in
      let agrees = all.1 n t e in
      (λ h. hidden_longer x page k (agrees.0 h), λ h. agrees.1 (hidden_shorter x page k h))

  last : (n : ℕ) (t : Standing) → length standings ≤ n → n < length (standings ++ s ∷ []) → slice_get (standings ++ s ∷ []) n ≡ Some t → Agrees nodes (Longer winners x) n t
  last n t l m e =
      let size : length (standings ++ s ∷ []) ≡ length standings + 1 = length-append standings (s ∷ []) in
      let is : n ≡ length standings = omega arith in
      let same : s ≡ t = same_Some s t (sym (get_last standings s) ∙ ap (slice_get (standings ++ s ∷ [])) (sym is) ∙ e) in
      subst (Agrees nodes (Longer winners x) n) same (subst (λ k. Agrees nodes (Longer winners x) k s) (sym (is ∙ all.0)) here)

pub standings_agree : {nodes : List Node} {rulesets : List Ruleset} {standings : List Standing} {winners : List (List Setting)} → IsPage nodes → HaveCome nodes rulesets standings winners → AllAgree nodes standings winners
standings_agree page HaveCome.nothing_yet = (refl, λ n s e. cc)
standings_agree {nodes} page (HaveCome.one_more {standings = standings} {winners = winners} {node = node} {settings = settings} {standing = standing} come at comes) =
    let all = standings_agree page come in
    longer_agree nodes standings winners settings standing page all (last_agrees nodes standings winners node settings standing node.parent page all at refl (node_hides comes))
