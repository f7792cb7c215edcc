-- What an outcome says, from the outcome for the simple selectors before.
use Rattle.std.proofs.Common.{◌≡◌, ℕ, ◌⊎◌, inl, inr, List, [], ◌∷◌, ◌++◌, reverse, refl, sym, ◌∙◌, ap, subst}
use Rattle.std.proofs.lemmas.List.{reverse-append}
use Rattle.viz_base.specs.declared.nodes.Node.{Node}
use Rattle.viz_base.specs.declared.selectors.Compound.{Compound}
use Rattle.viz_base.specs.declared.selectors.Join.{Join}
use Rattle.viz_base.specs.declared.selectors.Join.TheVariants.{Child, Next}
use Rattle.css_semantics.specs.Matching.{IsAncestor, parent, further, IsParent, IsPrevious, MatchesCompound, MatchesParts}
use Rattle.css_semantics.proofs.Parents.{one_parent}
use Rattle.css_select.specs.declared.matching.Outcome.{Outcome}
use Rattle.css_select.specs.declared.matching.Outcome.TheVariants.{Found, Failed, Hopeless}
use Rattle.css_select.specs.steps.Outcomes.{IsAbove, IsOutcome, IsOutcomeAround, NoneAround}
use Rattle.css_select.proofs.Nodes.{one_previous, ancestor_cases, ancestor_trans, same_around}

around_by : (nodes : List Node) (p q : ℕ) → (q ≡ p) ⊎ IsAncestor nodes q p → IsAbove nodes q p
around_by nodes p q (inl e) = λ top a. subst (IsAncestor nodes top) e a
around_by nodes p q (inr b) = λ top a. ancestor_trans nodes a b

pub out_child : (nodes : List Node) (c : Compound) (ps : List (Join × Compound)) (n p : ℕ) (o : Outcome) → MatchesCompound nodes c n → IsParent nodes p n → IsOutcome nodes ps p o → IsOutcome nodes ((Child, c) ∷ ps) n o
out_child nodes c ps n p Found m k h = (m, (p, k, h))
out_child nodes c ps n p Failed m k h = λ f. h (subst (MatchesParts nodes ps) (one_parent nodes f.1.0 p n f.1.1 k) f.1.2)
out_child nodes c ps n p Hopeless m k h = λ x above f. h f.1.0 (around_by nodes p f.1.0 (ancestor_cases nodes f.1.0 p n k (above f.1.0 (parent f.1.1)))) f.1.2

pub out_no_parent : (nodes : List Node) (c : Compound) (ps : List (Join × Compound)) (n : ℕ) → ((p : ℕ) → IsParent nodes p n → ⊥) → IsOutcome nodes ((Child, c) ∷ ps) n Failed
out_no_parent nodes c ps n h = λ k. h k.1.0 k.1.1

pub out_next : (nodes : List Node) (c : Compound) (ps : List (Join × Compound)) (n s : ℕ) (o : Outcome) → MatchesCompound nodes c n → IsPrevious nodes s n → IsOutcome nodes ps s o → IsOutcome nodes ((Next, c) ∷ ps) n o
out_next nodes c ps n s Found m k h = (m, (s, k, h))
out_next nodes c ps n s Failed m k h = λ f. h (subst (MatchesParts nodes ps) (one_previous nodes f.1.0 s n f.1.1 k) f.1.2)
out_next nodes c ps n s Hopeless m k h = λ x above f.
    let t = f.1.1 in
    h f.1.0 (λ top a. same_around nodes k.parent n s top k.of_node k.sibling.0 (above top (same_around nodes t.parent f.1.0 x top t.sibling.0 t.of_node a))) f.1.2

pub out_no_sibling : (nodes : List Node) (c : Compound) (ps : List (Join × Compound)) (n : ℕ) → ((s : ℕ) → IsPrevious nodes s n → ⊥) → IsOutcome nodes ((Next, c) ∷ ps) n Failed
out_no_sibling nodes c ps n h = λ k. h k.1.0 k.1.1

-- ---- at the elements around a node, one after another

left_by : (nodes : List Node) (ps : List (Join × Compound)) {top p : ℕ} → (top ≡ p) ⊎ IsAncestor nodes top p → (MatchesParts nodes ps p → ⊥) → MatchesParts nodes ps top → IsAncestor nodes top p
left_by nodes ps (inl e) none m = absurd (none (subst (MatchesParts nodes ps) e m))
left_by nodes ps (inr a) none m = a

no_ancestor : (nodes : List Node) {top n : ℕ} → IsAncestor nodes top n → ((p : ℕ) → IsParent nodes p n → ⊥) → ⊥
no_ancestor nodes (parent {p = p} h) none = none p h
no_ancestor nodes (further {p = p} h a) none = none p h

pub left_further : (nodes : List Node) (ps : List (Join × Compound)) (n k p : ℕ) → ((top : ℕ) → IsAncestor nodes top n → MatchesParts nodes ps top → IsAncestor nodes top k) → IsParent nodes p k → (MatchesParts nodes ps p → ⊥)
    → (top : ℕ) → IsAncestor nodes top n → MatchesParts nodes ps top → IsAncestor nodes top p
left_further nodes ps n k p h q none top a m = left_by nodes ps (ancestor_cases nodes top p k q (h top a m)) none m

pub none_left : (nodes : List Node) (ps : List (Join × Compound)) (n k p : ℕ) → ((top : ℕ) → IsAncestor nodes top n → MatchesParts nodes ps top → IsAncestor nodes top k) → IsParent nodes p k
    → ((m : ℕ) → IsAbove nodes m p → MatchesParts nodes ps m → ⊥) → NoneAround nodes ps n
none_left nodes ps n k p h q none = λ top a m. none top (around_by nodes p top (ancestor_cases nodes top p k q (h top a m))) m

pub none_above : (nodes : List Node) (ps : List (Join × Compound)) (n k : ℕ) → ((top : ℕ) → IsAncestor nodes top n → MatchesParts nodes ps top → IsAncestor nodes top k) → ((p : ℕ) → IsParent nodes p k → ⊥) → NoneAround nodes ps n
none_above nodes ps n k h none = λ top a m. no_ancestor nodes (h top a m) none

pub around_out : (nodes : List Node) (ps : List (Join × Compound)) (n k p : ℕ) (o : Outcome) → (o ≡ Failed → ⊥) → ((top : ℕ) → IsAncestor nodes top n → MatchesParts nodes ps top → IsAncestor nodes top k) → ((top : ℕ) → IsAncestor nodes top k → IsAncestor nodes top n) → IsParent nodes p k
    → IsOutcome nodes ps p o → IsOutcomeAround nodes ps n o
around_out nodes ps n k p Found f left around q h = (p, around p (parent q), h)
around_out nodes ps n k p Failed f left around q h = absurd (f refl)
around_out nodes ps n k p Hopeless f left around q h = none_left nodes ps n k p left q h

-- ---- the simple selectors as a slice, the last of them last

pub at_parts : (nodes : List Node) (parts before : List (Join × Compound)) (last : Join × Compound) (n : ℕ) (o : Outcome) (join : Join) → parts ≡ before ++ last ∷ [] → last.0 ≡ join → IsOutcome nodes ((join, last.1) ∷ reverse before) n o → IsOutcome nodes (reverse parts) n o
at_parts nodes parts before last n o join e is h =
    let whole : (join, last.1) ∷ reverse before ≡ reverse parts =
    sym (ap (λ j. (j, last.1) ∷ reverse before) is) ∙ sym (reverse-append before (last ∷ [])) ∙ ap reverse (sym e) in
    subst (λ ps. IsOutcome nodes ps n o) whole h
