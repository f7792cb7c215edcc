-- Each name of a formula whose tokens may stand where they stand is bound.
use Rattle.std.proofs.Common.{◌≡◌, ℕ, ◌+◌, nat_lt, bytes_eq, Bool, true, ◌&&◌, List, [], ◌∷◌, ◌++◌, length, Option, Some, None, refl, sym, ◌∙◌, ap, rules, arith}
use Rattle.std.proofs.lemmas.Bool.{and_from, lt-ltb}
use Rattle.std.proofs.lemmas.List.Folds.{list_all-append}
use Rattle.std.proofs.lemmas.List.Quantifiers.{position-Some}
use Rattle.std.specs.List.{list_all}
use Rattle.viz_base.specs.declared.formulas.Edge.{Edge}
use Rattle.viz_base.specs.declared.formulas.Formula.{Formula}
use Rattle.viz_base.specs.declared.formulas.Formula.TheVariants as of_formula
use Rattle.viz_base.specs.declared.formulas.Formula.TheViews.{the_lemmas}
use Rattle.viz_base.specs.declared.formulas.Formula.TheFolds.{fold-roll-Formula, fold_out-Formula}
use Rattle.viz_base.specs.declared.formulas.Set.{Set}
use Rattle.viz_base.specs.declared.formulas.Sign.{Sign}
use Rattle.viz_base.specs.declared.formulas.Summand.{Summand}
use Rattle.viz_base.specs.declared.formulas.Term.{Term}
use Rattle.viz_base.specs.Formulas.{edge_is_bound, is_bound_in, term_is_bound}
use Rattle.vis_read.specs.declared.lexemes.Pair.{Pair}
use Rattle.vis_read.specs.declared.lexemes.Pair.TheVariants as of_pair
use Rattle.vis_read.specs.declared.lexemes.Quantifier.{Quantifier}
use Rattle.vis_read.specs.declared.lexemes.Quantifier.TheVariants as of_quantifier
use Rattle.vis_read.specs.Grammar.{Around, fine, unbound, Judged, AreFine, bound_check, number_or_zero, quantifiers_between, name_check, name_number, paired, quantified, IsEdge, face, ring, width, height, IsPart, number, times, once, AreParts, no_more, plus, minus, IsTerm, positive, negative, Rule, consequence, disjuncts, conjuncts, Reads, quantifies, connects, no_implies, implies, first_disjunct, no_or, or, first_conjunct, no_and, and, negates, parens, truth, compares, pairs, AreFormula}

-- ---- one level of a formula

bound-Const : (value : Bool) (n : ℕ) → is_bound_in (of_formula.Const value) n ≡ true
bound-Const value n = search (rules, the_lemmas, fold-roll-Formula, fold_out-Formula)

bound-Forall : (set : Set) (f : Formula) (n : ℕ) → is_bound_in (of_formula.Forall set f) n ≡ is_bound_in f (n + 1)
bound-Forall set f n = search (rules, the_lemmas, fold-roll-Formula, fold_out-Formula)

bound-Exists : (set : Set) (f : Formula) (n : ℕ) → is_bound_in (of_formula.Exists set f) n ≡ is_bound_in f (n + 1)
bound-Exists set f n = search (rules, the_lemmas, fold-roll-Formula, fold_out-Formula)

bound-Implies : (f g : Formula) (n : ℕ) → is_bound_in (of_formula.Implies f g) n ≡ is_bound_in f n && is_bound_in g n
bound-Implies f g n = search (rules, the_lemmas, fold-roll-Formula, fold_out-Formula)

bound-Or : (f g : Formula) (n : ℕ) → is_bound_in (of_formula.Or f g) n ≡ is_bound_in f n && is_bound_in g n
bound-Or f g n = search (rules, the_lemmas, fold-roll-Formula, fold_out-Formula)

bound-And : (f g : Formula) (n : ℕ) → is_bound_in (of_formula.And f g) n ≡ is_bound_in f n && is_bound_in g n
bound-And f g n = search (rules, the_lemmas, fold-roll-Formula, fold_out-Formula)

bound-Not : (f : Formula) (n : ℕ) → is_bound_in (of_formula.Not f) n ≡ is_bound_in f n
bound-Not f n = search (rules, the_lemmas, fold-roll-Formula, fold_out-Formula)

bound-Cmp : (s t : Term) (sign : Sign) (n : ℕ) → is_bound_in (of_formula.Cmp s sign t) n ≡ term_is_bound n s && term_is_bound n t
bound-Cmp s t sign n = search (rules, the_lemmas, fold-roll-Formula, fold_out-Formula)

bound-Overlap : (x y n : ℕ) → is_bound_in (of_formula.Overlap x y) n ≡ nat_lt x n && nat_lt y n
bound-Overlap x y n = search (rules, the_lemmas, fold-roll-Formula, fold_out-Formula)

bound-Same : (x y n : ℕ) → is_bound_in (of_formula.Same x y) n ≡ nat_lt x n && nat_lt y n
bound-Same x y n = search (rules, the_lemmas, fold-roll-Formula, fold_out-Formula)

-- ---- names

unbound_fine : unbound ≡ fine → ⊥
unbound_fine e = cc

bound_place : (A : Around) (name : List ℕ) (place : Option ℕ) → quantifiers_between A.names name ≡ place → bound_check place ≡ fine → nat_lt (number_or_zero place) (length A.names) ≡ true
bound_place A name None e f = absurd (unbound_fine f)
bound_place A name (Some k) e f = lt-ltb k (length A.names) (position-Some (λ other. bytes_eq other name) A.names k [] e).0

bound_name : (A : Around) (name : List ℕ) → name_check A name ≡ fine → nat_lt (name_number A name) (length A.names) ≡ true
bound_name A name f = bound_place A name (quantifiers_between A.names name) refl f

-- ---- terms

abbrev is_bound_part : Around → Summand → Bool
is_bound_part A s = edge_is_bound (length A.names) s.edge

abbrev are_bound_parts : Around → List Summand → Bool
are_bound_parts A parts = list_all (is_bound_part A) parts

edge_bound : {A : Around} {ts us : List Judged} {e : Edge} → IsEdge A ts us e → AreFine ts → (edge_is_bound (length A.names) e ≡ true) × AreFine us
edge_bound {A = A} (face name f i j k rest) h = (bound_name A name h.0, h.1.1.1)
edge_bound {A = A} (ring name r f i j k l m rest) h = (bound_name A name h.0, h.1.1.1.1.1)
edge_bound (width i j k rest) h = (refl, h.1.1.1)
edge_bound (height i j k rest) h = (refl, h.1.1.1)

part_bound : {A : Around} {neg : Bool} {ts us : List Judged} {s : Summand} → IsPart A neg ts us s → AreFine ts → (is_bound_part A s ≡ true) × AreFine us
part_bound (number n unit i rest) h = (refl, h.1)
part_bound (times n i j ts rest edge le e) h = edge_bound e h.1.1
part_bound (once ts rest edge e) h = edge_bound e h

list_all-one : (A : Around) (s : Summand) → is_bound_part A s ≡ true → are_bound_parts A (s ∷ []) ≡ true
list_all-one A s h = and_from (is_bound_part A s) true h refl

one_more : (A : Around) (parts : List Summand) (s : Summand) → are_bound_parts A parts ≡ true → is_bound_part A s ≡ true → are_bound_parts A (parts ++ s ∷ []) ≡ true
one_more A parts s h k = list_all-append (is_bound_part A) parts (s ∷ []) ∙ and_from (are_bound_parts A parts) (are_bound_parts A (s ∷ [])) h (list_all-one A s k)

parts_bound : {A : Around} {parts all : List Summand} {ts us : List Judged} → AreParts A parts ts us all → are_bound_parts A parts ≡ true → AreFine ts → (are_bound_parts A all ≡ true) × AreFine us
parts_bound (no_more parts rest) k h = (k, h)
parts_bound {A = A} (plus parts all s i ts us rest p more) k h = let q = part_bound p h.1 in parts_bound more (one_more A parts s k q.0) q.1
parts_bound {A = A} (minus parts all s i ts us rest p more) k h = let q = part_bound p h.1 in parts_bound more (one_more A parts s k q.0) q.1

term_bound : {A : Around} {parts : List Summand} {ts us : List Judged} → IsTerm A ts us parts → AreFine ts → (are_bound_parts A parts ≡ true) × AreFine us
term_bound {A = A} (positive parts s ts us rest p more) h = let q = part_bound p h in parts_bound more (list_all-one A s q.0) q.1
term_bound {A = A} (negative parts s i ts us rest p more) h = let q = part_bound p h.1 in parts_bound more (list_all-one A s q.0) q.1

-- ---- formulas

bound-quantified : (q : Quantifier) (set : Set) (f : Formula) (n : ℕ) → is_bound_in (quantified q set f) n ≡ is_bound_in f (n + 1)
bound-quantified of_quantifier.Forall set f n = bound-Forall set f n
bound-quantified of_quantifier.Exists set f n = bound-Exists set f n

bound-paired : (p : Pair) (x y n : ℕ) → is_bound_in (paired p x y) n ≡ nat_lt x n && nat_lt y n
bound-paired of_pair.Overlap x y n = bound-Overlap x y n
bound-paired of_pair.Same x y n = bound-Same x y n

abbrev IsBound : Around → Formula → Type 0
IsBound A f = is_bound_in f (length A.names) ≡ true

-- what a rule's tokens are to be told of the part that is read
abbrev Given : Rule → Around → Type 0
Given (consequence h) A = IsBound A h
Given (disjuncts h) A = IsBound A h
Given (conjuncts h) A = IsBound A h
Given r A = Unit {0}

both : (A : Around) (f g : Formula) → IsBound A f → IsBound A g → is_bound_in f (length A.names) && is_bound_in g (length A.names) ≡ true
both A f g h k = and_from (is_bound_in f (length A.names)) (is_bound_in g (length A.names)) h k

length-cons : (A : Around) (name : List ℕ) → length (name ∷ A.names) ≡ length A.names + 1
length-cons A name = omega arith

bound_rule : {r : Rule} {A : Around} {ts us : List Judged} {f : Formula} → Reads r A ts us f → Given r A → AreFine ts → IsBound A f × AreFine us
bound_rule (quantifies q name set A i j k l m ts rest body h) g e =
    let b = bound_rule h tt e.1.1.1.1.1 in
    (bound-quantified q set body (length A.names) ∙ (ap (is_bound_in body) (sym (length-cons A name)) ∙ b.0), b.1)
bound_rule (connects A ts us rest left f h k) g e = let b = bound_rule h tt e in bound_rule k b.0 b.1
bound_rule (no_implies A rest left) g e = (g, e)
bound_rule (implies A i ts rest left right h) g e = let b = bound_rule h tt e.1 in (bound-Implies left right (length A.names) ∙ both A left right g b.0, b.1)
bound_rule (first_disjunct A ts us rest left f h k) g e = let b = bound_rule h tt e in bound_rule k b.0 b.1
bound_rule (no_or A rest left) g e = (g, e)
bound_rule (or A i ts us rest left right f h k) g e = let b = bound_rule h tt e.1 in bound_rule k (bound-Or left right (length A.names) ∙ both A left right g b.0) b.1
bound_rule (first_conjunct A ts us rest left f h k) g e = let b = bound_rule h tt e in bound_rule k b.0 b.1
bound_rule (no_and A rest left) g e = (g, e)
bound_rule (and A i ts us rest left right f h k) g e = let b = bound_rule h tt e.1 in bound_rule k (bound-And left right (length A.names) ∙ both A left right g b.0) b.1
bound_rule (negates A i ts rest f h) g e = let b = bound_rule h tt e.1 in (bound-Not f (length A.names) ∙ b.0, b.1)
bound_rule (parens A i j ts rest f h) g e = let b = bound_rule h tt e.1 in (b.0, b.1.1)
bound_rule (truth A value i rest) g e = (bound-Const value (length A.names), e.1)
bound_rule (compares A sign i ts us rest left right l r) g e =
    let b = term_bound l e in
    let c = term_bound r b.1.1 in
    (bound-Cmp (record { parts = left }) (record { parts = right }) sign (length A.names) ∙ and_from (are_bound_parts A left) (are_bound_parts A right) b.0 c.0, c.1)
bound_rule (pairs A p x y i j k l m n rest) g e = (
  bound-paired p (name_number A x) (name_number A y) (length A.names)
      ∙ and_from (nat_lt (name_number A x) (length A.names)) (nat_lt (name_number A y) (length A.names)) (bound_name A x e.1.1.0) (bound_name A y e.1.1.1.1.0),
  e.1.1.1.1.1.1,
)

pub is_bound : (ts : List Judged) (f : Formula) → AreFormula ts f → AreFine ts → is_bound_in f 0 ≡ true
is_bound ts f h e = (bound_rule h tt e).0
