-- A formula that is renumbered keeps its names and its terms.
use Rattle.std.proofs.Common.{◌≡◌, ℕ, ◌+◌, Bool, ◌&&◌, true, false, arith, List, [], ◌∷◌, ◌++◌, length, Option, Some, None, if◌then◌else◌, refl, sym, ◌∙◌, ap, subst, rules}
use Rattle.std.specs.List.{position_from}
use Rattle.std.specs.Option.{option_or}
use Rattle.viz_base.specs.declared.formulas.Formula.{Formula}
use Rattle.viz_base.specs.declared.formulas.Formula.TheOpen.{Formula-F}
use Rattle.viz_base.specs.declared.formulas.Formula.TheVariants.{Implies, Or, And}
use Rattle.viz_base.specs.declared.formulas.Formula.TheViews.{the_lemmas, roll-Formula}
use Rattle.viz_base.specs.declared.formulas.Formula.TheFolds.{ind-Formula, map-Formula, fold-roll-Formula, fold_out-Formula}
use Rattle.viz_base.specs.Formulas.{bound_step, has_small_terms, is_bound_in, small_step}
use Rattle.page_build.specs.Seen.{AreNumbers, number_at}
use Rattle.page_build.specs.Renumbering.{is_number, number_in, renumber_step, renumbered}

-- ---- tables of numbers

-- the first place at which a test passes, with one more element at the end
position-push : {X : Type 0} (p : X → Bool) (at : ℕ) (xs : List X) (y : X) (place : ℕ) → at + length xs ≡ place
    → position_from p at (xs ++ y ∷ []) ≡ option_or (position_from p at xs) (if p y then Some place else None)
position-push p at [] y place e = let same : at ≡ place = omega (arith, e) in ap (λ k. if p y then Some k else None) same
position-push p at (x ∷ xs) y place e = by_first (p x) (position-push p (at + 1) xs y place (omega (arith, e)))
  where
    by_first : (b : Bool) → position_from p (at + 1) (xs ++ y ∷ []) ≡ option_or (position_from p (at + 1) xs) (if p y then Some place else None)
        → (if b then Some at else position_from p (at + 1) (xs ++ y ∷ [])) ≡ option_or (if b then Some at else position_from p (at + 1) xs) (if p y then Some place else None)
    by_first true rest = refl
    by_first false rest = rest

pub number-push : (from : List (Option ℕ)) (o : Option ℕ) (at node : ℕ) → length from ≡ at → number_in (from ++ o ∷ []) node ≡ option_or (number_in from node) (if is_number node o then Some at else None)
number-push from o at node size = position-push (is_number node) 0 from o at (omega (arith, size))

-- a table of the numbers of nodes, with one more node
pub numbers-push : (from : List (Option ℕ)) (o : Option ℕ) (at : ℕ) (old new : List (Option ℕ)) → length from ≡ at → AreNumbers from old
    → ((n : ℕ) → number_at new n ≡ option_or (number_at old n) (if is_number n o then Some at else None)) → AreNumbers (from ++ o ∷ []) new
numbers-push from o at old new size are step n =
    step n ∙ (ap (λ a. option_or a (if is_number n o then Some at else None)) (are n) ∙ sym (number-push from o at n size))

-- ---- what a formula keeps

same_function : {A B : Type 0} (f g : A → B) → ((x : A) → f x ≡ g x) → f ≡ g
same_function f g e = λ i x. e x i

-- tables of the same numbers
pub renumbered-by : (from numbers : List (Option ℕ)) (f : Formula) → AreNumbers from numbers → renumbered (number_at numbers) f ≡ renumbered (number_in from) f
renumbered-by from numbers f are = ap (λ number. renumbered number f) (same_function (number_at numbers) (number_in from) are)

-- ---- what a formula keeps

abbrev Bound : (ℕ → Option ℕ) → Formula → Type 0
Bound number f = (depth : ℕ) → is_bound_in (renumbered number f) depth ≡ is_bound_in f depth

bound_two : (f a b c d : Formula) (depth : ℕ) → is_bound_in f depth ≡ is_bound_in a depth && is_bound_in b depth → is_bound_in a depth ≡ is_bound_in c depth → is_bound_in b depth ≡ is_bound_in d depth
    → is_bound_in f depth ≡ is_bound_in c depth && is_bound_in d depth
bound_two f a b c d depth e p q = e ∙ (ap (λ x. x && is_bound_in b depth) p ∙ ap (λ x. is_bound_in c depth && x) q)

small_two : (f a b c d : Formula) → has_small_terms f ≡ has_small_terms a && has_small_terms b → has_small_terms a ≡ has_small_terms c → has_small_terms b ≡ has_small_terms d
    → has_small_terms f ≡ has_small_terms c && has_small_terms d
small_two f a b c d e p q = e ∙ (ap (λ x. x && has_small_terms b) p ∙ ap (λ x. has_small_terms c && x) q)

bound_layer : {E : Type 0} (number : ℕ → Option ℕ) (e : E → Formula) (y : Formula-F E) → ((p : E) → Bound number (e p)) → (depth : ℕ)
    → is_bound_in (renumber_step number (map-Formula Formula Formula (renumbered number) (map-Formula E Formula e y))) depth ≡ bound_step (map-Formula Formula (ℕ → Bool) is_bound_in (map-Formula E Formula e y)) depth
bound_layer number e (Formula-F.Const value) parts depth = search (rules, the_lemmas, fold-roll-Formula, fold_out-Formula)
bound_layer number e (Formula-F.Forall set body) parts depth = search (rules, the_lemmas, fold-roll-Formula, fold_out-Formula) ∙ parts body (depth + 1)
bound_layer number e (Formula-F.Exists set body) parts depth = search (rules, the_lemmas, fold-roll-Formula, fold_out-Formula) ∙ parts body (depth + 1)
bound_layer number e (Formula-F.Implies a b) parts depth = bound_two (Implies (renumbered number (e a)) (renumbered number (e b))) _ _ _ _ depth (search (rules, the_lemmas, fold-roll-Formula, fold_out-Formula)) (parts a depth) (parts b depth)
bound_layer number e (Formula-F.Or a b) parts depth = bound_two (Or (renumbered number (e a)) (renumbered number (e b))) _ _ _ _ depth (search (rules, the_lemmas, fold-roll-Formula, fold_out-Formula)) (parts a depth) (parts b depth)
bound_layer number e (Formula-F.And a b) parts depth = bound_two (And (renumbered number (e a)) (renumbered number (e b))) _ _ _ _ depth (search (rules, the_lemmas, fold-roll-Formula, fold_out-Formula)) (parts a depth) (parts b depth)
bound_layer number e (Formula-F.Not a) parts depth = search (rules, the_lemmas, fold-roll-Formula, fold_out-Formula) ∙ parts a depth
bound_layer number e (Formula-F.Cmp left sign right) parts depth = search (rules, the_lemmas, fold-roll-Formula, fold_out-Formula)
bound_layer number e (Formula-F.Overlap a b) parts depth = search (rules, the_lemmas, fold-roll-Formula, fold_out-Formula)
bound_layer number e (Formula-F.Same a b) parts depth = search (rules, the_lemmas, fold-roll-Formula, fold_out-Formula)

bound_whole : {E : Type 0} (number : ℕ → Option ℕ) (e : E → Formula) (y : Formula-F E) → ((p : E) → Bound number (e p)) → Bound number (roll-Formula (map-Formula E Formula e y))
bound_whole {E = E} number e y parts depth =
    ap (λ f. is_bound_in f depth) (fold-roll-Formula Formula (renumber_step number) (map-Formula E Formula e y))
    ∙ bound_layer number e y parts depth
    ∙ sym (ap (λ (g : ℕ → Bool). g depth) (fold-roll-Formula (ℕ → Bool) bound_step (map-Formula E Formula e y)))

-- its names
pub renumbered-bound : (number : ℕ → Option ℕ) (f : Formula) → is_bound_in (renumbered number f) 0 ≡ is_bound_in f 0
renumbered-bound number f = ind-Formula (Bound number) (λ x y is. subst (λ z. Bound number (roll-Formula z)) is (bound_whole number (λ p. p.0) y (λ p. p.1))) f 0

abbrev Small : (ℕ → Option ℕ) → Formula → Type 0
Small number f = has_small_terms (renumbered number f) ≡ has_small_terms f

small_layer : {E : Type 0} (number : ℕ → Option ℕ) (e : E → Formula) (y : Formula-F E) → ((p : E) → Small number (e p))
    → has_small_terms (renumber_step number (map-Formula Formula Formula (renumbered number) (map-Formula E Formula e y))) ≡ small_step (map-Formula Formula Bool has_small_terms (map-Formula E Formula e y))
small_layer number e (Formula-F.Const value) parts = search (rules, the_lemmas, fold-roll-Formula, fold_out-Formula)
small_layer number e (Formula-F.Forall set body) parts = search (rules, the_lemmas, fold-roll-Formula, fold_out-Formula) ∙ parts body
small_layer number e (Formula-F.Exists set body) parts = search (rules, the_lemmas, fold-roll-Formula, fold_out-Formula) ∙ parts body
small_layer number e (Formula-F.Implies a b) parts = small_two (Implies (renumbered number (e a)) (renumbered number (e b))) _ _ _ _ (search (rules, the_lemmas, fold-roll-Formula, fold_out-Formula)) (parts a) (parts b)
small_layer number e (Formula-F.Or a b) parts = small_two (Or (renumbered number (e a)) (renumbered number (e b))) _ _ _ _ (search (rules, the_lemmas, fold-roll-Formula, fold_out-Formula)) (parts a) (parts b)
small_layer number e (Formula-F.And a b) parts = small_two (And (renumbered number (e a)) (renumbered number (e b))) _ _ _ _ (search (rules, the_lemmas, fold-roll-Formula, fold_out-Formula)) (parts a) (parts b)
small_layer number e (Formula-F.Not a) parts = search (rules, the_lemmas, fold-roll-Formula, fold_out-Formula) ∙ parts a
small_layer number e (Formula-F.Cmp left sign right) parts = search (rules, the_lemmas, fold-roll-Formula, fold_out-Formula)
small_layer number e (Formula-F.Overlap a b) parts = search (rules, the_lemmas, fold-roll-Formula, fold_out-Formula)
small_layer number e (Formula-F.Same a b) parts = search (rules, the_lemmas, fold-roll-Formula, fold_out-Formula)

small_whole : {E : Type 0} (number : ℕ → Option ℕ) (e : E → Formula) (y : Formula-F E) → ((p : E) → Small number (e p)) → Small number (roll-Formula (map-Formula E Formula e y))
small_whole {E = E} number e y parts =
    ap has_small_terms (fold-roll-Formula Formula (renumber_step number) (map-Formula E Formula e y))
    ∙ small_layer number e y parts
    ∙ sym (fold-roll-Formula Bool small_step (map-Formula E Formula e y))

-- its terms
pub renumbered-small : (number : ℕ → Option ℕ) (f : Formula) → has_small_terms (renumbered number f) ≡ has_small_terms f
renumbered-small number = ind-Formula (Small number) (λ x y is. subst (λ z. Small number (roll-Formula z)) is (small_whole number (λ p. p.0) y (λ p. p.1)))
