-- Formulas without quantifiers: they name no box, so they are as true of each rendering at a world.
use Rattle.std.proofs.Common.{◌≡◌, ℤ, pos, ◌+ℤ◌, ◌*ℤ◌, Bool, true, false, not, ◌||◌, List, [], ◌∷◌, map, fold, refl, ap, sym, ◌∙◌, subst, arith}
use Rattle.std.proofs.lemmas.Bool.{and_parts}
use Rattle.viz_base.specs.declared.formulas.Edge.{Edge}
use Rattle.viz_base.specs.declared.formulas.Edge.TheVariants as of_edge
use Rattle.viz_base.specs.declared.formulas.Summand.{Summand}
use Rattle.viz_base.specs.declared.formulas.Term.{Term}
use Rattle.viz_base.specs.declared.formulas.Formula.{Formula}
use Rattle.viz_base.specs.declared.formulas.Formula.TheOpen.{Formula-F}
use Rattle.viz_base.specs.declared.formulas.Formula.TheVariants.{Implies}
use Rattle.viz_base.specs.declared.formulas.Formula.TheViews.{roll-Formula}
use Rattle.viz_base.specs.declared.formulas.Formula.TheFolds.{ind-Formula, map-Formula, fold-roll-Formula}
use Rattle.viz_base.specs.declared.renderings.Rendering.{Rendering}
use Rattle.viz_base.specs.declared.worlds.World.{World}
use Rattle.viz_base.specs.Formulas.{has_small_terms}
use Rattle.viz_calc.specs.World.{Reading}
use Rattle.viz_calc.specs.State.{State, Grows, Cause}
use Rattle.viz_calc.specs.declared.calc.Halt.{Halt}
use Rattle.viz_calc.specs.declared.calc.Halt.TheVariants.{Mem, Coeff, Open}
use Rattle.logic_semantics.specs.Scenes.{scene_of}
use Rattle.logic_semantics.specs.Terms.{compares, edge_value, summand_value, term_value}
use Rattle.logic_semantics.specs.Truth.{Meaning, truth, truth_in, truth_step}
use Rattle.logic_semantics.proofs.Meanings.{truth-Implies}
use Rattle.vis_truth.specs.Scenes.{IsTame}
use Rattle.vis_truth.specs.Premises.{bare_step, is_bare, IsTameBare}
use Rattle.vis_truth.proofs.Parts.{small-Implies}

same-edge : (r q : Rendering ℤ) (world : World) (edge : Edge) → edge_value (scene_of r world) [] edge ≡ edge_value (scene_of q world) [] edge
same-edge r q world of_edge.One = refl
same-edge r q world (of_edge.Name name ring face) = refl
same-edge r q world of_edge.ViewWidth = refl
same-edge r q world of_edge.ViewHeight = refl
same-edge r q world of_edge.ViewSize = refl

same-parts : (r q : Rendering ℤ) (world : World) (parts : List Summand) → map (summand_value (scene_of r world) []) parts ≡ map (summand_value (scene_of q world) []) parts
same-parts r q world [] = refl
same-parts r q world (s ∷ ss) =
    ap (λ z. (s.times *ℤ z) ∷ map (summand_value (scene_of r world) []) ss) (same-edge r q world s.edge)
    ∙ ap (λ l. (s.times *ℤ edge_value (scene_of q world) [] s.edge) ∷ l) (same-parts r q world ss)

same-term : (r q : Rendering ℤ) (world : World) (t : Term) → term_value (scene_of r world) [] t ≡ term_value (scene_of q world) [] t
same-term r q world t = ap (fold ◌+ℤ◌ (pos 0)) (same-parts r q world t.parts)

-- ---- formulas without quantifiers

abbrev IsSame : (r q : Rendering ℤ) → World → Formula → Type 0
IsSame r q world f = is_bare f ≡ true → truth (scene_of r world) f ≡ truth (scene_of q world) f

same-step : {E : Type 0} (r q : Rendering ℤ) (world : World) (e : E → Formula) (y : Formula-F E) → ((p : E) → IsSame r q world (e p))
    → bare_step (map-Formula Formula Bool is_bare (map-Formula E Formula e y)) ≡ true
    → truth_step (scene_of r world) (map-Formula Formula Meaning (truth_in (scene_of r world)) (map-Formula E Formula e y)) []
    ≡ truth_step (scene_of q world) (map-Formula Formula Meaning (truth_in (scene_of q world)) (map-Formula E Formula e y)) []
same-step r q world e (Formula-F.Const value) parts bare = refl
same-step r q world e (Formula-F.Forall set body) parts bare = absurd (cc)
same-step r q world e (Formula-F.Exists set body) parts bare = absurd (cc)
same-step r q world e (Formula-F.Implies a b) parts bare =
    let both = and_parts (is_bare (e a)) (is_bare (e b)) bare in
    rw (parts a both.0, parts b both.1) refl
same-step r q world e (Formula-F.Or a b) parts bare =
    let both = and_parts (is_bare (e a)) (is_bare (e b)) bare in
    rw (parts a both.0, parts b both.1) refl
same-step r q world e (Formula-F.And a b) parts bare =
    let both = and_parts (is_bare (e a)) (is_bare (e b)) bare in
    rw (parts a both.0, parts b both.1) refl
same-step r q world e (Formula-F.Not a) parts bare = ap not (parts a bare)
same-step r q world e (Formula-F.Cmp left sign right) parts bare =
    ap (λ z. compares sign z (term_value (scene_of r world) [] right)) (same-term r q world left)
    ∙ ap (compares sign (term_value (scene_of q world) [] left)) (same-term r q world right)
same-step r q world e (Formula-F.Overlap a b) parts bare = refl
same-step r q world e (Formula-F.Same a b) parts bare = refl

layer : {E : Type 0} (r q : Rendering ℤ) (world : World) (e : E → Formula) (y : Formula-F E) → ((p : E) → IsSame r q world (e p))
    → IsSame r q world (roll-Formula (map-Formula E Formula e y))
layer {E = E} r q world e y parts bare =
    ap (λ (g : Meaning). g []) (fold-roll-Formula Meaning (truth_step (scene_of r world)) (map-Formula E Formula e y))
    ∙ (same-step r q world e y parts (sym (fold-roll-Formula Bool bare_step (map-Formula E Formula e y)) ∙ bare)
    ∙ sym (ap (λ (g : Meaning). g []) (fold-roll-Formula Meaning (truth_step (scene_of q world)) (map-Formula E Formula e y))))

-- without quantifiers it is as true of each rendering
pub same-bare : (r q : Rendering ℤ) (world : World) (f : Formula) → is_bare f ≡ true → truth (scene_of r world) f ≡ truth (scene_of q world) f
same-bare r q world = ind-Formula (IsSame r q world) (λ x y is. subst (λ z. IsSame r q world (roll-Formula z)) is (layer r q world (λ p. p.0) y (λ p. p.1)))

-- ---- a formula that stands under one without quantifiers, as the code has both

implied : (r q : Rendering ℤ) (world : World) (f a b p : Formula) → f ≡ Implies a b → p ≡ a → is_bare p ≡ true
    → truth (scene_of r world) f ≡ (not (truth (scene_of q world) p) || truth (scene_of r world) b)
implied r q world f a b p is by bare =
    ap (truth (scene_of r world)) is
    ∙ (truth-Implies (scene_of r world) a b []
    ∙ ap (λ x. not x || truth (scene_of r world) b) (ap (truth (scene_of r world)) (sym by) ∙ same-bare r q world p bare))

pub implied-by-true : (r q : Rendering ℤ) (world : World) (f a b p left : Formula) → f ≡ Implies a b → p ≡ a → left ≡ b → is_bare p ≡ true
    → true ≡ truth (scene_of q world) p → truth (scene_of r world) f ≡ truth (scene_of r world) left
implied-by-true r q world f a b p left is by rest bare met =
    implied r q world f a b p is by bare
    ∙ (ap (λ x. not x || truth (scene_of r world) b) (sym met)
    ∙ ap (truth (scene_of r world)) (sym rest))

pub implied-by-false : (r q : Rendering ℤ) (world : World) (f a b p : Formula) → f ≡ Implies a b → p ≡ a → is_bare p ≡ true
    → false ≡ truth (scene_of q world) p → truth (scene_of r world) f ≡ true
implied-by-false r q world f a b p is by bare unmet = implied r q world f a b p is by bare ∙ ap (λ x. not x || truth (scene_of r world) b) (sym unmet)

-- ---- what has to fit

pub small-left : (f a b left : Formula) → f ≡ Implies a b → left ≡ b → has_small_terms f ≡ true → has_small_terms left ≡ true
small-left f a b left is rest small =
    subst (λ g. has_small_terms g ≡ true) (sym rest) (small-Implies a b (subst (λ g. has_small_terms g ≡ true) is small)).1

pub bare-left : (old new : State) (f a b left : Formula) → Grows old new → f ≡ Implies a b → left ≡ b → IsTameBare old.is_open f → IsTameBare new.is_open left
bare-left old new f a b left grows is rest t = record {
  narrow = λ e o. t.narrow e (grows.closes e o);
  small = small-left f a b left is rest t.small;
}

-- a rendering without boxes is bounded
pub tame-bare : {N : Type 0} (is_open : Reading → Bool) (at : N → Reading → ℤ) (nothing : Rendering N) (f a b p : Formula) → nothing.boxes ≡ [] → f ≡ Implies a b → p ≡ a
    → IsTameBare is_open f → IsTame is_open at nothing p
tame-bare is_open at nothing f a b p none is by t = record {
  bounded = λ e o. record {
    rendering = record { each = λ place box there. absurd (cc) };
    world = t.narrow e o;
  };
  small = subst (λ g. has_small_terms g ≡ true) (sym by) (small-Implies a b (subst (λ g. has_small_terms g ≡ true) is t.small)).0;
}

-- ---- causes of a halt, given less that fits, and after another call

pub Cause-given : (old new : State) (early late : Type 0) (h : Halt) → (early → late) → Cause old new late h → Cause old new early h
Cause-given old new early late Mem w c = c
Cause-given old new early late Coeff w c = λ fits. c (w fits)
Cause-given old new early late Open w c = c

pub Cause-after : (old mid new : State) (early late : Type 0) (h : Halt) → Grows old mid → (early → late) → Cause mid new late h → Cause old new early h
Cause-after old mid new early late Mem g w c = sym g.lean ∙ c
Cause-after old mid new early late Coeff g w c = λ fits. let first = g.coeffs in let later = c (w fits) in grind arith
Cause-after old mid new early late Open g w c = let first = g.opens in grind arith
