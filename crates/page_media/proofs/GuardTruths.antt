-- What a guarded formula says, and what it keeps of the formula.
use Rattle.std.proofs.Common.{◌≡◌, ℕ, ◌+◌, ◌*◌, ◌^◌, ◌<◌, ◌≤◌, ℤ, pos, neg_ℤ, ◌+ℤ◌, ◌*ℤ◌, Bool, true, false, not, ◌&&◌, ◌||◌, List, [], ◌∷◌, length, cond, refl, ap, sym, ◌∙◌, rules, arith}
use Rattle.std.specs.Prelude.{int_le, unsigned_abs, nat_le}
use Rattle.std.proofs.lemmas.Bool.{le-leb}
use Rattle.std.proofs.lemmas.Int.{ints}
use Rattle.std.proofs.lemmas.Nat.{mul-le}
use Rattle.viz_base.specs.FontSizes.{fraction}
use Rattle.viz_base.specs.Formulas.{has_small_terms, is_bound_in, term_is_bound, term_is_small}
use Rattle.viz_base.specs.declared.formulas.Formula.{Formula}
use Rattle.viz_base.specs.declared.formulas.Formula.TheVariants.{Cmp, Implies}
use Rattle.viz_base.specs.declared.formulas.Formula.TheViews.{the_lemmas}
use Rattle.viz_base.specs.declared.formulas.Formula.TheFolds.{fold-roll-Formula, fold_out-Formula}
use Rattle.viz_base.specs.declared.formulas.Sign.{Sign}
use Rattle.viz_base.specs.declared.formulas.Term.{Term}
use Rattle.viz_base.specs.declared.renderings.Rendering.{Rendering}
use Rattle.viz_base.specs.declared.sheets.Bound.{Bound}
use Rattle.viz_base.specs.declared.sheets.Bound.TheVariants.{Px, Em}
use Rattle.viz_base.specs.declared.sheets.Feature.{Feature}
use Rattle.viz_base.specs.declared.worlds.World.{World}
use Rattle.logic_semantics.specs.Scenes.{scene_of}
use Rattle.logic_semantics.specs.Terms.{compares, term_value}
use Rattle.logic_semantics.specs.Truth.{truth, truth_in}
use Rattle.logic_semantics.proofs.Meanings.{truth-Cmp, truth-Implies}
use Rattle.page_media.specs.Queries.{is_met}
use Rattle.page_media.specs.Features.{are_alike}
use Rattle.page_media.specs.Parts.{same_signs, signs_at}
use Rattle.page_media.specs.Guards.{bound_side, guarded, held, says, standing, width_side}
use Rattle.page_media.proofs.Bounds.{at_least_floor, at_least_wide, at_most_floor, at_most_wide, held-small, held-times}

-- ---- one comparison

compares-standing : (most sign : Bool) (x y z : ℤ) → compares (standing most sign) x (cond most y z) ≡ are_alike sign (cond most (int_le x y) (int_le z x))
compares-standing true true x y z = refl
compares-standing true false x y z = grind (arith, ints)
compares-standing false true x y z = refl
compares-standing false false x y z = grind (arith, ints)

-- sums that begin at nothing
one-part : (z : ℤ) (n : ℕ) → pos 0 +ℤ (z *ℤ pos n) ≡ z *ℤ pos n
one-part z n = omega (arith, ints)

none-less : (z : ℤ) → z +ℤ neg_ℤ (pos 0) ≡ z
none-less z = omega (arith, ints)

less-part : (z : ℤ) → (pos 0 +ℤ z) +ℤ (neg_ℤ (pos 999999) *ℤ pos 1) ≡ z +ℤ neg_ℤ (pos 999999)
less-part z = omega (arith, ints)

times-one : (z : ℤ) → z *ℤ pos 1 ≡ z
times-one z = omega (arith, ints)

width-px : (w : ℕ) → pos 0 +ℤ (pos 1 *ℤ pos (64 * w)) ≡ pos (64 * w)
width-px w = omega (arith, ints)

width-em : (w : ℕ) → pos 0 +ℤ (pos 1000000 *ℤ pos (64 * w)) ≡ pos (64000000 * w)
width-em w = omega (arith, ints)

millionths : (w : ℕ) → pos (64000000 * w) ≡ pos 1000000 *ℤ pos (64 * w)
millionths w = omega (arith, ints)

-- the width, at most a bound, and at least
px-most : (c : ℤ) (w : ℕ) → w < 2 ^ 32 → int_le (pos 0 +ℤ (pos 1 *ℤ pos (64 * w))) (pos 0 +ℤ (held c *ℤ pos 1)) ≡ int_le (pos (64 * w)) c
px-most c w small =
    ap (λ (z : ℤ). int_le z (pos 0 +ℤ (held c *ℤ pos 1))) (width-px w)
    ∙ (ap (int_le (pos (64 * w))) (one-part (held c) 1)
    ∙ (at_most_wide (64 * w) (held c *ℤ pos 1) (c *ℤ pos 1) (omega arith) (held-times c 1)
    ∙ ap (int_le (pos (64 * w))) (times-one c)))

px-least : (c : ℤ) (w : ℕ) → w < 2 ^ 32 → int_le (pos 0 +ℤ (held c *ℤ pos 1)) (pos 0 +ℤ (pos 1 *ℤ pos (64 * w))) ≡ int_le c (pos (64 * w))
px-least c w small =
    ap (int_le (pos 0 +ℤ (held c *ℤ pos 1))) (width-px w)
    ∙ (ap (λ (z : ℤ). int_le z (pos (64 * w))) (one-part (held c) 1 ∙ sym (none-less (held c *ℤ pos 1)))
    ∙ (at_least_wide (64 * w) 0 (held c *ℤ pos 1) (c *ℤ pos 1) (omega arith) (omega arith) (held-times c 1)
    ∙ ap (λ (z : ℤ). int_le z (pos (64 * w))) (none-less (c *ℤ pos 1) ∙ times-one c)))

em-most : (k : ℤ) (w s : ℕ) → w < 2 ^ 32
    → int_le (pos 0 +ℤ (pos 1000000 *ℤ pos (64 * w))) (pos 0 +ℤ (held k *ℤ pos (64 * s))) ≡ int_le (pos (64 * w)) (fraction k 1000000 (pos (64 * s)))
em-most k w s small =
    ap (λ (z : ℤ). int_le z (pos 0 +ℤ (held k *ℤ pos (64 * s)))) (width-em w)
    ∙ (ap (int_le (pos (64000000 * w))) (one-part (held k) (64 * s))
    ∙ (at_most_wide (64000000 * w) (held k *ℤ pos (64 * s)) (k *ℤ pos (64 * s)) (omega arith) (held-times k (64 * s))
    ∙ (ap (λ (z : ℤ). int_le z (k *ℤ pos (64 * s))) (millionths w)
    ∙ at_most_floor (pos (64 * w)) (k *ℤ pos (64 * s)))))

em-least : (k : ℤ) (w s : ℕ) → w < 2 ^ 32
    → int_le ((pos 0 +ℤ (held k *ℤ pos (64 * s))) +ℤ (neg_ℤ (pos 999999) *ℤ pos 1)) (pos 0 +ℤ (pos 1000000 *ℤ pos (64 * w)))
    ≡ int_le (fraction k 1000000 (pos (64 * s))) (pos (64 * w))
em-least k w s small =
    ap (int_le ((pos 0 +ℤ (held k *ℤ pos (64 * s))) +ℤ (neg_ℤ (pos 999999) *ℤ pos 1))) (width-em w)
    ∙ (ap (λ (z : ℤ). int_le z (pos (64000000 * w))) (less-part (held k *ℤ pos (64 * s)))
    ∙ (at_least_wide (64000000 * w) 999999 (held k *ℤ pos (64 * s)) (k *ℤ pos (64 * s)) (omega arith) (omega arith) (held-times k (64 * s))
    ∙ (ap (int_le (k *ℤ pos (64 * s) +ℤ neg_ℤ (pos 999999))) (millionths w)
    ∙ at_least_floor (pos (64 * w)) (k *ℤ pos (64 * s)))))

says-compares : (r : Rendering ℤ) (world : World) (most : Bool) (bound : Bound) (sign : Bool) → world.w < 2 ^ 32
    → compares (standing most sign) (term_value (scene_of r world) [] (width_side bound)) (term_value (scene_of r world) [] (bound_side most bound))
    ≡ are_alike sign (is_met world.w world.s (record { most = most; bound = bound }))
says-compares r world true (Px c) sign small =
    compares-standing true sign (pos 0 +ℤ (pos 1 *ℤ pos (64 * world.w))) (pos 0 +ℤ (held c *ℤ pos 1)) (pos 0)
    ∙ ap (are_alike sign) (px-most c world.w small)
says-compares r world true (Em k) sign small =
    compares-standing true sign (pos 0 +ℤ (pos 1000000 *ℤ pos (64 * world.w))) (pos 0 +ℤ (held k *ℤ pos (64 * world.s))) (pos 0)
    ∙ ap (are_alike sign) (em-most k world.w world.s small)
says-compares r world false (Px c) sign small =
    compares-standing false sign (pos 0 +ℤ (pos 1 *ℤ pos (64 * world.w))) (pos 0) (pos 0 +ℤ (held c *ℤ pos 1))
    ∙ ap (are_alike sign) (px-least c world.w small)
says-compares r world false (Em k) sign small =
    compares-standing false sign (pos 0 +ℤ (pos 1000000 *ℤ pos (64 * world.w))) (pos 0)
    ((pos 0 +ℤ (held k *ℤ pos (64 * world.s))) +ℤ (neg_ℤ (pos 999999) *ℤ pos 1))
    ∙ ap (are_alike sign) (em-least k world.w world.s small)

says-true : (r : Rendering ℤ) (world : World) (f : Feature) (sign : Bool) → world.w < 2 ^ 32
    → truth_in (scene_of r world) (says f sign) [] ≡ are_alike sign (is_met world.w world.s f)
says-true r world f sign small =
    truth-Cmp (scene_of r world) (width_side f.bound) (bound_side f.most f.bound) (standing f.most sign) []
    ∙ says-compares r world f.most f.bound sign small

-- ---- all of them

two-tests : (a b c : Bool) → (not b || (not a || c)) ≡ (not (a && b) || c)
two-tests true b c = refl
two-tests false true c = refl
two-tests false false c = refl

pub guarded-true : (features : List Feature) (signs : List Bool) (formula : Formula) (r : Rendering ℤ) (world : World)
    → length signs ≡ length features → world.w < 2 ^ 32
    → truth (scene_of r world) (guarded features signs formula) ≡ (not (same_signs signs (signs_at features world.w world.s)) || truth (scene_of r world) formula)
guarded-true [] [] formula r world e small = refl
guarded-true [] (sign ∷ signs) formula r world e small = absurd (omega (arith, e))
guarded-true (f ∷ fs) [] formula r world e small = absurd (omega (arith, e))
guarded-true (f ∷ fs) (sign ∷ signs) formula r world e small =
    let rest = same_signs signs (signs_at fs world.w world.s) in
    guarded-true fs signs (Implies (says f sign) formula) r world (omega (arith, e)) small
    ∙ (ap (λ b. not rest || b) (truth-Implies (scene_of r world) (says f sign) formula []
    ∙ ap (λ b. not b || truth (scene_of r world) formula) (says-true r world f sign small))
    ∙ two-tests (are_alike sign (is_met world.w world.s f)) rest (truth (scene_of r world) formula))

-- ---- names and terms

bound-Implies : (a b : Formula) (depth : ℕ) → is_bound_in (Implies a b) depth ≡ is_bound_in a depth && is_bound_in b depth
bound-Implies a b depth = search (rules, the_lemmas, fold-roll-Formula, fold_out-Formula)

small-Implies : (a b : Formula) → has_small_terms (Implies a b) ≡ has_small_terms a && has_small_terms b
small-Implies a b = search (rules, the_lemmas, fold-roll-Formula, fold_out-Formula)

bound-Cmp : (l r : Term) (sign : Sign) (depth : ℕ) → is_bound_in (Cmp l sign r) depth ≡ term_is_bound depth l && term_is_bound depth r
bound-Cmp l r sign depth = search (rules, the_lemmas, fold-roll-Formula, fold_out-Formula)

small-Cmp : (l r : Term) (sign : Sign) → has_small_terms (Cmp l sign r) ≡ term_is_small l && term_is_small r
small-Cmp l r sign = search (rules, the_lemmas, fold-roll-Formula, fold_out-Formula)

says-bound : (most : Bool) (bound : Bound) → term_is_bound 0 (width_side bound) && term_is_bound 0 (bound_side most bound) ≡ true
says-bound most (Px c) = refl
says-bound true (Em k) = refl
says-bound false (Em k) = refl

times-small : (n : ℤ) (most : ℕ) → most ≤ 2 ^ 38 → unsigned_abs (held n) * most ≤ 2 ^ 98
times-small n most few =
    let product : unsigned_abs (held n) * most ≤ 2 ^ 60 * 2 ^ 38 = mul-le (unsigned_abs (held n)) most (2 ^ 60) (2 ^ 38) (held-small n) few in
    product

one-small : (n : ℤ) (most : ℕ) → most ≤ 2 ^ 38 → nat_le (0 + unsigned_abs (held n) * most) (2 ^ 100) ≡ true
one-small n most few = let l = times-small n most few in le-leb (0 + unsigned_abs (held n) * most) (2 ^ 100) (omega arith)

two-small : (n : ℤ) (most : ℕ) → most ≤ 2 ^ 38 → nat_le (0 + unsigned_abs (held n) * most + 999999) (2 ^ 100) ≡ true
two-small n most few = let l = times-small n most few in le-leb (0 + unsigned_abs (held n) * most + 999999) (2 ^ 100) (omega arith)

says-small : (most : Bool) (bound : Bound) → term_is_small (width_side bound) && term_is_small (bound_side most bound) ≡ true
says-small most (Px c) = one-small c 1 (omega arith)
says-small true (Em k) = one-small k (2 ^ 38) (omega arith)
says-small false (Em k) = two-small k (2 ^ 38) (omega arith)

pub guarded-bound : (features : List Feature) (signs : List Bool) (formula : Formula) → is_bound_in (guarded features signs formula) 0 ≡ is_bound_in formula 0
guarded-bound [] signs formula = refl
guarded-bound (f ∷ fs) [] formula = refl
guarded-bound (f ∷ fs) (sign ∷ signs) formula =
    guarded-bound fs signs (Implies (says f sign) formula)
    ∙ (bound-Implies (says f sign) formula 0
    ∙ ap (λ b. b && is_bound_in formula 0) (bound-Cmp (width_side f.bound) (bound_side f.most f.bound) (standing f.most sign) 0 ∙ says-bound f.most f.bound))

pub guarded-small : (features : List Feature) (signs : List Bool) (formula : Formula) → has_small_terms (guarded features signs formula) ≡ has_small_terms formula
guarded-small [] signs formula = refl
guarded-small (f ∷ fs) [] formula = refl
guarded-small (f ∷ fs) (sign ∷ signs) formula =
    guarded-small fs signs (Implies (says f sign) formula)
    ∙ (small-Implies (says f sign) formula
    ∙ ap (λ b. b && has_small_terms formula) (small-Cmp (width_side f.bound) (bound_side f.most f.bound) (standing f.most sign) ∙ says-small f.most f.bound))
