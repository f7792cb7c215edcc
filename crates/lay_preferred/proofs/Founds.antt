-- What stays found.
use Rattle.std.proofs.Common.{◌≡◌, ◌⊎◌, inl, inr, ℕ, zero, suc, ℤ, false, IsTrue, List, [], ◌∷◌, Option, Some, None, slice_get, refl, sym, ap, ◌∙◌}
use Rattle.std.specs.Prelude.{replicate, slice_set}
use Rattle.viz_base.specs.declared.layouts.Preferred.{Preferred}
use Rattle.viz_base.specs.declared.trees.BoxTree.{BoxTree}
use Rattle.viz_calc.specs.World.{Reading}
use Rattle.viz_calc.specs.Run.{Run, Goes}
use Rattle.layout_semantics.specs.Preferred.{preferred}
use Rattle.lay_width.specs.Readings.{preferred_at}
use Rattle.lay_preferred.specs.Readings.{AreFound}

-- what stands in a list after one place was set
set-cases : {A : Type 0} (t : List A) (b i : ℕ) (x y : A) → slice_get (slice_set t b x) i ≡ Some y → ((i ≡ b) × (x ≡ y)) ⊎ (slice_get t i ≡ Some y)
set-cases [] b i x y s = inr s
set-cases (z ∷ t) zero zero x y s = inl (refl, cc)
set-cases (z ∷ t) zero (suc i) x y s = inr s
set-cases (z ∷ t) (suc b) zero x y s = inr s
set-cases (z ∷ t) (suc b) (suc i) x y s = by (set-cases t b i x y s)
  where
    by : ((i ≡ b) × (x ≡ y)) ⊎ (slice_get t i ≡ Some y) → ((suc i ≡ suc b) × (x ≡ y)) ⊎ (slice_get t i ≡ Some y)
    by (inl (e, f)) = inl (ap suc e, f)
    by (inr e) = inr e

nothing-there : {A : Type 0} (Q : Type 0) (n i : ℕ) (p : A) → slice_get (replicate n None) i ≡ Some (Some p) → Q
nothing-there Q zero i p g = absurd (cc)
nothing-there Q (suc n) zero p g = absurd (cc)
nothing-there Q (suc n) (suc i) p g = nothing-there Q n i p g

module _ {N : Type 0} (at : N → Reading → ℤ) (tree : BoxTree) where
  pub found-none : (run : Run) (n : ℕ) (t : List (Option (Preferred N))) → t ≡ replicate n None → AreFound at run tree t
  unfolding AreFound
  found-none run n t is e o i p g = nothing-there _ n i p (sym (ap (λ l. slice_get l i) is) ∙ g)

  pub found-closed : (run : Run) (t : List (Option (Preferred N))) → ((e : Reading) → run.is_open e ≡ false) → AreFound at run tree t
  unfolding AreFound
  found-closed run t c e o i p g = let closed = c e in absurd (cc)

  pub found-later : (a b : Run) (t : List (Option (Preferred N))) → Goes a b → AreFound at a tree t → AreFound at b tree t
  unfolding AreFound
  found-later a b t g f e o i p s = f e (g.closes e o) i p s

  pub found-at : (run : Run) (t : List (Option (Preferred N))) (i : ℕ) (p : Preferred N) → AreFound at run tree t → slice_get t i ≡ Some (Some p)
      → (e : Reading) → IsTrue (run.is_open e) → preferred_at at p e ≡ preferred tree e.world i
  unfolding AreFound
  found-at run t i p f s e o = f e o i p s

  pub found-kept : (run : Run) (t u : List (Option (Preferred N))) (b : ℕ) (p : Preferred N) → u ≡ slice_set t b (Some p) → AreFound at run tree t
      → ((e : Reading) → IsTrue (run.is_open e) → preferred_at at p e ≡ preferred tree e.world b) → AreFound at run tree u
  unfolding AreFound
  found-kept run t u b p is f own e o i q s = by (set-cases t b i (Some p) (Some q) (sym (ap (λ l. slice_get l i) is) ∙ s))
    where
      by : ((i ≡ b) × (Some p ≡ Some q)) ⊎ (slice_get t i ≡ Some (Some q)) → preferred_at at q e ≡ preferred tree e.world i
      by (inl (same, here)) = let one : p ≡ q = cc in sym (ap (λ r. preferred_at at r e) one) ∙ own e o ∙ ap (preferred tree e.world) (sym same)
      by (inr there) = f e o i q there
