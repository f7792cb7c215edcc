use Rattle.std.proofs.Common.{◌≡◌, ℤ, List, [], ◌∷◌, map, IsTrue, refl, ap, sym, subst, arith, inl, inr}
use Rattle.std.proofs.lemmas.Bool.Decides.{nat_tests}
use Rattle.viz_base.specs.declared.formulas.Formula.{Formula}
use Rattle.viz_base.specs.declared.worlds.World.{World}
use Rattle.viz_base.specs.declared.renderings.Placed.{Placed}
use Rattle.viz_base.specs.declared.renderings.Rendering.{Rendering}
use Rattle.viz_base.specs.Formulas.{has_small_terms}
use Rattle.viz_base.specs.Numbers.{Rose}
use Rattle.viz_calc.specs.World.{Reading}
use Rattle.viz_calc.specs.State.{Cause}
use Rattle.viz_calc.specs.Plain.{plain_state}
use Rattle.viz_calc.specs.Renderings.{placed_at, rendering_at}
use Rattle.viz_calc.specs.declared.calc.Halt.{Halt}
use Rattle.viz_calc.specs.declared.calc.Halt.TheVariants.{Mem, Coeff, Open}
use Rattle.vis_truth.specs.Scenes.{IsNarrow, IsBoundedRendering, IsTame}

boxes-same : (e : Reading) (boxes : List (Placed ℤ)) → map (λ p. placed_at (λ n e. n) p e) boxes ≡ boxes
boxes-same e [] = refl
boxes-same e (b ∷ bs) = ap (λ l. b ∷ l) (boxes-same e bs)

-- a rendering of whole numbers is the same at each reading
pub rendering-same : (e : Reading) (r : Rendering ℤ) → rendering_at (λ n e. n) r e ≡ r
rendering-same e r = ap (λ (l : List (Placed ℤ)). record { boxes = l }) (boxes-same e r.boxes)

-- a plain calc never halts where all that it computes fits
pub never-halts : (old new : World) (fits : Type 0) (h : Halt) → fits → Cause (plain_state old) (plain_state new) fits h → ⊥
never-halts old new fits Mem f c = absurd (cc)
never-halts old new fits Coeff f c = no_rise (c f)
  where
    no_rise : Rose 0 0 → ⊥
    no_rise (inl l) = absurd (omega arith)
    no_rise (inr e) = absurd (omega arith)
never-halts old new fits Open f c = no_rise c
  where
    no_rise : Rose 0 0 → ⊥
    no_rise (inl l) = absurd (omega arith)
    no_rise (inr e) = absurd (omega arith)

-- at a world of a plain calc a bounded rendering and a formula with small terms are tame
pub plain-tame : (w : World) (r : Rendering ℤ) (f : Formula) → IsNarrow w → IsBoundedRendering r → IsTrue (has_small_terms f) → IsTame (plain_state w).is_open (λ n e. n) r f
plain-tame w r f narrow bounded small = record {
  bounded = λ e o. record {
    rendering = subst (λ r. IsBoundedRendering r) (sym (rendering-same e r)) bounded;
    world = let w = narrow.width in let s = narrow.size in let h = narrow.height in
        record { width = grind (arith, nat_tests); size = grind (arith, nat_tests); height = grind (arith, nat_tests) };
  };
  small = small;
}
