-- Floats of a line: one that waits after all, and the list without it.
use Rattle.std.proofs.Common.{◌≡◌, ℕ, ℤ, Bool, true, false, cond, List, [], ◌∷◌, length, take, refl, sym, ap, ◌∙◌, arith}
use Rattle.std.specs.Prelude.{◌==◌}
use Rattle.std.proofs.Math.Seq.{take-append_seam}
use Rattle.std.proofs.lemmas.Bool.Decides.{nat_tests}
use Rattle.std.specs.List.{take-map}
use Rattle.std.proofs.lemmas.List.{length-map}
use Rattle.viz_base.specs.declared.layouts.Spot.{Spot}
use Rattle.viz_calc.specs.World.{Reading}
use Rattle.layout_semantics.specs.Floats.{FloatBox}
use Rattle.layout_semantics.specs.LineHeights.{InlineContext}
use Rattle.layout_semantics.specs.LineFilling.{Met, none_waits, with_waiting}
use Rattle.lay_float.specs.Readings.{boxes_at}
use Rattle.lay_float.specs.declared.floats.PlacedFloat.{PlacedFloat}
use Rattle.lay_line.specs.steps.Meeting.{Slot, leaves, kept_at, met_at_spot, met_next}
use Rattle.lay_line.specs.steps.Words.{spot_in, floats_with}

pub back-to : {N : Type 0} (at : N → Reading → ℤ) (e : Reading) (c : InlineContext) (old new : List (PlacedFloat N)) (n b : ℕ) (spot : Spot ℤ)
    → n ≡ length old → boxes_at at new e ≡ floats_with c (boxes_at at old e) b spot → boxes_at at (take n new) e ≡ boxes_at at old e
unfolding floats_with
back-to at e c old new n b spot is grown =
    sym (take-map _ n new)
    ∙ (ap (take n) grown
    ∙ (ap (λ k. take k (floats_with c (boxes_at at old e) b spot)) (is ∙ sym (length-map old _))
    ∙ take-append_seam (boxes_at at old e) _))

pub waits-after : (c : InlineContext) (slot : Slot) (held : ℤ) (met : Met) (at : ℕ) (spot : Spot ℤ) (floats : List FloatBox)
    → met.waiting ≡ [] → spot ≡ spot_in c met.floats slot.least slot.top at → floats ≡ floats_with c met.floats at spot → false ≡ leaves c slot held floats spot.y
    → with_waiting met at ≡ met_next c slot held met at
unfolding met_next
waits-after c slot held met at spot floats none is grown refuses = sym (by met.waiting none)
  where
    inner : met_at_spot c slot held met at (spot_in c met.floats slot.least slot.top at) ≡ with_waiting met at
    inner =
        ap (met_at_spot c slot held met at) (sym is)
        ∙ (ap (λ fs. cond (leaves c slot held fs spot.y) (kept_at c met at spot) (with_waiting met at)) (sym grown)
        ∙ ap (λ (b : Bool). cond b (kept_at c met at spot) (with_waiting met at)) (sym refuses))

    by : (w : List ℕ) → w ≡ [] → cond (none_waits (record { spots = met.spots; floats = met.floats; waiting = w })) (met_at_spot c slot held met at (spot_in c met.floats slot.least slot.top at)) (with_waiting met at) ≡ with_waiting met at
    by [] e = inner
    by (x ∷ w) e = absurd (cc)

pub none-is : (b : Bool) (xs : List ℕ) → b ≡ true → b ≡ (length xs == 0) → xs ≡ []
none-is b [] p q = refl
none-is b (x ∷ xs) p q = absurd (grind (arith, nat_tests))
