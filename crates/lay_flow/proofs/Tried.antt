-- Floats that are tried one after another: what was tried of the first ones goes for those that follow.
use Rattle.std.proofs.Common.{◌≡◌, ℕ, zero, suc, ℤ, List, [], ◌∷◌, ◌++◌, length, take, drop, Option, Some, None, refl, ap, sym, subst, ◌∙◌, arith}
use Rattle.std.proofs.lemmas.List.{take_all, take-append-le, length-append}
use Rattle.std.specs.Prelude.{unwrap_or}
use Rattle.viz_base.specs.declared.layouts.Waiting.{Waiting}
use Rattle.viz_calc.specs.World.{Reading}
use Rattle.layout_semantics.specs.Clearance.{Ground, with_waiting}
use Rattle.lay_float.specs.Limits.{AreHalf}
use Rattle.lay_float.specs.TrialReadings.{trial_at}
use Rattle.lay_float.specs.Trials.{Tried}
use Rattle.lay_float.proofs.Same.{tried-same}
use Rattle.lay_flow.specs.Tries.{first_trial, next_trial, other_trials, trial_of, floats_with, IsTrialOf, TrialFits}
use Rattle.lay_flow.specs.WayFits.{WaitingFits}
use Rattle.lay_flow.specs.Ways.{ground_at, AreTried}
use Rattle.lay_flow.specs.declared.forward.Way.{Way}
use Rattle.lay_flow.specs.declared.parts.Tries.{Tries}
use Rattle.lay_flow.proofs.TriesLow.{first-fits, next-fits}
use Rattle.lay_flow.proofs.WaitingLow.{after-half}

module _ (g : Ground) where
  others-on : (n : ℕ) (ws : List (Waiting ℤ)) (t : Tried) → other_trials g (drop n ws) (other_trials g (take n ws) t) ≡ other_trials g ws t
  others-on zero ws t = refl
  others-on (suc n) [] t = refl
  others-on (suc n) (f ∷ ws) t = others-on n ws (next_trial g f t)

  others-fit : (n : ℕ) (ws : List (Waiting ℤ)) (t : Tried) → TrialFits g t ws → TrialFits g (other_trials g (take n ws) t) (drop n ws)
  others-fit zero ws t p = p
  others-fit (suc n) [] t p = p
  others-fit (suc n) (f ∷ ws) t p = others-fit n ws (next_trial g f t) (next-fits g f t ws p)

  module _ (y : ℤ) where
    -- trying those that are left
    pub goes-on : (n : ℕ) (ws : List (Waiting ℤ)) (t : Tried) → trial_of g y (take n ws) ≡ Some t → Some (other_trials g (drop n ws) t) ≡ trial_of g y ws
    goes-on zero ws t e = absurd (cc)
    goes-on (suc n) [] t e = absurd (cc)
    goes-on (suc n) (f ∷ ws) t e =
        ap (λ o. Some (other_trials g (drop n ws) (unwrap_or o t))) (sym e)
        ∙ ap Some (others-on n ws (first_trial g f y))

    pub rest-fits : (n : ℕ) (ws : List (Waiting ℤ)) (t : Tried) → trial_of g y (take n ws) ≡ Some t → WaitingFits g.size g.floats g.least y ws → TrialFits g t (drop n ws)
    rest-fits zero ws t e p = absurd (cc)
    rest-fits (suc n) [] t e p = absurd (cc)
    rest-fits (suc n) (f ∷ ws) t e p =
        subst (λ o. TrialFits g (unwrap_or o t) (drop n ws)) e (others-fit n ws (first_trial g f y) (first-fits g f y ws p))

    -- all that wait are tried
    pub of-all : (ws : List (Waiting ℤ)) (t : Tried) → Some t ≡ trial_of g y ws → IsTrialOf g y (length ws) ws t
    of-all ws t e = record {
      within = omega arith;
      tried = ap (trial_of g y) (take_all (length ws) ws (omega arith)) ∙ sym e;
    }

    -- one more waits
    pub one-more : (n : ℕ) (ws : List (Waiting ℤ)) (t : Tried) (f : Waiting ℤ) → IsTrialOf g y n ws t → IsTrialOf g y n (ws ++ f ∷ []) t
    one-more n ws t f i =
        let within = i.within in
        let long = length-append ws (f ∷ []) in
        record {
          within = omega (arith, within, long);
          tried = ap (trial_of g y) (take-append-le n ws (f ∷ []) within) ∙ i.tried;
        }

    -- they stand where floats that wait do
    pub floats-same : (ws : List (Waiting ℤ)) → floats_with g (trial_of g y ws) ≡ with_waiting g.tree g.size ws g.floats g.least y
    floats-same [] = refl
    floats-same (f ∷ ws) = tried-same g.tree g.size g.least y f ws g.floats

    pub floats-half : (ws : List (Waiting ℤ)) → WaitingFits g.size g.floats g.least y ws → AreHalf (floats_with g (trial_of g y ws)) []
    floats-half ws p = subst (λ fs. AreHalf fs []) (sym (floats-same ws)) (after-half g.tree g.size g.least y g.floats ws p)

-- what was tried stays so as one more waits
pub later-tried : {N : Type 0} (at : N → Reading → ℤ) (x : Way N) (e : Reading) (tries : Option (Tries N)) (ws : List (Waiting ℤ)) (f : Waiting ℤ) → AreTried at x e ws tries → AreTried at x e (ws ++ f ∷ []) tries
later-tried at x e None ws f k = tt
later-tried at x e (Some t) ws f k = one-more (ground_at at x e) (at t.y e) t.count ws (trial_at at t.trial e) f k
