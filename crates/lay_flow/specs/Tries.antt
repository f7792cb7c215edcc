-- The floats that wait on a way, tried one after another.
use Rattle.std.specs.Prelude.{◌≡◌, ◌≤◌, ℕ, ℤ, List, [], ◌∷◌, length, take, Option, Some, None}
use Rattle.viz_base.specs.declared.layouts.Waiting.{Waiting}
use Rattle.layout_semantics.specs.Clearance.{Ground}
use Rattle.layout_semantics.specs.Floats.{FloatBox, Floating, floating}
use Rattle.lay_float.specs.Trials.{Tried, first_tried, next_tried, all_tried}
use Rattle.lay_flow.specs.WayFits.{WaitingFits}

module _ (g : Ground) where
  abbrev pub waits : Waiting ℤ → Floating
  waits f = floating g.tree f.at (g.size f) f.cb

  -- the first one, where the run of margins ends at y
  abbrev pub first_trial : Waiting ℤ → ℤ → Tried
  first_trial f y = first_tried (waits f) g.floats g.least y

  abbrev pub next_trial : Waiting ℤ → Tried → Tried
  next_trial f t = next_tried (waits f) g.least t

  abbrev pub other_trials : List (Waiting ℤ) → Tried → Tried
  other_trials ws t = all_tried g.tree g.size g.least ws t

  -- what is computed as these are tried fits
  abbrev pub TrialFits : Tried → List (Waiting ℤ) → Type 0
  TrialFits t ws = WaitingFits g.size t.near g.least t.level ws

  -- all that wait, where the run of margins ends at y
  abbrev pub trial_of : ℤ → List (Waiting ℤ) → Option Tried
  trial_of y [] = None
  trial_of y (f ∷ ws) = Some (other_trials ws (first_trial f y))

  -- the floats of the context with those that are tried
  abbrev pub floats_with : Option Tried → List FloatBox
  floats_with None = g.floats
  floats_with (Some t) = t.all

  -- a trial of the first ones of those that wait
  pub record IsTrialOf (y : ℤ) (count : ℕ) (ws : List (Waiting ℤ)) (t : Tried) : Type 0 where
    pub within : count ≤ length ws
    pub tried : trial_of y (take count ws) ≡ Some t
