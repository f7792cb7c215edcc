-- Floats that are tried one after another stay within what their sizes leave them.
use Rattle.std.proofs.Common.{ℤ, List, [], ◌∷◌, ◌++◌, refl, arith}
use Rattle.std.proofs.lemmas.List.Elements.{Contains-append_right}
use Rattle.viz_base.specs.declared.layouts.Waiting.{Waiting}
use Rattle.layout_laws.proofs.Greatest.{All-at, filter-implied}
use Rattle.layout_laws.proofs.Members.{first_member}
use Rattle.layout_semantics.specs.Clearance.{Ground}
use Rattle.layout_semantics.specs.Floats.{FloatBox, placed_float, float_spot, with_float}
use Rattle.std.specs.Prelude.{int_lt}
use Rattle.page_limits.specs.Bounds.{all_around, IsFloatIn}
use Rattle.lay_float.specs.Trials.{Tried, reaching}
use Rattle.lay_flow.specs.Tries.{waits, first_trial, next_trial, TrialFits}
use Rattle.lay_flow.specs.WayFits.{WaitingFits}
use Rattle.lay_flow.proofs.WaitingLow.{next-waits}

module _ (g : Ground) where
  -- from the top of a float that stands already
  from-top : (floats : List FloatBox) (b : FloatBox) (y : ℤ) (ws : List (Waiting ℤ)) → WaitingFits g.size (floats ++ b ∷ []) g.least y ws → WaitingFits g.size (floats ++ b ∷ []) g.least b.box.top ws
  from-top floats b y ws p = record {
    most = p.most;
    before = p.before;
    levels = ((All-at (IsFloatIn (all_around p.most)) (floats ++ b ∷ []) b p.before (Contains-append_right floats (b ∷ []) b (first_member [] refl))).top, p.levels.1);
    bands = p.bands;
    sizes = p.sizes;
    room = p.room;
  }

  fewer-wait : (level : ℤ) (floats : List FloatBox) (y : ℤ) (ws : List (Waiting ℤ)) → WaitingFits g.size floats g.least y ws → WaitingFits g.size (reaching level floats) g.least y ws
  fewer-wait level floats y ws p = record {
    most = p.most;
    before = filter-implied (IsFloatIn (all_around p.most)) (IsFloatIn (all_around p.most)) (λ (f : FloatBox). int_lt level f.box.bottom) floats (λ f i t. i) p.before;
    levels = p.levels;
    bands = p.bands;
    sizes = p.sizes;
    room = p.room;
  }

  tried-fits : (f : Waiting ℤ) (near : List FloatBox) (y : ℤ) (ws : List (Waiting ℤ)) → WaitingFits g.size near g.least y (f ∷ ws)
      → WaitingFits g.size (with_float (waits g f) near g.least y) g.least (float_spot (waits g f) near g.least y).y ws
  tried-fits f near y ws p = from-top near (placed_float (waits g f).side (waits g f).size (float_spot (waits g f) near g.least y)) y ws (next-waits g.tree g.size g.least y near f ws p)

  pub first-fits : (f : Waiting ℤ) (y : ℤ) (ws : List (Waiting ℤ)) → WaitingFits g.size g.floats g.least y (f ∷ ws) → TrialFits g (first_trial g f y) ws
  first-fits f y ws p = tried-fits f g.floats y ws p

  pub next-fits : (f : Waiting ℤ) (t : Tried) (ws : List (Waiting ℤ)) → TrialFits g t (f ∷ ws) → TrialFits g (next_trial g f t) ws
  next-fits f t ws p = tried-fits f (reaching t.level t.near) t.level ws (fewer-wait t.level t.near t.level (f ∷ ws) p)

  -- the first one alone
  pub one-fits : (floats : List FloatBox) (y : ℤ) (f : Waiting ℤ) (ws : List (Waiting ℤ)) → WaitingFits g.size floats g.least y (f ∷ ws) → WaitingFits g.size floats g.least y (f ∷ [])
  one-fits floats y f ws p =
      let sizes = p.sizes in
      let room = p.room in
      record { most = p.most; before = p.before; levels = p.levels; bands = (p.bands.0, tt); sizes = omega (arith, sizes); room = omega (arith, room) }
