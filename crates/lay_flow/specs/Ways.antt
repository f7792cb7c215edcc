-- A way forward at a reading.
use Rattle.std.specs.Prelude.{◌≡◌, ℕ, ℤ, IfSome, cond, List, length, Option, Some, option_map}
use Rattle.viz_base.specs.declared.layouts.Band.{Band}
use Rattle.viz_base.specs.declared.layouts.Waiting.{Waiting}
use Rattle.viz_base.specs.declared.trees.BoxTree.{BoxTree}
use Rattle.viz_calc.specs.World.{Reading}
use Rattle.viz_calc.specs.State.{WhereOpen}
use Rattle.viz_calc.specs.Run.{Run, Goes, BlamesButMem}
use Rattle.layout_semantics.specs.Clearance.{Ground, on_ground}
use Rattle.layout_semantics.specs.FlowBoxes.{may_collapse_through}
use Rattle.lay_float.specs.Readings.{boxes_at, option_at}
use Rattle.lay_margin.specs.Readings.{floats_at, passed_by}
use Rattle.lay_margin.specs.declared.runs.Run.{Run as Margins}
use Rattle.lay_float.specs.TrialReadings.{trial_at}
use Rattle.lay_float.specs.Trials.{Tried}
use Rattle.lay_float.specs.declared.trial.Trial.{Trial}
use Rattle.lay_steps.specs.Forward as forward
use Rattle.lay_steps.specs.Flow.{size_in}
use Rattle.lay_steps.specs.Forward.{Found, way}
use Rattle.lay_flow.specs.Readings.{apart_at, base_at}
use Rattle.lay_flow.specs.WayFits.{IsDecisionLow, WaitingFits, WayFits, KidsFit, KidFits}
use Rattle.lay_flow.specs.Levels.{IsLevelFor}
use Rattle.lay_flow.specs.Tries.{IsTrialOf}
use Rattle.lay_flow.specs.declared.parts.Going.{Going}
use Rattle.lay_flow.specs.declared.parts.Tries.{Tries}
use Rattle.lay_flow.specs.declared.parts.End.{End}
use Rattle.lay_flow.specs.declared.parts.End.TheVariants.{GoesOn, Solid, Ends}
use Rattle.lay_flow.specs.declared.forward.Way.{Way}

module _ {N : Type 0} (at : N → Reading → ℤ) (x : Way N) (e : Reading) where
  -- what stays the same along it
  abbrev pub ground_at : Ground
  ground_at =
      on_ground x.page.now.tree.now e.world (size_in (apart_at at x.page.now.apart.now e)) (base_at at x.base.now e)
      (boxes_at at x.floats.now e) (option_at at x.least.now e)

  unfoldable pub way_at : Band ℤ → ℕ → Margins ℤ → List (Waiting ℤ) → Found
  way_at = way ground_at (passed_by x.past)

  -- from a box that is not cleared
  abbrev pub inner_at : Band ℤ → ℕ → Margins ℤ → List (Waiting ℤ) → Found
  inner_at cb b run waiting = forward.inner_step ground_at (passed_by x.past) way_at cb b run waiting

  -- through one box of a container
  abbrev pub kid_at : Band ℤ → ℕ → Margins ℤ → List (Waiting ℤ) → Found
  kid_at cb k run waiting = forward.kid_found x.page.now.tree.now e.world (way_at cb) cb k run waiting

  -- and through boxes one after another
  abbrev pub kids_at_reading : Band ℤ → List ℕ → Margins ℤ → List (Waiting ℤ) → Found
  kids_at_reading cb ks run waiting =
      forward.kids_found x.page.now.tree.now e.world (forward.kid_of x.page.now.tree.now e.world (way_at cb) cb) ks
      run waiting

-- where the margins end, by where those in a box do
abbrev pub closed_end : {N : Type 0} → BoxTree → ℕ → End N → End N
closed_end tree b GoesOn = cond (may_collapse_through tree b) GoesOn Solid
closed_end tree b Solid = Solid
closed_end tree b (Ends c) = Ends c

module _ {N : Type 0} (at : N → Reading → ℤ) (x : Way N) (e : Reading) where
  -- what is computed on it fits
  abbrev pub DecisionFitsAt : Band ℤ → ℕ → Margins ℤ → List (Waiting ℤ) → Type 0
  DecisionFitsAt = IsDecisionLow (ground_at at x e)

  abbrev pub WayFitsAt : Band ℤ → ℕ → Margins ℤ → List (Waiting ℤ) → Type 0
  WayFitsAt = WayFits (ground_at at x e) (way_at at x e)

  abbrev pub KidsFitAt : Band ℤ → List ℕ → Margins ℤ → List (Waiting ℤ) → Type 0
  KidsFitAt = KidsFit (ground_at at x e) (way_at at x e)

  abbrev pub KidFitsAt : Band ℤ → ℕ → Margins ℤ → List (Waiting ℤ) → Type 0
  KidFitsAt = KidFits (ground_at at x e) (way_at at x e)

  abbrev pub WaitingFitsAt : ℤ → List (Waiting ℤ) → Type 0
  WaitingFitsAt y ws =
      WaitingFits (size_in (apart_at at x.page.now.apart.now e)) (boxes_at at x.floats.now e)
      (option_at at x.least.now e) y ws

  -- floats that were tried on it, if any were: the first ones of these
  abbrev pub AreTried : List (Waiting ℤ) → Option (Tries N) → Type 0
  AreTried ws tries =
      IfSome tries (λ t. IsTrialOf (ground_at at x e) (at t.y e) t.count ws (trial_at at t.trial e))

  -- all of these were tried
  abbrev pub AreAllTried : List (Waiting ℤ) → Tries N → Type 0
  AreAllTried ws t = (t.count ≡ length ws) × AreTried ws (Some t)

  -- and stand level where they were, as they do at y
  pub record TellsOf (run : Margins ℤ) (ws : List (Waiting ℤ)) (t : Tries N) (y : ℤ) : Type 0 where
    pub tried : AreAllTried ws t
    pub level : IsLevelFor (ground_at at x e) run (trial_at at t.trial e).level (at t.y e) y

abbrev pub trials_at : {N : Type 0} → (N → Reading → ℤ) → Option (Trial N) → Reading → Option Tried
trials_at at t e = option_map (λ t. trial_at at t e) t

module _ {N : Type 0} (at : N → Reading → ℤ) (x : Way N) where
  -- what is kept was tried on it, at each reading that is open
  abbrev pub Keeps : Run → Going N → Type 0
  Keeps run going = WhereOpen run.is_open (λ e. AreTried at x e (floats_at at going.waiting e) going.tries)

  -- what a step of the way keeps to
  abbrev pub GoesForward : {C T : Type 0} → (C → Run) → C → C → Going N → (Reading → T) → (Reading → T)
      → (Reading → Type 0) → Type 0
  GoesForward run old new going given meant fits = record {
    goes : Goes (run old) (run new);
    value : WhereOpen (run new).is_open (λ e. given e ≡ meant e);
    keeps : Keeps (run new) going;
    cause : BlamesButMem (run old) (run new) (WhereOpen (run old).is_open fits);
  }
