-- What is asked of a way forward, so that each number that is computed on it fits.
use Rattle.std.specs.Prelude.{◌≡◌, ◌<◌, ◌≤◌, ◌+◌, ◌^◌, ℕ, ℤ, Bool, true, false, unsigned_abs, List, [], ◌∷◌, length, slice_index_or, Option, Some}
use Rattle.std.specs.List.{AllByRecursion}
use Rattle.viz_base.specs.declared.layouts.Band.{Band}
use Rattle.viz_base.specs.declared.layouts.Extent.{Extent}
use Rattle.viz_base.specs.declared.layouts.Waiting.{Waiting}
use Rattle.viz_base.specs.declared.trees.BoxTree.{BoxTree}
use Rattle.viz_base.specs.declared.worlds.World.{World}
use Rattle.viz_calc.specs.State.{AllSmall}
use Rattle.layout_semantics.specs.Floats.{FloatBox}
use Rattle.layout_semantics.specs.Flow.{Independent, Cleared}
use Rattle.layout_semantics.specs.FlowBoxes.{flow_children}
use Rattle.layout_semantics.specs.InlineContent.{is_floated_at}
use Rattle.layout_semantics.specs.Leads.{is_up_to, none_passed}
use Rattle.layout_semantics.specs.Clearance.{Base, hangs, stands, Ground}
use Rattle.lay_margin.specs.declared.runs.Run.{Run}
use Rattle.lay_margin.specs.Fitting.{edges, BoxFits, LeadsTo}
use Rattle.lay_margin.specs.Runs.{no_run, with_margin}
use Rattle.lay_margin.specs.steps.Leads.{enters, inner_band, margin_above, margin_below}
use Rattle.lay_steps.specs.Flow.{Standing, at_top, below, Context, ground_of}
use Rattle.lay_steps.specs.Forward.{Found, goes_on, cleared_of, kid_of, forward, way}
use Rattle.page_limits.specs.Bounds.{all_around, levels_of, IsLevelIn, IsBandIn, IsFloatIn}
use Rattle.lay_flow.specs.Low.{reach, IsLevelLow, AreLevelsLow, IsAsideLow, IsRunLow, IsClearedLow, IsBaseLow, IsWaitingLow}

-- ---- boxes whose margins may adjoin

-- what is computed of a box in its containing block fits, and its margins are low
pub record IsBoxLow (tree : BoxTree) (w : World) (cb : Band ℤ) (b : ℕ) : Type 0 where
  pub fits : BoxFits tree w cb b
  pub above : IsAsideLow (margin_above tree w cb b)
  pub below : IsAsideLow (margin_below tree w cb b)

-- of each box to which the margins of a box may go on
abbrev pub IsLeadLow : BoxTree → World → Band ℤ → ℕ → Type 0
IsLeadLow tree w cb b = (band : Band ℤ) (k : ℕ) → LeadsTo tree w cb b band k → IsBoxLow tree w band k

-- of boxes in one containing block, where they do not float
abbrev pub AreKidsLow : BoxTree → World → Band ℤ → List ℕ → Type 0
AreKidsLow tree w band ks = AllSmall (edges band)
    × ((i : ℕ) → i < length ks → is_floated_at tree (slice_index_or ks i 0) ≡ false
    → IsLeadLow tree w band (slice_index_or ks i 0))

-- ---- floats that wait

-- how much farther than what stands already these can reach
abbrev pub waiting_reach : (Waiting ℤ → Extent ℤ) → List (Waiting ℤ) → ℕ
waiting_reach size [] = 0
waiting_reach size (f ∷ ws) = unsigned_abs (size f).width + unsigned_abs (size f).height + waiting_reach size ws

-- floats that wait, placed one after another from y on behind these: each
-- is low, and however they are put they stay within 2^99
pub record WaitingFits (size : Waiting ℤ → Extent ℤ) (floats : List FloatBox) (least : Option ℤ) (y : ℤ)
    (ws : List (Waiting ℤ)) : Type 0 where
  pub most : ℕ
  pub before : AllByRecursion (IsFloatIn (all_around most)) floats
  pub levels : AllByRecursion (IsLevelIn (all_around most)) (levels_of least y)
  pub bands : AllByRecursion (λ (f : Waiting ℤ). IsBandIn (all_around most) f.cb) ws
  pub sizes : waiting_reach size ws ≤ 2 ^ 90
  pub room : most + waiting_reach size ws ≤ 2 ^ 99

-- ---- what a way begins with

pub record IsGroundLow (base : Base) (floats : List FloatBox) (least : Option ℤ) : Type 0 where
  pub edge : IsBaseLow base
  pub before : AllByRecursion (IsFloatIn reach) floats
  pub tops : AreLevelsLow least

-- a box that is reached with this run and these floats that wait
pub record IsGoingLow (size : Waiting ℤ → Extent ℤ) (run : Run ℤ) (ws : List (Waiting ℤ)) : Type 0 where
  pub margins : IsRunLow run
  pub bands : AllByRecursion IsWaitingLow ws
  pub room : waiting_reach size ws ≤ 2 ^ 90

-- whether such a box is cleared can be decided
pub record IsDecisionLow (g : Ground) (cb : Band ℤ) (b : ℕ) (run : Run ℤ) (ws : List (Waiting ℤ)) : Type 0 where
  pub ground : IsGroundLow g.base g.floats g.least
  pub lead : IsLeadLow g.tree g.world cb b
  pub going : IsGoingLow g.size run ws

-- ---- the way

-- where a way stands: before a box, or before boxes one after another
pub data Stage : Type 0 where
  one : ℕ → Stage
  several : List ℕ → Stage

module _ (tree : BoxTree) (w : World) (go : Band ℤ → ℕ → Run ℤ → List (Waiting ℤ) → Found) where
  -- from there, in a containing block and with a run and floats that wait,
  -- a way comes to a box with a run and floats that wait
  pub data ComesTo : Band ℤ → Stage → Run ℤ → List (Waiting ℤ) → Run ℤ → List (Waiting ℤ) → Type 0 where
    here : {cb : Band ℤ} {b : ℕ} {run : Run ℤ} {ws : List (Waiting ℤ)} → ComesTo cb (one b) run ws run ws
    inside : {cb : Band ℤ} {b : ℕ} {run : Run ℤ} {ws : List (Waiting ℤ)} {end : Run ℤ} {all : List (Waiting ℤ)}
        → enters tree b ≡ true
        → ComesTo (inner_band tree w cb b) (several (flow_children tree b))
        (with_margin run (margin_above tree w cb b)) ws end all → ComesTo cb (one b) run ws end all
    first : {cb : Band ℤ} {k : ℕ} {ks : List ℕ} {run : Run ℤ} {ws : List (Waiting ℤ)} {end : Run ℤ}
        {all : List (Waiting ℤ)} → is_floated_at tree k ≡ false
        → ComesTo cb (one k) run ws end all → ComesTo cb (several (k ∷ ks)) run ws end all
    later : {cb : Band ℤ} {k : ℕ} {ks : List ℕ} {run : Run ℤ} {ws : List (Waiting ℤ)} {end : Run ℤ}
        {all : List (Waiting ℤ)} → (kid_of tree w (go cb) cb run ws k).end ≡ goes_on
        → ComesTo cb (several ks) (kid_of tree w (go cb) cb run ws k).run (kid_of tree w (go cb) cb run ws k).waiting
        end all → ComesTo cb (several (k ∷ ks)) run ws end all

module _ (g : Ground) (go : Band ℤ → ℕ → Run ℤ → List (Waiting ℤ) → Found) where
  -- wherever it comes to, runs and floats that wait are low
  abbrev pub IsWayLow : Band ℤ → Stage → Run ℤ → List (Waiting ℤ) → Type 0
  IsWayLow cb stage run ws = (end : Run ℤ) (all : List (Waiting ℤ))
      → ComesTo g.tree g.world go cb stage run ws end all → IsGoingLow g.size end all

  -- from a box
  pub record WayFits (cb : Band ℤ) (b : ℕ) (run : Run ℤ) (ws : List (Waiting ℤ)) : Type 0 where
    pub ground : IsGroundLow g.base g.floats g.least
    pub lead : IsLeadLow g.tree g.world cb b
    pub ways : IsWayLow cb (one b) run ws

  -- from boxes one after another
  pub record KidsFit (cb : Band ℤ) (ks : List ℕ) (run : Run ℤ) (ws : List (Waiting ℤ)) : Type 0 where
    pub ground : IsGroundLow g.base g.floats g.least
    pub kids : AreKidsLow g.tree g.world cb ks
    pub ways : IsWayLow cb (several ks) run ws

  -- from one of them, which may float
  pub record KidFits (cb : Band ℤ) (k : ℕ) (run : Run ℤ) (ws : List (Waiting ℤ)) : Type 0 where
    pub band : AllSmall (edges cb)
    pub way : is_floated_at g.tree k ≡ false → WayFits cb k run ws

-- ---- where a box in flow is reached

module _ (tree : BoxTree) (w : World) (apart : ℕ → Independent) (cb : Band ℤ) (s : Context) (b : ℕ) where
  -- the way from a box in a context
  abbrev pub ForwardFits : Base → (ℕ → Bool) → Run ℤ → Type 0
  ForwardFits base passed run =
      WayFits (ground_of tree w apart base s) (way (ground_of tree w apart base s) passed) cb b run []

  -- by the cleared box ahead: where it is this one, its own way begins at its edge
  abbrev pub FromFits : Cleared → Type 0
  FromFits cleared = IsClearedLow cleared
      × ((edge : ℤ) → cleared ≡ Some (b, edge) → ForwardFits (stands edge) (is_up_to b) no_run)

  abbrev found_from : ℤ → Run ℤ → Found
  found_from edge run = forward (ground_of tree w apart (hangs edge) s) none_passed cb b run

  abbrev pub StandingFits : Standing → Type 0
  StandingFits (at_top y cleared) = IsLevelLow y × FromFits cleared
  StandingFits (below edge run stuck) = IsLevelLow edge × IsRunLow run × ForwardFits (hangs edge) none_passed run
      × IsRunLow (found_from edge run).run × FromFits (cleared_of (found_from edge run).end)

  abbrev pub ReachFits : Type 0
  ReachFits = StandingFits s.standing
