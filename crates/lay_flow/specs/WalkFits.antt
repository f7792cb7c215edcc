-- What is asked of a walk over the boxes of a context, so that each number that is computed on it fits.
use Rattle.std.specs.Prelude.{◌≡◌, ℕ, zero, suc, ℤ, Bool, true, false, List, [], ◌∷◌, unwrap_or, IsTrue}
use Rattle.std.specs.List.{AllByRecursion}
use Rattle.viz_base.specs.declared.layouts.Band.{Band}
use Rattle.viz_base.specs.declared.trees.BoxTree.{BoxTree}
use Rattle.viz_base.specs.declared.worlds.World.{World}
use Rattle.viz_calc.specs.World.{Reading}
use Rattle.layout_semantics.specs.Flow.{Independent, Cleared}
use Rattle.layout_semantics.specs.FlowBoxes.{inline_size, content_from, flow_children, is_context_root, is_replaced_at}
use Rattle.layout_semantics.specs.InlineContent.{has_line, is_floated_at}
use Rattle.layout_semantics.specs.LineHeights.{InlineContext}
use Rattle.layout_semantics.specs.Rectangles.{Frame, content_top}
use Rattle.lay_width.specs.Fitting.{VerticalsFit}
use Rattle.lay_line.specs.LinesFit.{LinesFit}
use Rattle.lay_preferred.specs.Fitting.{BoxesFit}
use Rattle.lay_steps.specs.Flow.{Context, fresh}
use Rattle.lay_flow.specs.Low.{AreApartLow, AreLevelsLow, IsIndependentLow, IsAsideLow, IsBandLow, IsContextLow, IsFrameLow, IsLevelLow, IsRunLow, IsStandingLow}
use Rattle.lay_flow.specs.Fits.{IsEntryLow, IsHeightFit, IsNear, IsReplacedFit, IsShapeFit}
use Rattle.lay_flow.specs.WayFits.{ReachFits}
use Rattle.lay_steps.specs.Flow.{block_of, child_of, content_of, frame_of, inner_table, lines_of, opened, reached_of, root_of, standing_in}

-- the boxes of a tree, for their preferred widths, and this at each open reading
abbrev pub AllFit : BoxTree → (Reading → Bool) → (Reading → Type 0) → Type 0
AllFit tree is_open asks = BoxesFit tree is_open × ((e : Reading) → IsTrue (is_open e) → asks e)

-- Where a walk stands: before what is in a box, before children one after another,
-- before a child, before one in flow, before it where it is reached, and before it with
-- its frame, where it starts a context or goes on with that around it.
pub data Place : Type 0 where
  before_content : ℕ → Band ℤ → ℤ → Context → Place
  before_children : Band ℤ → ℤ → Context → List ℕ → Place
  before_child : Band ℤ → ℤ → Context → ℕ → Place
  before_flow : Band ℤ → Context → ℕ → Place
  when_reached : Band ℤ → Context → ℕ → ℤ → Cleared → Place
  when_starting : Band ℤ → Context → ℕ → Frame → Place
  when_going_on : Band ℤ → Context → ℕ → Cleared → Frame → Place

module _ (tree : BoxTree) (w : World) (apart : ℕ → Independent) where
  abbrev pub inline_context : ℕ → Band ℤ → InlineContext
  inline_context b cb = record { tree = tree; world = w; container = b; inner = inner_table tree w apart b; cb = cb }

  -- the lines of a box
  pub record InLinesFit (b : ℕ) (cb : Band ℤ) (top : ℤ) (s : Context) : Type 0 where
    pub apart_low : AreApartLow apart
    pub top_near : IsNear top
    pub least : AreLevelsLow s.least
    pub lines : LinesFit (inline_context b cb) top (unwrap_or s.least top) s.floats
    pub bottom : IsNear (lines_of tree w apart b cb top s).bottom
    pub entries : AllByRecursion IsEntryLow (lines_of tree w apart b cb top s).entries

  -- a float
  pub record FloatFits (cb : Band ℤ) (top : ℤ) (s : Context) (k : ℕ) : Type 0 where
    pub so_far : IsContextLow s
    pub band : IsBandLow cb
    pub top_near : IsNear top
    pub own : IsIndependentLow (apart k)

module _ (tree : BoxTree) (w : World) (apart : ℕ → Independent) where
  abbrev pub inner_end : ℕ → Band ℤ → ℤ → Context → Context
  inner_end b cb top s = (content_of tree w apart b cb top s).context

  abbrev pub frame_in : Band ℤ → ℕ → ℤ → Frame
  frame_in cb b top = frame_of tree w b (inline_size cb) cb.left top

  -- what is asked at a place, by what is asked at the next ones
  module _ (next : Place → Type 0) where
    pub record ContentFits (b : ℕ) (cb : Band ℤ) (top : ℤ) (s : Context) : Type 0 where
      pub in_lines : has_line tree b ≡ true → InLinesFit tree w apart b cb top s
      pub in_boxes : has_line tree b ≡ false → next (before_children cb top s (flow_children tree b))

    pub record ChildrenFit (cb : Band ℤ) (top : ℤ) (s : Context) (k : ℕ) (ks : List ℕ) : Type 0 where
      pub first : next (before_child cb top s k)
      pub others : next (before_children cb top (child_of tree w apart cb top s k).context ks)

    pub record ChildFits (cb : Band ℤ) (top : ℤ) (s : Context) (k : ℕ) : Type 0 where
      pub floats : is_floated_at tree k ≡ true → FloatFits tree w apart cb top s k
      pub flows : is_floated_at tree k ≡ false → next (before_flow cb s k)

    pub record FlowFits (cb : Band ℤ) (s : Context) (b : ℕ) : Type 0 where
      pub reach : ReachFits tree w apart cb s b
      pub standing : IsStandingLow s.standing
      pub inside : next
          (when_reached cb s b (reached_of tree w apart cb s b).reached.top
          (reached_of tree w apart cb s b).reached.cleared)
      pub band : IsBandLow cb
      pub down : VerticalsFit tree w b (inline_size cb)
      pub top_low : IsLevelLow (reached_of tree w apart cb s b).reached.top
      pub run : IsRunLow (reached_of tree w apart cb s b).run

    pub record LaidFits (cb : Band ℤ) (s : Context) (b : ℕ) (top : ℤ) (cleared : Cleared) : Type 0 where
      pub band : IsBandLow cb
      pub top_low : IsLevelLow top
      pub shape : IsShapeFit tree w b (inline_size cb)
      pub frame : IsFrameLow (frame_in cb b top)
      pub least : AreLevelsLow s.least
      pub replaced : is_replaced_at tree b ≡ true → IsReplacedFit tree w b (inline_size cb)
      pub root : is_replaced_at tree b ≡ false → is_context_root tree b ≡ true
          → next (when_starting cb s b (frame_in cb b top))
      pub block : is_replaced_at tree b ≡ false → is_context_root tree b ≡ false
          → next (when_going_on cb s b cleared (frame_in cb b top))

    -- a box around what is in it, from the standing of its first child on
    pub record AroundFits (cb : Band ℤ) (b : ℕ) (f : Frame) (s : Context) (bottom : ℤ) : Type 0 where
      pub left : IsAsideLow cb.left
      pub frame : IsFrameLow f
      pub own_height : IsHeightFit tree w b
      pub inside : next (before_content b (content_from cb.left f.x) (content_top f) s)
      pub end : IsContextLow (inner_end b (content_from cb.left f.x) (content_top f) s)
      pub bottom_low : IsLevelLow bottom

    pub record StartFits (cb : Band ℤ) (s : Context) (b : ℕ) (f : Frame) : Type 0 where
      pub least : AreLevelsLow s.least
      pub around : AroundFits cb b f (fresh (content_top f))
          (root_of tree w b f
          (inner_end b (content_from cb.left f.x) (content_top f) (fresh (content_top f)))).border.bottom

    pub record GoOnFits (cb : Band ℤ) (s : Context) (b : ℕ) (cleared : Cleared) (f : Frame) : Type 0 where
      pub least : AreLevelsLow s.least
      pub around : AroundFits cb b f (opened s f (standing_in tree b cleared f))
          (block_of tree w b f
          (inner_end b (content_from cb.left f.x) (content_top f)
          (opened s f (standing_in tree b cleared f)))).border.bottom

    abbrev pub PlaceFits : Place → Type 0
    PlaceFits (before_content b cb top s) = ContentFits b cb top s
    PlaceFits (before_children cb top s []) = Unit {0}
    PlaceFits (before_children cb top s (k ∷ ks)) = ChildrenFit cb top s k ks
    PlaceFits (before_child cb top s k) = ChildFits cb top s k
    PlaceFits (before_flow cb s b) = FlowFits cb s b
    PlaceFits (when_reached cb s b top cleared) = LaidFits cb s b top cleared
    PlaceFits (when_starting cb s b f) = StartFits cb s b f
    PlaceFits (when_going_on cb s b cleared f) = GoOnFits cb s b cleared f

  -- at so many places one after another
  unfoldable pub FitsTo : ℕ → Place → Type 0
  FitsTo zero p = Unit {0}
  FitsTo (suc n) p = PlaceFits (FitsTo n) p

  -- wherever the walk comes to from there
  pub record WalkFits (p : Place) : Type 0 where
    pub each : (n : ℕ) → FitsTo n p
