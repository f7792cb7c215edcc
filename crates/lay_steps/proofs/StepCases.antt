-- The steps of the flow, case by case.
use Rattle.std.proofs.Common.{◌≡◌, ℕ, ℤ, ◌+ℤ◌, Bool, true, false, ◌==◌, Some, ap, ◌∙◌}
use Rattle.viz_base.specs.declared.layouts.Band.{Band}
use Rattle.viz_base.specs.declared.trees.BoxTree.{BoxTree}
use Rattle.viz_base.specs.declared.worlds.World.{World}
use Rattle.layout_semantics.specs.Rectangles.{Frame, content_top}
use Rattle.layout_semantics.specs.FlowBoxes.{is_replaced_at, is_context_root, is_open_above, flow_children, inline_size}
use Rattle.layout_semantics.specs.InlineContent.{is_floated_at, has_line}
use Rattle.layout_semantics.specs.Leads.{none_passed, is_up_to}
use Rattle.layout_semantics.specs.Clearance.{hangs, stands}
use Rattle.layout_semantics.specs.Flow.{Cleared, Independent, Reached}
use Rattle.lay_margin.specs.declared.runs.Run.{Run}
use Rattle.lay_margin.specs.Runs.{no_run, collapse}
use Rattle.lay_steps.specs.Forward.{cleared_of}
use Rattle.lay_steps.specs.Flow.{Standing, at_top, below, Context, Step, Laid, Met, met, standing_in, frame_of, corner_of, laid_replaced, replaced_independent, laid_context, laid_block, laid, context_independent, independent, forward_of, reached_from, reached_of, float_of, in_lines, children, flow_child, child, content_step}

-- ---- where the first child of a block stands

module _ (tree : BoxTree) (b : ℕ) (cleared : Cleared) (f : Frame) where
  abbrev stands_by : Bool → Standing
  stands_by o = elim o as (λ _. Standing) [ true ↦ at_top f.corner.y cleared | false ↦ below (content_top f) no_run false ]

  pub stands-open : is_open_above tree b ≡ true → standing_in tree b cleared f ≡ at_top f.corner.y cleared
  unfolding standing_in
  stands-open e = ap stands_by e

  pub stands-parted : is_open_above tree b ≡ false → standing_in tree b cleared f ≡ below (content_top f) no_run false
  unfolding standing_in
  stands-parted e = ap stands_by e

-- ---- where a box in flow is reached

module _ (tree : BoxTree) (w : World) (apart : ℕ → Independent) (cb : Band ℤ) (s : Context) (b : ℕ) where
  abbrev itself_met : ℤ → Met
  itself_met edge =
      let f = forward_of tree w apart (stands edge) (is_up_to b) cb s b no_run in
      met (record { top = edge; clears = true; cleared = cleared_of f.end }) f.run

  abbrev other_met : ℤ → Cleared → Run ℤ → Met
  other_met y c own = met (record { top = y; clears = false; cleared = c }) own

  -- the cleared box itself, or another one
  pub met-itself : (y : ℤ) (c : ℕ × ℤ) (own : Run ℤ) → (c.0 == b) ≡ true → reached_from tree w apart cb s b y (Some c) own ≡ itself_met c.1
  unfolding reached_from
  met-itself y c own e = ap (λ (x : Bool). elim x as (λ _. Met) [ true ↦ itself_met c.1 | false ↦ other_met y (Some c) own ]) e

  pub met-other : (y : ℤ) (c : ℕ × ℤ) (own : Run ℤ) → (c.0 == b) ≡ false → reached_from tree w apart cb s b y (Some c) own ≡ other_met y (Some c) own
  unfolding reached_from
  met-other y c own e = ap (λ (x : Bool). elim x as (λ _. Met) [ true ↦ itself_met c.1 | false ↦ other_met y (Some c) own ]) e

  abbrev below_met : ℤ → Run ℤ → Met
  below_met edge run =
      let f = forward_of tree w apart (hangs edge) none_passed cb s b run in
      reached_from tree w apart cb s b (edge +ℤ collapse f.run) (cleared_of f.end) f.run

  abbrev met_by : Standing → Met
  met_by (at_top y cleared) = reached_from tree w apart cb s b y cleared no_run
  met_by (below edge run stuck) = below_met edge run

  pub met-top : (y : ℤ) (cleared : Cleared) → s.standing ≡ at_top y cleared → reached_of tree w apart cb s b ≡ reached_from tree w apart cb s b y cleared no_run
  unfolding reached_of
  met-top y cleared e = ap met_by e

  pub met-below : (edge : ℤ) (run : Run ℤ) (stuck : Bool) → s.standing ≡ below edge run stuck → reached_of tree w apart cb s b ≡ below_met edge run
  unfolding reached_of
  met-below edge run stuck e = ap met_by e

-- ---- a box in flow, and one in coordinates of its own

module _ (tree : BoxTree) (w : World) (content : ℕ → Band ℤ → ℤ → Context → Step) where
  module _ (cb : Band ℤ) (s : Context) (b : ℕ) (r : Reached) where
    abbrev laid_by : Bool → Bool → Laid
    laid_by true root = laid_replaced tree w (inline_size cb) s b (frame_of tree w b (inline_size cb) cb.left r.top)
    laid_by false true = laid_context tree w content cb s b (frame_of tree w b (inline_size cb) cb.left r.top)
    laid_by false false = laid_block tree w content cb s b r.cleared (frame_of tree w b (inline_size cb) cb.left r.top)

    pub lays-replaced : is_replaced_at tree b ≡ true → laid tree w content cb s b r ≡ laid_by true true
    unfolding laid
    lays-replaced e = ap (λ (x : Bool). laid_by x (is_context_root tree b)) e

    pub lays-context : is_replaced_at tree b ≡ false → is_context_root tree b ≡ true → laid tree w content cb s b r ≡ laid_by false true
    unfolding laid
    lays-context e f = ap (λ (x : Bool). laid_by x (is_context_root tree b)) e ∙ ap (laid_by false) f

    pub lays-block : is_replaced_at tree b ≡ false → is_context_root tree b ≡ false → laid tree w content cb s b r ≡ laid_by false false
    unfolding laid
    lays-block e f = ap (λ (x : Bool). laid_by x (is_context_root tree b)) e ∙ ap (laid_by false) f

  module _ (b : ℕ) (room : ℤ) where
    abbrev independent_by : Bool → Independent
    independent_by x = elim x as (λ _. Independent) [
      | true ↦ replaced_independent tree w b room (corner_of tree w b room)
      | false ↦ context_independent tree w content b (corner_of tree w b room)
    ]

    pub independent-replaced : is_replaced_at tree b ≡ true → independent tree w content b room ≡ replaced_independent tree w b room (corner_of tree w b room)
    unfolding independent
    independent-replaced e = ap independent_by e

    pub independent-context : is_replaced_at tree b ≡ false → independent tree w content b room ≡ context_independent tree w content b (corner_of tree w b room)
    unfolding independent
    independent-context e = ap independent_by e

  -- ---- a child, and what is in a box

  module _ (apart : ℕ → Independent) (cb : Band ℤ) (top : ℤ) (s : Context) where
    abbrev child_by : ℕ → Bool → Step
    child_by k x = elim x as (λ _. Step) [ true ↦ float_of tree w apart cb top s k | false ↦ flow_child tree w content apart cb s k ]

    pub child-float : (k : ℕ) → is_floated_at tree k ≡ true → child tree w content apart cb top s k ≡ float_of tree w apart cb top s k
    unfolding child
    child-float k e = ap (child_by k) e

    pub child-flow : (k : ℕ) → is_floated_at tree k ≡ false → child tree w content apart cb top s k ≡ flow_child tree w content apart cb s k
    unfolding child
    child-flow k e = ap (child_by k) e

    abbrev step_by : ℕ → Bool → Step
    step_by b x = elim x as (λ _. Step) [ true ↦ in_lines tree w apart b cb top s | false ↦ children (child tree w content apart cb top) s (flow_children tree b) ]

    pub step-lines : (b : ℕ) → has_line tree b ≡ true → content_step tree w content apart b cb top s ≡ in_lines tree w apart b cb top s
    unfolding content_step
    step-lines b e = ap (step_by b) e

    pub step-children : (b : ℕ) → has_line tree b ≡ false → content_step tree w content apart b cb top s ≡ children (child tree w content apart cb top) s (flow_children tree b)
    unfolding content_step
    step-children b e = ap (step_by b) e
