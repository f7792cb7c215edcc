-- The margins that adjoin the top of a box that comes next, joined to a run, and the floats between them, up to
-- the first box that is cleared; which one is, is decided where it is met (CSS 2.1, 8.3.1, 9.5.2).
use Rattle.std.specs.Prelude.{ℕ, zero, suc, ℤ, Bool, true, false, int_lt, List, [], ◌∷◌, ◌++◌, length, Option, Some, None, unwrap_or}
use Rattle.std.specs.Option.{option_map_or}
use Rattle.viz_base.specs.declared.layouts.Band.{Band}
use Rattle.viz_base.specs.declared.layouts.Waiting.{Waiting}
use Rattle.viz_base.specs.declared.trees.BoxTree.{BoxTree}
use Rattle.viz_base.specs.declared.worlds.World.{World}
use Rattle.layout_semantics.specs.Floats.{lowest_bottom}
use Rattle.layout_semantics.specs.FlowBoxes.{clear_of, may_collapse_through, flow_children}
use Rattle.layout_semantics.specs.InlineContent.{is_floated_at}
use Rattle.layout_semantics.specs.Leads.{is_up_to}
use Rattle.layout_semantics.specs.Clearance.{Ground, with_waiting}
use Rattle.lay_margin.specs.declared.runs.Run.{Run}
use Rattle.lay_margin.specs.Runs.{with_margin}
use Rattle.lay_margin.specs.steps.Leads.{enters, stops, margin_above, margin_below, inner_band, lead_of}
use Rattle.lay_steps.specs.Runs.{edge_at}

-- where it ends: the box's own bottom margin adjoins; at the content, the border or
-- the padding of a box; or at a box that is cleared, with its border edge
pub data End : Type 0 where
  goes_on : End
  solid : End
  cleared : ℕ → ℤ → End

abbrev pub cleared_of : End → Option (ℕ × ℤ)
cleared_of goes_on = None
cleared_of solid = None
cleared_of (cleared b edge) = Some (b, edge)

-- so far: the run, the floats that wait for its end, and where it ends
pub record Found : Type 0 where
  pub run : Run ℤ
  pub waiting : List (Waiting ℤ)
  pub end : End

abbrev pub found : Run ℤ → List (Waiting ℤ) → End → Found
found run waiting end = record { run = run; waiting = waiting; end = end }

-- what goes through goes on, and any other has ended
abbrev pub then_on : Found → Found → Found
then_on f rest = elim f.end [ goes_on ↦ rest | solid ↦ f | cleared b edge ↦ f ]

-- the first box that is cleared, or a box that is not
abbrev pub decided_found : ℕ → Run ℤ → List (Waiting ℤ) → Option ℤ → Found → Found
decided_found b run waiting None inner = inner
decided_found b run waiting (Some edge) inner = found run waiting (cleared b edge)

-- after the children of a box: its own bottom margin adjoins, or it is the box that stops
abbrev pub closed_found : BoxTree → ℕ → Found → Found
closed_found tree b f = elim f.end [
  | goes_on ↦ elim (may_collapse_through tree b) [ true ↦ f | false ↦ found f.run f.waiting solid ]
  | solid ↦ f
  | cleared d edge ↦ f
]

abbrev pub inside_found : BoxTree → ℕ → Run ℤ → List (Waiting ℤ) → Found → Found
inside_found tree b own waiting inner =
    elim (enters tree b) [ true ↦ closed_found tree b inner | false ↦ found own waiting solid ]

module _ (tree : BoxTree) (w : World) where
  -- after a child that goes through, its bottom margin
  abbrev pub passed_box : Band ℤ → ℕ → Found → Found
  passed_box cb k f = then_on f (found (with_margin f.run (margin_below tree w cb k)) f.waiting goes_on)

  -- a float waits
  abbrev pub kid_found : (ℕ → Run ℤ → List (Waiting ℤ) → Found) → Band ℤ → ℕ → Run ℤ → List (Waiting ℤ) → Found
  kid_found go cb k run waiting = elim (is_floated_at tree k) [
    | true ↦ found run (waiting ++ record { at = k; cb = cb } ∷ []) goes_on
    | false ↦ passed_box cb k (go k run waiting)
  ]

  unfoldable pub kid_of : (ℕ → Run ℤ → List (Waiting ℤ) → Found) → Band ℤ → Run ℤ → List (Waiting ℤ) → ℕ → Found
  kid_of go cb run waiting k = kid_found go cb k run waiting

  abbrev pub kids_found : (Run ℤ → List (Waiting ℤ) → ℕ → Found) → List ℕ → Run ℤ → List (Waiting ℤ) → Found
  kids_found kid [] run waiting = found run waiting goes_on
  kids_found kid (k ∷ ks) run waiting =
      then_on (kid run waiting k) (kids_found kid ks (kid run waiting k).run (kid run waiting k).waiting)

-- whether a border edge is above such a bottom, if there is one
abbrev pub is_above : ℤ → Option ℤ → Bool
is_above y bottom = option_map_or (int_lt y) bottom false

module _ (g : Ground) where
  -- ---- a box with `clear`, reached with this run and these floats that wait

  -- its border edge if it were not cleared: its own top margin and its
  -- leading descendants' join, up to the next box with `clear`
  unfoldable pub hypothetical_edge : Band ℤ → ℕ → Run ℤ → ℤ
  hypothetical_edge cb b run = edge_at g.base (lead_of g.tree g.world (is_up_to b) cb b run []).run

  -- the lowest bottom that it is to clear, the floats that wait being placed at y
  unfoldable pub bottom_to_clear : ℕ → List (Waiting ℤ) → ℤ → Option ℤ
  bottom_to_clear b waiting y =
      lowest_bottom (clear_of g.tree b) (with_waiting g.tree g.size waiting g.floats g.least y)

  -- whether it is cleared: that edge is above such a bottom
  abbrev pub is_to_clear : Band ℤ → ℕ → Run ℤ → List (Waiting ℤ) → Bool
  is_to_clear cb b run waiting = by_edge (hypothetical_edge cb b run)
    where
      by_edge : ℤ → Bool
      by_edge y = is_above y (bottom_to_clear b waiting y)

  -- its border edge then
  abbrev pub clear_edge : ℕ → Run ℤ → List (Waiting ℤ) → ℤ
  clear_edge b run waiting = by_edge (edge_at g.base run)
    where
      by_edge : ℤ → ℤ
      by_edge y = unwrap_or (bottom_to_clear b waiting y) y

  abbrev pub decided : Band ℤ → ℕ → Run ℤ → List (Waiting ℤ) → Option ℤ
  decided cb b run waiting =
      elim (is_to_clear cb b run waiting) [ true ↦ Some (clear_edge b run waiting) | false ↦ None ]

  -- ---- the way forward; boxes that pass the test count as not cleared

  module _ (passed : ℕ → Bool) where
    abbrev pub box_found : Band ℤ → ℕ → Run ℤ → List (Waiting ℤ) → Found → Found
    box_found cb b run waiting inner = elim (stops g.tree passed b) [
      | true ↦ decided_found b run waiting (decided cb b run waiting) inner
      | false ↦ inner
    ]

    abbrev pub inner_step : (Band ℤ → ℕ → Run ℤ → List (Waiting ℤ) → Found) → Band ℤ → ℕ → Run ℤ → List (Waiting ℤ)
        → Found
    inner_step go cb b run waiting = inside_found g.tree b (with_margin run (margin_above g.tree g.world cb b)) waiting
        (kids_found g.tree g.world
        (kid_of g.tree g.world (go (inner_band g.tree g.world cb b)) (inner_band g.tree g.world cb b))
        (flow_children g.tree b) (with_margin run (margin_above g.tree g.world cb b)) waiting)

    abbrev pub forward_step : (Band ℤ → ℕ → Run ℤ → List (Waiting ℤ) → Found) → Band ℤ → ℕ → Run ℤ
        → List (Waiting ℤ) → Found
    forward_step go cb b run waiting = box_found cb b run waiting (inner_step go cb b run waiting)

    -- down to so many levels
    unfoldable pub forward_to : ℕ → Band ℤ → ℕ → Run ℤ → List (Waiting ℤ) → Found
    forward_to zero cb b run waiting = found run waiting goes_on
    forward_to (suc levels) cb b run waiting = forward_step (forward_to levels) cb b run waiting

    abbrev pub way : Band ℤ → ℕ → Run ℤ → List (Waiting ℤ) → Found
    way cb b run waiting = forward_to (length g.tree.boxes) cb b run waiting

    abbrev pub forward : Band ℤ → ℕ → Run ℤ → Found
    forward cb b run = way cb b run []
