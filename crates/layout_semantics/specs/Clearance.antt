-- Clearance (CSS 2.1, 9.5.2). The hypothetical place of a box with `clear`, the places of floats between
-- adjoining margins and what becomes of the margins are our own reading of 8.3.1 and 9.5.2.
use Rattle.std.specs.Prelude.{ℕ, zero, suc, ℤ, ◌+ℤ◌, Bool, true, false, List, [], ◌∷◌, ◌++◌, int_lt, length, Option, Some, None, if◌then◌else◌}
use Rattle.std.specs.Option.{option_map_or}
use Rattle.viz_base.specs.declared.layouts.Band.{Band}
use Rattle.viz_base.specs.declared.layouts.Extent.{Extent}
use Rattle.viz_base.specs.declared.layouts.LeadEnd.{LeadEnd}
use Rattle.viz_base.specs.declared.layouts.LeadEnd.TheVariants as of_end
use Rattle.viz_base.specs.declared.layouts.Waiting.{Waiting}
use Rattle.viz_base.specs.declared.trees.BoxTree.{BoxTree}
use Rattle.viz_base.specs.declared.worlds.World.{World}
use Rattle.layout_semantics.specs.Floats.{FloatBox, lowest_bottom, floating, with_float}
use Rattle.layout_semantics.specs.Leads.{Leading, is_up_to, lead}
use Rattle.layout_semantics.specs.FlowBoxes.{clear_of}
use Rattle.layout_semantics.specs.Margins.{collapsed}

-- what the border edge that ends a run of margins goes by
pub data Base : Type 0 where
  -- it hangs below this edge, by what all margins of the run collapse to
  hangs : ℤ → Base
  -- it stands at this edge, whatever the margins are
  stands : ℤ → Base

-- the border edge that ends a run
abbrev pub run_end : Base → List ℤ → ℤ
run_end (hangs edge) run = edge +ℤ collapsed run
run_end (stands edge) run = edge

-- after all floats that wait are placed, one after another, where the run of margins between which they stand ends at y
abbrev pub with_waiting : BoxTree → (Waiting ℤ → Extent ℤ) → List (Waiting ℤ) → List FloatBox → Option ℤ → ℤ
    → List FloatBox
with_waiting tree size [] floats least y = floats
with_waiting tree size (f ∷ fs) floats least y =
    with_waiting tree size fs (with_float (floating tree f.at (size f) f.cb) floats least y) least y

-- the margins of the box's lead that join the run, and the box of the lead
-- that is cleared, with its border edge, if there is one
pub record Resolved : Type 0 where
  pub margins : List ℤ
  pub cleared : Option (ℕ × ℤ)

-- what stays the same while the lead of a box is gone through: the tree and the world, the outer sizes of the floats
-- that wait, what the edge at the run's end goes by, and the floats of the context with its greatest top
pub record Ground : Type 0 where
  pub tree : BoxTree
  pub world : World
  pub size : Waiting ℤ → Extent ℤ
  pub base : Base
  pub floats : List FloatBox
  pub least : Option ℤ

abbrev pub on_ground : BoxTree → World → (Waiting ℤ → Extent ℤ) → Base → List FloatBox → Option ℤ → Ground
on_ground tree w size base floats least =
    record { tree = tree; world = w; size = size; base = base; floats = floats; least = least }

-- Where a box that comes next stands, by its lead, which joins a run.
module _ (g : Ground) (run : List ℤ) where
  -- the border edge that ends the run together with these margins
  abbrev pub edge_after : List ℤ → ℤ
  edge_after more = run_end g.base (run ++ more)

  -- A lead was found that ends at a box d with `clear`. Its border edge if it were not cleared: after the
  -- margins before it, its own top margin and its leading descendants' up to the next box with `clear`.
  abbrev pub hypothetical_edge : Leading → ℕ → ℤ
  hypothetical_edge found d =
      let its_own = (lead g.tree g.world (is_up_to d) found.cb d).margins in
      edge_after (found.margins ++ its_own)

  -- the lowest outer bottom of the floats that the `clear` of a box names, those that wait being placed at y
  abbrev pub bottom_to_clear : Leading → ℕ → ℤ → Option ℤ
  bottom_to_clear found d y =
      lowest_bottom (clear_of g.tree d) (with_waiting g.tree g.size found.waiting g.floats g.least y)

  -- d is cleared where that edge is above such a bottom, the floats that wait being tried at that edge
  abbrev pub is_cleared : Leading → ℕ → Bool
  is_cleared found d =
      let edge = hypothetical_edge found d in
      option_map_or (int_lt edge) (bottom_to_clear found d edge) false

  -- its border edge is then the lowest such bottom, the floats that wait
  -- standing where the run ends without d's margins
  abbrev pub cleared_edge : Leading → ℕ → ℤ
  cleared_edge found d =
      let edge = edge_after found.margins in
      option_map_or (λ bottom. bottom) (bottom_to_clear found d edge) edge

  -- a lead that ends at a box with `clear` ends there where that one is cleared; else it counts as
  -- not cleared, and the lead goes on through it; any other lead joins the run as it is
  abbrev pub resolve_step : (ℕ → Resolved) → Leading → Resolved
  resolve_step go_on found = by_end found.end
    where
      by_end : LeadEnd → Resolved
      by_end (of_end.Cleared d) =
          if is_cleared found d then record { margins = found.margins; cleared = Some (d, cleared_edge found d) }
          else go_on d
      by_end _ = record { margins = found.margins; cleared = None }

  -- so many boxes being left that may be passed
  unfoldable pub resolve_to : Band ℤ → ℕ → ℕ → (ℕ → Bool) → Resolved
  resolve_to cb b zero passed = record { margins = []; cleared = None }
  resolve_to cb b (suc left) passed =
      resolve_step (λ d. resolve_to cb b left (is_up_to d)) (lead g.tree g.world passed cb b)

  -- where the boxes that pass the test count as not cleared from the first
  abbrev pub resolve : Band ℤ → ℕ → (ℕ → Bool) → Resolved
  resolve cb b passed = resolve_to cb b (suc (length g.tree.boxes)) passed
