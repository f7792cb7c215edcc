-- The margins that adjoin a box's top, joined to a run one after the other,
-- and the floats between them, added to a list.
use Rattle.std.specs.Prelude.{ℕ, zero, suc, ℤ, Bool, true, false, not, ◌&&◌, List, [], ◌∷◌, ◌++◌, length}
use Rattle.viz_base.specs.declared.layouts.Band.{Band}
use Rattle.viz_base.specs.declared.layouts.LeadEnd.{LeadEnd}
use Rattle.viz_base.specs.declared.layouts.LeadEnd.TheVariants as of_end
use Rattle.viz_base.specs.declared.layouts.Waiting.{Waiting}
use Rattle.viz_base.specs.declared.trees.BoxTree.{BoxTree}
use Rattle.viz_base.specs.declared.worlds.World.{World}
use Rattle.viz_calc.specs.World.{Reading}
use Rattle.viz_calc.specs.Renderings.{band_at}
use Rattle.layout_semantics.specs.FlowBoxes.{clear_of, is_open_above, may_collapse_through, flow_children, block_band}
use Rattle.layout_semantics.specs.InlineContent.{is_floated_at, has_line}
use Rattle.layout_semantics.specs.Leads.{Leading, clears_something, top_margin, bottom_margin}
use Rattle.lay_margin.specs.declared.leads.Ended.{Ended}
use Rattle.lay_margin.specs.declared.leads.Joined.{Joined}
use Rattle.lay_margin.specs.declared.runs.Run.{Run}
use Rattle.lay_margin.specs.Readings.{floats_at}
use Rattle.lay_margin.specs.Runs.{run_at, with_margin, joined_all}

-- so far: the run, the floats that wait, where the margins end and the containing block of the box at which they do
pub record Going : Type 0 where
  pub run : Run ℤ
  pub waiting : List (Waiting ℤ)
  pub end : LeadEnd
  pub cb : Band ℤ

abbrev pub ending : Run ℤ → List (Waiting ℤ) → LeadEnd → Band ℤ → Going
ending run waiting end cb = record { run = run; waiting = waiting; end = end; cb = cb }

abbrev pub going_at : {N : Type 0} → (N → Reading → ℤ) → Run N → List (Waiting N) → Ended N → Reading → Going
going_at at run waiting ended e =
    record { run = run_at at run e; waiting = floats_at at waiting e; end = ended.end; cb = band_at at ended.cb e }

abbrev pub joined_at : {N : Type 0} → (N → Reading → ℤ) → Joined N → Reading → Going
joined_at at j e =
    record {
      run = run_at at j.run e;
      waiting = floats_at at j.lead.waiting e;
      end = j.lead.end;
      cb = band_at at j.lead.cb e;
    }

-- a lead joined to a run, its floats behind those that wait
abbrev pub led_by : Run ℤ → List (Waiting ℤ) → Leading → Going
led_by r ws l = record { run = joined_all r l.margins; waiting = ws ++ l.waiting; end = l.end; cb = l.cb }

-- where it ends, without what was joined
pub record End : Type 0 where
  pub end : LeadEnd
  pub cb : Band ℤ

abbrev pub ended_at : {N : Type 0} → (N → Reading → ℤ) → Ended N → Reading → End
ended_at at ended e = record { end = ended.end; cb = band_at at ended.cb e }

-- ---- what is made of a box

-- the margins go on with those in it
unfoldable pub enters : BoxTree → ℕ → Bool
enters tree b = is_open_above tree b && not (has_line tree b)

-- a box with `clear` that is not passed
unfoldable pub stops : BoxTree → (ℕ → Bool) → ℕ → Bool
stops tree passed b = clears_something (clear_of tree b) && not (passed b)

unfoldable pub margin_above : BoxTree → World → Band ℤ → ℕ → ℤ
margin_above tree w cb b = top_margin tree w cb b

unfoldable pub margin_below : BoxTree → World → Band ℤ → ℕ → ℤ
margin_below tree w cb b = bottom_margin tree w cb b

-- the containing block of the boxes in it
unfoldable pub inner_band : BoxTree → World → Band ℤ → ℕ → Band ℤ
inner_band tree w cb b = block_band tree w cb b

-- ---- one step of the recursion

abbrev pub through : Band ℤ → Run ℤ → List (Waiting ℤ) → Going
through cb run waiting = ending run waiting of_end.Through cb

-- what goes through goes on, and any other has ended
abbrev pub going_on : Going → Going → Going
going_on g rest = elim g.end [ of_end.Through ↦ rest | of_end.Solid b ↦ g | of_end.Cleared b ↦ g ]

-- after the children of a box: its own bottom margin adjoins, or it is the box that stops
abbrev pub closed_end : BoxTree → ℕ → Band ℤ → End → End
closed_end tree b cb inside = elim inside.end [
  | of_end.Through ↦
      record { end = elim (may_collapse_through tree b) [ true ↦ of_end.Through | false ↦ of_end.Solid b ]; cb = cb }
  | of_end.Solid c ↦ inside
  | of_end.Cleared c ↦ inside
]

module _ (tree : BoxTree) (w : World) (passed : ℕ → Bool) where
  -- after the lead of a child that goes through, its bottom margin
  abbrev pub passed_kid : Band ℤ → ℕ → Going → Going
  passed_kid cb k g = going_on g (through cb (with_margin g.run (margin_below tree w cb k)) g.waiting)

  abbrev pub kid_going : (ℕ → Run ℤ → List (Waiting ℤ) → Going) → Band ℤ → ℕ → Run ℤ → List (Waiting ℤ) → Going
  kid_going go cb k run waiting = elim (is_floated_at tree k) [
    | true ↦ through cb run (waiting ++ record { at = k; cb = cb } ∷ [])
    | false ↦ passed_kid cb k (go k run waiting)
  ]

  unfoldable pub kid_of : (ℕ → Run ℤ → List (Waiting ℤ) → Going) → Band ℤ → Run ℤ → List (Waiting ℤ) → ℕ → Going
  kid_of go cb run waiting k = kid_going go cb k run waiting

  abbrev pub kids_going : (Run ℤ → List (Waiting ℤ) → ℕ → Going) → Band ℤ → List ℕ → Run ℤ → List (Waiting ℤ) → Going
  kids_going kid cb [] run waiting = through cb run waiting
  kids_going kid cb (k ∷ ks) run waiting =
      going_on (kid run waiting k) (kids_going kid cb ks (kid run waiting k).run (kid run waiting k).waiting)

  abbrev pub ended_by : Band ℤ → ℕ → Going → Going
  ended_by cb b g = by_end (closed_end tree b cb (record { end = g.end; cb = g.cb }))
    where
      by_end : End → Going
      by_end x = ending g.run g.waiting x.end x.cb

  abbrev pub inside_going : Band ℤ → ℕ → Run ℤ → List (Waiting ℤ) → Going → Going
  inside_going cb b own waiting inner = elim (enters tree b) [
    | false ↦ ending own waiting (of_end.Solid b) cb
    | true ↦ ended_by cb b inner
  ]

  abbrev pub box_going : Band ℤ → ℕ → Run ℤ → List (Waiting ℤ) → Going → Going
  box_going cb b run waiting inner = elim (stops tree passed b) [
    | true ↦ ending run waiting (of_end.Cleared b) cb
    | false ↦ inner
  ]

  abbrev pub inner_step : (Band ℤ → ℕ → Run ℤ → List (Waiting ℤ) → Going) → Band ℤ → ℕ → Run ℤ → List (Waiting ℤ)
      → Going
  inner_step go cb b run waiting = inside_going cb b (with_margin run (margin_above tree w cb b)) waiting
      (kids_going (kid_of (go (inner_band tree w cb b)) (inner_band tree w cb b)) (inner_band tree w cb b)
      (flow_children tree b)
      (with_margin run (margin_above tree w cb b)) waiting)

  abbrev pub lead_step : (Band ℤ → ℕ → Run ℤ → List (Waiting ℤ) → Going) → Band ℤ → ℕ → Run ℤ → List (Waiting ℤ) → Going
  lead_step go cb b run waiting = box_going cb b run waiting (inner_step go cb b run waiting)

  -- down to so many levels
  unfoldable pub lead_to : ℕ → Band ℤ → ℕ → Run ℤ → List (Waiting ℤ) → Going
  lead_to zero cb b run waiting = through cb run waiting
  lead_to (suc levels) cb b run waiting = lead_step (lead_to levels) cb b run waiting

  abbrev pub lead_of : Band ℤ → ℕ → Run ℤ → List (Waiting ℤ) → Going
  lead_of cb b run waiting = lead_to (length tree.boxes) cb b run waiting

  abbrev pub inner_of : Band ℤ → ℕ → Run ℤ → List (Waiting ℤ) → Going
  inner_of cb b run waiting = inner_step lead_of cb b run waiting

  -- of boxes one after another
  abbrev pub content_of : Band ℤ → List ℕ → Run ℤ → List (Waiting ℤ) → Going
  content_of band ks run waiting = kids_going (kid_of (lead_of band) band) band ks run waiting
