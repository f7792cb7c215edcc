-- Normal flow with floats in it (CSS 2.1, 8.3.1, 9.4.1, 9.5, 10.6) in the steps of the engine: a run of margins is
-- two numbers, which box is cleared is decided on the way, and a step gives the boxes that it adds. Each part of a step
-- has a name, by which the engine's contracts say what it does.
use Rattle.std.specs.Prelude.{ℕ, zero, suc, ℤ, pos, ◌+ℤ◌, ◌-ℤ◌, Bool, true, false, ◌&&◌, ◌||◌, ◌==◌, cond, List, [], ◌∷◌, ◌++◌, map, fold, length, slice_set, unwrap_or, Option, Some, None}
use Rattle.std.specs.Int.{int_max, int_min}
use Rattle.std.specs.Option.{option_or}
use Rattle.std.specs.List.{flat_map}
use Rattle.viz_base.specs.Trees.{is_line}
use Rattle.viz_base.specs.declared.layouts.Band.{Band}
use Rattle.viz_base.specs.declared.layouts.Entry.{Entry}
use Rattle.viz_base.specs.declared.layouts.Entry.TheVariants as of_entry
use Rattle.viz_base.specs.declared.layouts.Extent.{Extent}
use Rattle.viz_base.specs.declared.layouts.Inner.{Inner}
use Rattle.viz_base.specs.declared.layouts.Spot.{Spot}
use Rattle.viz_base.specs.declared.layouts.Waiting.{Waiting}
use Rattle.viz_base.specs.declared.layouts.Widths.{Widths}
use Rattle.viz_base.specs.declared.renderings.Placed.{Placed}
use Rattle.viz_base.specs.declared.styles.Style.{Style}
use Rattle.viz_base.specs.declared.trees.BoxTree.{BoxTree}
use Rattle.viz_base.specs.declared.worlds.World.{World}
use Rattle.layout_semantics.specs.Lists.{table_of}
use Rattle.layout_semantics.specs.Extremes.{greatest_from}
use Rattle.layout_semantics.specs.Floats.{FloatBox, Floating, floating, float_spot, with_float_at}
use Rattle.layout_semantics.specs.Verticals.{Verticals, verticals}
use Rattle.layout_semantics.specs.Rectangles.{Frame, content_top, placed_box, shifted, outer_extent}
use Rattle.layout_semantics.specs.FlowBoxes.{is_replaced_at, is_context_root, is_open_above, may_collapse_through, joins_last_child, flow_children, inline_size, content_from}
use Rattle.layout_semantics.specs.Leads.{none_passed, is_up_to}
use Rattle.layout_semantics.specs.Lengths.{own}
use Rattle.layout_semantics.specs.Replaced.{replaced_size}
use Rattle.layout_semantics.specs.Horizontal.{widths}
use Rattle.layout_semantics.specs.InlineContent.{is_floated_at, has_line, inner_boxes}
use Rattle.layout_semantics.specs.Lines.{LineList, lines_in}
use Rattle.layout_semantics.specs.Flow.{Cleared, Independent, Reached, raised, content_height}
use Rattle.layout_semantics.specs.Clearance.{Base, hangs, stands, Ground, on_ground}
use Rattle.lay_margin.specs.declared.runs.Run.{Run}
use Rattle.lay_margin.specs.Runs.{no_run, with_margin, collapse}
use Rattle.lay_margin.specs.steps.Leads.{margin_below}
use Rattle.lay_steps.specs.Forward.{Found, cleared_of, forward}

-- ---- how far the flow of a block container has come

-- where the next child stands: at the top, or below a border edge after a run of margins
pub data Standing : Type 0 where
  at_top : ℤ → Cleared → Standing
  below : ℤ → Run ℤ → Bool → Standing

pub record Context : Type 0 where
  pub standing : Standing
  pub floats : List FloatBox
  pub least : Option ℤ
  pub baseline : Option ℤ

-- a context starts without floats (9.4.1)
abbrev pub fresh : ℤ → Context
fresh top = record { standing = below top no_run false; floats = []; least = None; baseline = None }

-- how far it has come after a box or several, and the boxes that they add
pub record Step : Type 0 where
  pub context : Context
  pub boxes : List (Placed ℤ)

abbrev pub step : Context → List (Placed ℤ) → Step
step context boxes = record { context = context; boxes = boxes }

-- where a child with no margin stands
abbrev pub next_edge : Standing → ℤ
next_edge (at_top y cleared) = y
next_edge (below edge run stuck) = edge +ℤ collapse run

abbrev pub is_at_top : Standing → Bool
is_at_top (at_top y cleared) = true
is_at_top (below edge run stuck) = false

-- how a box in flow ends: whether it collapses through, its border bottom, and the margins that end it
pub record Ending : Type 0 where
  pub through : Bool
  pub bottom : ℤ
  pub margins : Run ℤ

-- a box in flow that is laid out
pub record Laid : Type 0 where
  pub ending : Ending
  pub after : Step

abbrev pub without_boxes : Laid → Laid
without_boxes l = record l { after = step l.after.context [] }

-- a box in flow that is reached, with the run before it, its lead joined
pub record Met : Type 0 where
  pub reached : Reached
  pub run : Run ℤ

abbrev pub met : Reached → Run ℤ → Met
met reached run = record { reached = reached; run = run }

-- ---- heights

-- the auto height of a box that starts a context (10.6.7)
unfoldable pub context_height : ℤ → Context → ℤ
context_height top end =
    greatest_from (pos 0) (map (λ y. y -ℤ top)
    (next_edge end.standing ∷ map (λ (f : FloatBox). f.box.bottom) end.floats))

-- how far the lowest of some floats reaches below a top; at least 0
abbrev pub lowest_of : ℤ → List FloatBox → ℤ
lowest_of top floats = greatest_from (pos 0) (map (λ y. y -ℤ top) (map (λ (f : FloatBox). f.box.bottom) floats))

-- of another block, by whether its bottom margin joins its last child's (10.6.3)
abbrev pub block_height : Bool → ℤ → Standing → ℤ
block_height joins top (at_top y cleared) = pos 0
block_height true top (below edge run false) = edge -ℤ top
block_height true top (below edge run true) = edge +ℤ collapse run -ℤ top
block_height false top (below edge run stuck) = edge +ℤ collapse run -ℤ top

-- the margins of its last child that its own bottom margin joins
abbrev pub joined_run : Bool → Standing → Run ℤ
joined_run true (below edge run false) = run
joined_run _ _ = no_run

-- ---- a box that is opened and closed

-- where the first child of a block stands: the block is at its top where its own lead went into its children
unfoldable pub standing_in : BoxTree → ℕ → Cleared → Frame → Standing
standing_in tree b cleared f =
    elim (is_open_above tree b) [ true ↦ at_top f.corner.y cleared | false ↦ below (content_top f) no_run false ]

-- the context as a box that is opened leaves it: its outer top counts (our own reading of 9.5.1, rule 5)
unfoldable pub opened : Context → Frame → Standing → Context
opened s f standing =
    record {
      standing = standing;
      floats = s.floats;
      baseline = s.baseline;
      least = raised s.least (int_min f.corner.y (f.corner.y -ℤ f.v.margin_top));
    }

-- the context around a box that starts one of its own, which ends so: it stays as it was, but for the last line's
-- baseline
unfoldable pub left : Context → Frame → Context → Context
left s f end = record (opened s f end.standing) { baseline = option_or end.baseline s.baseline }

-- a box after its content, given whether it collapses through and what of the content's run its bottom margin joins
abbrev pub closed : Frame → Bool → Run ℤ → Step → Placed ℤ → Laid
closed f through run end box =
    record {
      ending = record {
        through = through;
        bottom = box.border.bottom;
        margins = with_margin run f.v.margin_bottom;
      };
      after = step end.context (box ∷ end.boxes);
    }

-- a box in coordinates of its own, with what is in it
abbrev pub whole : Placed ℤ → Option ℤ → List (Placed ℤ) → Independent
whole p baseline boxes = record { size = outer_extent p; baseline = baseline; boxes = p ∷ boxes }

-- ---- one after another

abbrev pub followed : Step → Step → Step
followed first rest = step rest.context (first.boxes ++ rest.boxes)

abbrev pub children : (Context → ℕ → Step) → Context → List ℕ → Step
children child s [] = step s []
children child s (k ∷ ks) = followed (child s k) (children child (child s k).context ks)

-- ---- lines

abbrev pub line_tops : Entry ℤ → List ℤ
line_tops (of_entry.Here p) = cond (is_line p.kind) (p.margin.top ∷ []) []
line_tops (of_entry.Goes k at) = []

abbrev pub after_lines : Context → LineList → Context
after_lines s l =
    record {
      standing = below l.bottom no_run false;
      floats = l.floats;
      least = fold raised s.least (flat_map line_tops l.entries);
      baseline = l.baseline;
    }

-- ---- boxes in a containing block so wide

module _ (tree : BoxTree) (w : World) where
  -- a box before its height is known, its margin edge at `left` and its border edge at y
  unfoldable pub frame_of : ℕ → ℤ → ℤ → ℤ → Frame
  frame_of b room left y = by_widths (widths tree w b room) (verticals tree w b room)
    where
      by_widths : Widths ℤ → Verticals → Frame
      by_widths x v = record { x = x; v = v; corner = record { x = left +ℤ x.margin_left; y = y } }

  -- at the corner of coordinates of its own
  unfoldable pub corner_of : ℕ → ℤ → Frame
  corner_of b room = by_widths (widths tree w b room) (verticals tree w b room)
    where
      by_widths : Widths ℤ → Verticals → Frame
      by_widths x v = record { x = x; v = v; corner = record { x = x.margin_left; y = v.margin_top } }

  unfoldable pub replaced_of : ℕ → ℤ → Frame → Placed ℤ
  replaced_of b room f = placed_box tree b f (replaced_size tree w b room).height

  -- one that starts a context, which ends so
  unfoldable pub root_of : ℕ → Frame → Context → Placed ℤ
  root_of b f end = placed_box tree b f (content_height tree w b (context_height (content_top f) end))

  unfoldable pub block_of : ℕ → Frame → Context → Placed ℤ
  block_of b f end =
      placed_box tree b f (content_height tree w b
      (block_height (joins_last_child tree b) (content_top f) end.standing))

  -- Where the next child stands after this one, by how it was met and how it ends. One that does not collapse through
  -- ends the run, and its own bottom margins begin another. All margins of one that does join the run; where it is
  -- cleared they are a new run, which is stuck.
  unfoldable pub standing_after : Band ℤ → Standing → ℕ → Met → Ending → Standing
  standing_after cb before b m end = by_sort end.through m.reached.clears before
    where
      ended : Run ℤ
      ended = with_margin m.run (margin_below tree w cb b)

      by_sort : Bool → Bool → Standing → Standing
      by_sort false any s = below end.bottom end.margins false
      by_sort true true s = below (m.reached.top -ℤ collapse m.run) ended true
      by_sort true false (at_top y cleared) = at_top y cleared
      by_sort true false (below edge run stuck) = below edge ended stuck

  unfoldable pub laid_replaced : ℤ → Context → ℕ → Frame → Laid
  laid_replaced room s b f =
      closed f false no_run (step (opened s f (below (content_top f) no_run false)) []) (replaced_of b room f)

  unfoldable pub replaced_independent : ℕ → ℤ → Frame → Independent
  replaced_independent b room f = whole (replaced_of b room f) None []

  -- ---- boxes with content, which `content` lays out from a content top and how far the flow has come

  module _ (content : ℕ → Band ℤ → ℤ → Context → Step) where
    -- a context of its own
    unfoldable pub laid_context : Band ℤ → Context → ℕ → Frame → Laid
    laid_context cb s b f = by_content (content b (content_from cb.left f.x) (content_top f) (fresh (content_top f)))
      where
        by_content : Step → Laid
        by_content end = closed f false no_run (step (left s f end.context) end.boxes) (root_of b f end.context)

    -- any other block goes on with the context
    unfoldable pub laid_block : Band ℤ → Context → ℕ → Cleared → Frame → Laid
    laid_block cb s b cleared f =
        by_content (content b (content_from cb.left f.x) (content_top f) (opened s f (standing_in tree b cleared f)))
      where
        by_content : Step → Laid
        by_content end = closed f (is_at_top end.context.standing && may_collapse_through tree b)
            (joined_run (joins_last_child tree b) end.context.standing) end (block_of b f end.context)

    unfoldable pub laid : Band ℤ → Context → ℕ → Reached → Laid
    laid cb s b r = by_sort (frame_of b (inline_size cb) cb.left r.top) (is_replaced_at tree b) (is_context_root tree b)
      where
        by_sort : Frame → Bool → Bool → Laid
        by_sort f true any = laid_replaced (inline_size cb) s b f
        by_sort f false true = laid_context cb s b f
        by_sort f false false = laid_block cb s b r.cleared f

    -- a box that starts a context, at the corner of coordinates of its own
    unfoldable pub context_independent : ℕ → Frame → Independent
    context_independent b f =
        by_content (content b (content_from (pos 0) f.x) (content_top f) (fresh (content_top f)))
      where
        by_content : Step → Independent
        by_content end = whole (root_of b f end.context) end.context.baseline end.boxes

    unfoldable pub independent : ℕ → ℤ → Independent
    independent b room = elim (is_replaced_at tree b) [
      | true ↦ replaced_independent b room (corner_of b room)
      | false ↦ context_independent b (corner_of b room)
    ]

-- the outer size of a float that waits, where `apart` holds the boxes that are laid out in coordinates of
-- their own, by their numbers
unfoldable pub size_in : (ℕ → Independent) → Waiting ℤ → Extent ℤ
size_in apart f = (apart f.at).size

module _ (tree : BoxTree) (w : World) (apart : ℕ → Independent) where
  -- ---- where a box in flow is reached

  -- what stays the same along the way forward from a box in a context
  abbrev pub ground_of : Base → Context → Ground
  ground_of base s = on_ground tree w (size_in apart) base s.floats s.least

  abbrev pub forward_of : Base → (ℕ → Bool) → Band ℤ → Context → ℕ → Run ℤ → Found
  forward_of base passed cb s b run = forward (ground_of base s) passed cb b run

  -- by the cleared box ahead, and the run before the box: all before the cleared box stand at y, and that one at its
  -- border edge, from which its own lead goes on
  unfoldable pub reached_from : Band ℤ → Context → ℕ → ℤ → Cleared → Run ℤ → Met
  reached_from cb s b y None own = met (record { top = y; clears = false; cleared = None }) own
  reached_from cb s b y (Some c) own = elim (c.0 == b) [
    | true ↦ met (record {
      top = c.1;
      clears = true;
      cleared = cleared_of (forward_of (stands c.1) (is_up_to b) cb s b no_run).end;
    }) (forward_of (stands c.1) (is_up_to b) cb s b no_run).run
    | false ↦ met (record { top = y; clears = false; cleared = Some c }) own
  ]

  unfoldable pub reached_of : Band ℤ → Context → ℕ → Met
  reached_of cb s b = by_standing s.standing
    where
      by_found : ℤ → Found → Met
      by_found edge f = reached_from cb s b (edge +ℤ collapse f.run) (cleared_of f.end) f.run

      by_standing : Standing → Met
      by_standing (at_top y cleared) = reached_from cb s b y cleared no_run
      by_standing (below edge run stuck) = by_found edge (forward_of (hangs edge) none_passed cb s b run)

  -- ---- floats

  -- a float stands as an empty block would that collapses through, and not above its container's content top
  unfoldable pub float_of : Band ℤ → ℤ → Context → ℕ → Step
  float_of cb top s k = by_float (floating tree k (apart k).size cb)
    where
      by_spot : Floating → Spot ℤ → Step
      by_spot f spot = step (record s { floats = with_float_at f s.floats spot }) (shifted spot (apart k).boxes)

      by_float : Floating → Step
      by_float f = by_spot f (float_spot f s.floats s.least (int_max top (next_edge s.standing)))

  -- ---- lines

  -- the outer size of a float or of an atomic inline-level box, with its baseline (10.8.1)
  unfoldable pub inner_size : ℕ → Inner ℤ
  inner_size k = by_independent (apart k)
    where
      sized : Independent → ℤ → Inner ℤ
      sized a above = record { b = k; width = a.size.width; above = above; below = a.size.height -ℤ above }

      by_baseline : Independent → Bool → Option ℤ → Inner ℤ
      by_baseline a false (Some baseline) = sized a baseline
      by_baseline a _ _ = sized a a.size.height

      by_independent : Independent → Inner ℤ
      by_independent a = by_baseline a
          (is_floated_at tree k || is_replaced_at tree k || own tree k (λ (s : Style). s.clips) false) a.baseline

  unfoldable pub entry_of : Entry ℤ → List (Placed ℤ)
  entry_of (of_entry.Here p) = p ∷ []
  entry_of (of_entry.Goes k at) = shifted at (apart k).boxes

  -- what is beside the lines of a container, by its number
  unfoldable pub inner_table : ℕ → List (Option (Inner ℤ))
  inner_table b = table_of (length tree.boxes) (map (λ k. (k, inner_size k)) (inner_boxes tree b))

  -- with what some boxes take, each at the place of its box
  abbrev pub filled_table : List (Option (Inner ℤ)) → List ℕ → List (Option (Inner ℤ))
  filled_table table boxes = fold (λ table k. slice_set table k (Some (inner_size k))) table boxes

  unfoldable pub lines_of : ℕ → Band ℤ → ℤ → Context → LineList
  lines_of b cb top s =
      lines_in (record { tree = tree; world = w; container = b; inner = inner_table b; cb = cb }) top
      (unwrap_or s.least top) s.floats

  -- the inline content of a box
  unfoldable pub in_lines : ℕ → Band ℤ → ℤ → Context → Step
  in_lines b cb top s = step (after_lines s (lines_of b cb top s)) (flat_map entry_of (lines_of b cb top s).entries)

-- ---- the content of a block container (9.4), `content` laying out what is in the boxes in it

module _ (tree : BoxTree) (w : World) (content : ℕ → Band ℤ → ℤ → Context → Step) (apart : ℕ → Independent) where
  unfoldable pub flow_child : Band ℤ → Context → ℕ → Step
  flow_child cb s b = by_met (reached_of tree w apart cb s b)
    where
      by_laid : Met → Laid → Step
      by_laid m l =
          step (record l.after.context { standing = standing_after tree w cb s.standing b m l.ending }) l.after.boxes

      by_met : Met → Step
      by_met m = by_laid m (laid tree w content cb s b m.reached)

  unfoldable pub child : Band ℤ → ℤ → Context → ℕ → Step
  child cb top s k =
      elim (is_floated_at tree k) [ true ↦ float_of tree w apart cb top s k | false ↦ flow_child cb s k ]

  unfoldable pub content_step : ℕ → Band ℤ → ℤ → Context → Step
  content_step b cb top s = elim (has_line tree b) [
    | true ↦ in_lines tree w apart b cb top s
    | false ↦ children (child cb top) s (flow_children tree b)
  ]

module _ (tree : BoxTree) (w : World) (apart : ℕ → Independent) where
  -- down to so many levels
  unfoldable pub content_to : ℕ → ℕ → Band ℤ → ℤ → Context → Step
  content_to zero b cb top s = step s []
  content_to (suc levels) b cb top s = content_step tree w (content_to levels) apart b cb top s

  abbrev pub content_of : ℕ → Band ℤ → ℤ → Context → Step
  content_of = content_to (length tree.boxes)

  -- ---- the steps over all that is in a box

  abbrev pub laid_of : Band ℤ → Context → ℕ → Reached → Laid
  laid_of = laid tree w content_of

  abbrev pub in_flow : Band ℤ → Context → ℕ → Step
  in_flow = flow_child tree w content_of apart

  abbrev pub child_of : Band ℤ → ℤ → Context → ℕ → Step
  child_of = child tree w content_of apart

  abbrev pub children_of : Band ℤ → ℤ → Context → List ℕ → Step
  children_of cb top s ks = children (child_of cb top) s ks

  abbrev pub independent_of : ℕ → ℤ → Independent
  independent_of = independent tree w content_of
