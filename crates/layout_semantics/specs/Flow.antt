-- Normal flow with floats in it (CSS 2.1, 9.4.1, 9.5 and 10.6). Where boxes that collapse through,
-- clearance and floats between adjoining margins meet, this is our own reading of 8.3.1 and 9.5.2.
use Rattle.std.specs.Prelude.{ℕ, zero, suc, ℤ, pos, ◌+ℤ◌, ◌-ℤ◌, Bool, true, false, ◌&&◌, ◌||◌, ◌==◌, cond, List, [], ◌∷◌, ◌++◌, map, fold, length, unwrap_or, Option, Some, None}
use Rattle.std.specs.Int.{int_max, int_min}
use Rattle.std.specs.Option.{option_map_or, option_or}
use Rattle.std.specs.List.{flat_map}
use Rattle.viz_base.specs.declared.layouts.Entry.{Entry}
use Rattle.viz_base.specs.declared.layouts.Entry.TheVariants as of_entry
use Rattle.viz_base.specs.declared.layouts.Band.{Band}
use Rattle.viz_base.specs.declared.layouts.Extent.{Extent}
use Rattle.viz_base.specs.declared.layouts.Inner.{Inner}
use Rattle.viz_base.specs.declared.layouts.Waiting.{Waiting}
use Rattle.viz_base.specs.declared.layouts.Widths.{Widths}
use Rattle.viz_base.specs.declared.renderings.Placed.{Placed}
use Rattle.viz_base.specs.Trees.{is_line}
use Rattle.viz_base.specs.declared.styles.Style.{Style}
use Rattle.viz_base.specs.declared.trees.BoxTree.{BoxTree}
use Rattle.viz_base.specs.declared.worlds.World.{World}
use Rattle.layout_semantics.specs.Lists.{table_of}
use Rattle.layout_semantics.specs.Extremes.{greatest_from}
use Rattle.layout_semantics.specs.Floats.{FloatBox, floating, float_spot, with_float}
use Rattle.layout_semantics.specs.Margins.{collapsed}
use Rattle.layout_semantics.specs.Verticals.{Verticals, verticals}
use Rattle.layout_semantics.specs.Rectangles.{Frame, content_top, placed_box, shifted, outer_extent}
use Rattle.layout_semantics.specs.FlowBoxes.{is_replaced_at, is_context_root, is_open_above, may_collapse_through, joins_last_child, flow_children, inline_size, content_from}
use Rattle.layout_semantics.specs.Leads.{none_passed, all_passed, is_up_to, lead, bottom_margin}
use Rattle.layout_semantics.specs.Clearance.{Base, hangs, stands, Ground, on_ground, Resolved, resolve}
use Rattle.layout_semantics.specs.Lengths.{own}
use Rattle.layout_semantics.specs.DefiniteHeights.{given_height, clamped_height}
use Rattle.layout_semantics.specs.Replaced.{replaced_size}
use Rattle.layout_semantics.specs.Horizontal.{widths}
use Rattle.layout_semantics.specs.InlineContent.{is_floated_at, has_line, inner_boxes}
use Rattle.layout_semantics.specs.LineHeights.{InlineContext}
use Rattle.layout_semantics.specs.Lines.{LineList, lines_in}

-- ---- how far the flow of a block container has come

-- a box of a lead that is cleared, with its border edge
abbrev pub Cleared : Type 0
Cleared = Option (ℕ × ℤ)

-- Where the next child stands. At the top, so far only margins that adjoin the container's own top
-- margin have come: all stands at its content top, but the box of the lead that is cleared, if there is
-- one. Below, a run of adjoining margins has come since a border edge; after a cleared box that
-- collapses through it is stuck, and does not adjoin the container's bottom margin.
pub data Standing : Type 0 where
  at_top : ℤ → Cleared → Standing
  below : ℤ → List ℤ → Bool → Standing

pub record Progress : Type 0 where
  pub standing : Standing
  -- the floats of the context
  pub floats : List FloatBox
  -- the greatest of the outer tops of the context's earlier blocks and of the tops of its earlier lines
  pub least : Option ℤ
  -- the baseline of the last line
  pub baseline : Option ℤ
  pub boxes : List (Placed ℤ)

-- a context starts without floats (9.4.1)
abbrev pub fresh : ℤ → Progress
fresh top = record { standing = below top [] false; floats = []; least = None; baseline = None; boxes = [] }

-- where a child with no margin stands
abbrev pub next_edge : Standing → ℤ
next_edge (at_top y cleared) = y
next_edge (below edge run stuck) = edge +ℤ collapsed run

abbrev pub raised : Option ℤ → ℤ → Option ℤ
raised least y = Some (option_map_or (int_max y) least y)

-- a box that is laid out, in coordinates whose origin is the corner of its outer box
pub record Independent : Type 0 where
  pub size : Extent ℤ
  pub baseline : Option ℤ
  pub boxes : List (Placed ℤ)

-- a box in flow that is reached: its border top, whether it is the cleared one, and the cleared box of its own lead
pub record Reached : Type 0 where
  pub top : ℤ
  pub clears : Bool
  pub cleared : Cleared

-- a box in flow that is laid out: whether it collapses through, its border bottom, and the margins that end it
pub record Laid : Type 0 where
  pub through : Bool
  pub bottom : ℤ
  pub margins : List ℤ
  pub after : Progress

module _ (tree : BoxTree) (w : World) where
  -- ---- heights (10.5 to 10.7)

  -- a height of its own, where it is definite, else the height of the
  -- content; then clamped between its maximum and its minimum
  abbrev pub content_height : ℕ → ℤ → ℤ
  content_height b auto = clamped_height tree w b (unwrap_or (given_height tree w b) auto)

  -- the auto height of a box that starts a context: down to the bottom margin edge of its last child
  -- or to its last line, and to the bottom margin edges of its floats (10.6.7); at least 0
  abbrev pub context_height : ℤ → Progress → ℤ
  context_height top end =
      greatest_from (pos 0) (map (λ y. y -ℤ top)
      (next_edge end.standing ∷ map (λ (f : FloatBox). f.box.bottom) end.floats))

  -- the auto height of another block, by where its content ends: the bottom margin of
  -- its last child counts where it does not adjoin the block's own (10.6.3)
  abbrev pub block_height : Bool → ℤ → Standing → ℤ
  block_height joins top (at_top y cleared) = pos 0
  block_height true top (below edge run false) = edge -ℤ top
  block_height true top (below edge run true) = edge +ℤ collapsed run -ℤ top
  block_height false top (below edge run stuck) = edge +ℤ collapsed run -ℤ top

  -- the margins of its last child that its own bottom margin joins
  abbrev pub joined_run : Bool → Standing → List ℤ
  joined_run true (below edge run false) = run
  joined_run _ _ = []

  abbrev pub is_at_top : Standing → Bool
  is_at_top (at_top y cleared) = true
  is_at_top (below edge run stuck) = false

  -- ---- the parts of a flow, `inside` laying out the content of a box whose content top is given

  module _ (inside : ℕ → Band ℤ → ℤ → Progress → Progress) where
    -- a box that starts a context, a float or an inline-block say, at the top left of coordinates of its own
    abbrev pub independent : ℕ → ℤ → Independent
    independent b room = by_frame (corner_frame (widths tree w b room) (verticals tree w b room))
      where
        corner_frame : Widths ℤ → Verticals → Frame
        corner_frame x v = record { x = x; v = v; corner = record { x = x.margin_left; y = v.margin_top } }

        whole : Placed ℤ → Option ℤ → List (Placed ℤ) → Independent
        whole p baseline content = record { size = outer_extent p; baseline = baseline; boxes = p ∷ content }

        by_content : Frame → Progress → Independent
        by_content f end =
            whole (placed_box tree b f (content_height b (context_height (content_top f) end))) end.baseline end.boxes

        by_sort : Frame → Bool → Independent
        by_sort f true = whole (placed_box tree b f (replaced_size tree w b room).height) None []
        by_sort f false = by_content f (inside b (content_from (pos 0) f.x) (content_top f) (fresh (content_top f)))

        by_frame : Frame → Independent
        by_frame f = by_sort f (is_replaced_at tree b)

    abbrev pub waiting_size : Waiting ℤ → Extent ℤ
    waiting_size f = (independent f.at (inline_size f.cb)).size

    -- a float that is laid out, and whose place is at y, among the floats of the context
    abbrev pub after_float : Band ℤ → Progress → ℕ → ℤ → Independent → Progress
    after_float cb p f y a = record p {
      floats = with_float (floating tree f a.size cb) p.floats p.least y;
      boxes = p.boxes ++ shifted (float_spot (floating tree f a.size cb) p.floats p.least y) a.boxes;
    }

    -- a float stands as an empty block would that collapses through, and not above its container's content top
    abbrev pub float_child : Band ℤ → ℤ → Progress → ℕ → Progress
    float_child cb top p f = after_float cb p f (int_max top (next_edge p.standing)) (independent f (inline_size cb))

    -- ---- boxes in flow

    -- what the lead of a box that comes next is gone through by
    abbrev pub ground_of : Base → Progress → Ground
    ground_of base p = on_ground tree w waiting_size base p.floats p.least

    -- Where a box is reached, given the cleared box of its lead, if there is one, and y, at which all before that one
    -- stands: at y; but the cleared box itself is reached at its border edge, and its own lead goes on from there.
    abbrev pub reached_at : Band ℤ → Progress → ℕ → ℤ → Cleared → Reached
    reached_at cb p b y None = record { top = y; clears = false; cleared = None }
    reached_at cb p b y (Some cleared) = by_match (cleared.0 == b)
      where
        opened : Resolved
        opened = resolve (ground_of (stands cleared.1) p) [] cb b (is_up_to b)

        by_match : Bool → Reached
        by_match true = record { top = cleared.1; clears = true; cleared = opened.cleared }
        by_match false = record { top = y; clears = false; cleared = Some cleared }

    -- a box in flow that comes next: at the top it is reached at the content
    -- top, below where the run ends with the margins of its lead
    abbrev pub reached : Band ℤ → Progress → ℕ → Reached
    reached cb p b = by_standing p.standing
      where
        by_resolved : ℤ → List ℤ → Resolved → Reached
        by_resolved edge run r = reached_at cb p b (edge +ℤ collapsed (run ++ r.margins)) r.cleared

        by_standing : Standing → Reached
        by_standing (at_top y cleared) = reached_at cb p b y cleared
        by_standing (below edge run stuck) = by_resolved edge run
            (resolve (ground_of (hangs edge) p) run cb b none_passed)

    -- the context as a box that is opened leaves it: its outer top counts, which is the higher
    -- of the tops of its margin and border boxes (our own reading of 9.5.1, rule 5)
    abbrev pub opened : Progress → Frame → Standing → Progress
    opened p f standing = record {
      standing = standing;
      floats = p.floats;
      baseline = p.baseline;
      boxes = [];
      least = raised p.least (int_min f.corner.y (f.corner.y -ℤ f.v.margin_top));
    }

    -- a box after its content, given whether it collapses through and what of the content's run its bottom margin joins
    abbrev pub closed : Progress → Frame → Bool → List ℤ → Progress → Placed ℤ → Laid
    closed p f through run end box = record {
      through = through;
      bottom = box.border.bottom;
      margins = run ++ f.v.margin_bottom ∷ [];
      after = record end { boxes = p.boxes ++ box ∷ end.boxes };
    }

    abbrev pub laid_replaced : ℤ → Progress → ℕ → Frame → Laid
    laid_replaced room p b f =
        closed p f false [] (opened p f (below (content_top f) [] false))
        (placed_box tree b f (replaced_size tree w b room).height)

    -- a context of its own leaves the one around it as it is, but for the last line's baseline
    abbrev pub laid_context : Band ℤ → Progress → ℕ → Frame → Laid
    laid_context cb p b f = by_content (inside b (content_from cb.left f.x) (content_top f) (fresh (content_top f)))
      where
        by_content : Progress → Laid
        by_content end = closed p f false []
            (record (opened p f end.standing) { baseline = option_or end.baseline p.baseline; boxes = end.boxes })
            (placed_box tree b f (content_height b (context_height (content_top f) end)))

    -- any other block goes on with the context, and is at its top where its own lead went into its children
    abbrev pub laid_block : Band ℤ → Progress → ℕ → Cleared → Frame → Laid
    laid_block cb p b cleared f = by_content (joins_last_child tree b)
        (inside b (content_from cb.left f.x) (content_top f) (opened p f (start (is_open_above tree b))))
      where
        start : Bool → Standing
        start true = at_top f.corner.y cleared
        start false = below (content_top f) [] false

        by_content : Bool → Progress → Laid
        by_content joins end =
            closed p f (is_at_top end.standing && may_collapse_through tree b) (joined_run joins end.standing) end
            (placed_box tree b f (content_height b (block_height joins (content_top f) end.standing)))

    abbrev pub laid : Band ℤ → Progress → ℕ → Reached → Laid
    laid cb p b r = by_sort (frame (widths tree w b (inline_size cb)) (verticals tree w b (inline_size cb)))
        (is_replaced_at tree b) (is_context_root tree b)
      where
        frame : Widths ℤ → Verticals → Frame
        frame x v = record { x = x; v = v; corner = record { x = cb.left +ℤ x.margin_left; y = r.top } }

        by_sort : Frame → Bool → Bool → Laid
        by_sort f true any = laid_replaced (inline_size cb) p b f
        by_sort f false true = laid_context cb p b f
        by_sort f false false = laid_block cb p b r.cleared f

    -- Where the next child stands after this one. One that does not collapse through ends the run, and its
    -- own bottom margins begin another at its bottom. All margins of one that does, its lead and its bottom
    -- margin, join the run; where it is cleared they are a new run, which begins so that this box stands at
    -- its end without its bottom margin, and is stuck. At the top nothing changes.
    abbrev pub standing_after : Band ℤ → Standing → ℕ → Reached → Laid → Standing
    standing_after cb before b r l = by_sort l.through r.clears before
      where
        whole_lead : List ℤ
        whole_lead = (lead tree w all_passed cb b).margins

        own : List ℤ
        own = whole_lead ++ bottom_margin tree w cb b ∷ []

        by_sort : Bool → Bool → Standing → Standing
        by_sort false any s = below l.bottom l.margins false
        by_sort true true s = below (r.top -ℤ collapsed whole_lead) own true
        by_sort true false (at_top y cleared) = at_top y cleared
        by_sort true false (below edge run stuck) = below edge (run ++ own) stuck

    abbrev pub flow_child : Band ℤ → Progress → ℕ → Progress
    flow_child cb p b = by_reached (reached cb p b)
      where
        by_laid : Reached → Laid → Progress
        by_laid r l = record l.after { standing = standing_after cb p.standing b r l }

        by_reached : Reached → Progress
        by_reached r = by_laid r (laid cb p b r)

    abbrev pub child : Band ℤ → ℤ → Progress → ℕ → Progress
    child cb top p k = by_sort (is_floated_at tree k)
      where
        by_sort : Bool → Progress
        by_sort true = float_child cb top p k
        by_sort false = flow_child cb p k

    -- ---- lines

    -- the outer size of a float or of an atomic inline-level box; the baseline of an inline-block is that of its
    -- last line, or its bottom margin edge where it has none, clips its content or is replaced (10.8.1)
    abbrev pub inner_size : Band ℤ → ℕ → Inner ℤ
    inner_size cb k = by_independent (independent k (inline_size cb))
      where
        sized : Extent ℤ → ℤ → Inner ℤ
        sized size above = record { b = k; width = size.width; above = above; below = size.height -ℤ above }

        by_baseline : Independent → Bool → Option ℤ → Inner ℤ
        by_baseline a false (Some baseline) = sized a.size baseline
        by_baseline a _ _ = sized a.size a.size.height

        by_independent : Independent → Inner ℤ
        by_independent a = by_baseline a
            (is_floated_at tree k || is_replaced_at tree k || own tree k (λ (s : Style). s.clips) false) a.baseline

    abbrev pub entry_boxes : Band ℤ → Entry ℤ → List (Placed ℤ)
    entry_boxes cb (of_entry.Here p) = p ∷ []
    entry_boxes cb (of_entry.Goes k at) = shifted at (independent k (inline_size cb)).boxes

    abbrev pub line_tops : Entry ℤ → List ℤ
    line_tops (of_entry.Here p) = cond (is_line p.kind) (p.margin.top ∷ []) []
    line_tops (of_entry.Goes k at) = []

    -- the context after the lines of a box
    abbrev pub after_lines : Band ℤ → Progress → LineList → Progress
    after_lines cb p l = record {
      standing = below l.bottom [] false;
      floats = l.floats;
      baseline = l.baseline;
      least = fold raised p.least (flat_map line_tops l.entries);
      boxes = p.boxes ++ flat_map (entry_boxes cb) l.entries;
    }

    -- the inline content of a box, with the outer sizes of its floats and atomic boxes
    abbrev pub inline_context : ℕ → Band ℤ → InlineContext
    inline_context b cb = record {
      tree = tree;
      world = w;
      container = b;
      inner = table_of (length tree.boxes) (map (λ k. (k, inner_size cb k)) (inner_boxes tree b));
      cb = cb;
    }

    abbrev pub line_content : ℕ → Band ℤ → ℤ → Progress → Progress
    line_content b cb top p =
        after_lines cb p (lines_in (inline_context b cb) top (unwrap_or p.least top) p.floats)

    -- ---- the content of a block container (9.4): its lines; or, where it has
    -- none, its blocks one below the other, with the floats between them

    abbrev pub flow_step : ℕ → Band ℤ → ℤ → Progress → Progress
    flow_step b cb top p = by_sort (has_line tree b)
      where
        by_sort : Bool → Progress
        by_sort true = line_content b cb top p
        by_sort false = fold (child cb top) p (flow_children tree b)

  -- down to so many levels
  unfoldable pub flow_to : ℕ → ℕ → Band ℤ → ℤ → Progress → Progress
  flow_to zero b cb top p = p
  flow_to (suc levels) b cb top p = flow_step (flow_to levels) b cb top p

  -- the content of a box in a containing block, from a content top and how
  -- far the flow has come: a page has no more levels than boxes
  abbrev pub flow : ℕ → Band ℤ → ℤ → Progress → Progress
  flow = flow_to (length tree.boxes)

  -- a box that starts a context, at the top left of coordinates of its own
  abbrev pub whole_independent : ℕ → ℤ → Independent
  whole_independent b room = independent flow b room
