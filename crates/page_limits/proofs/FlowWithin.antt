-- The flow stays within bounds: each box makes it go on by what is in it.
use Rattle.std.proofs.Common.{◌≡◌, ℕ, ◌*◌, ◌<◌, ◌≤◌, ℤ, pos, ◌+ℤ◌, ◌-ℤ◌, Bool, true, false, ◌&&◌, List, [], ◌∷◌, length, Option, Some, None, refl, sym, ap, subst, arith}
use Rattle.std.specs.Prelude.{◌==◌}
use Rattle.std.specs.Int.{int_max, int_min}
use Rattle.std.specs.List.{AllByRecursion}
use Rattle.std.specs.Option.{option_to_list, option_or}
use Rattle.std.proofs.lemmas.Bool.Decides.{nat_tests}
use Rattle.std.proofs.lemmas.Int.{ints, clamps}
use Rattle.std.proofs.Math.Nat.{mul-le-mul_right}
use Rattle.viz_base.specs.declared.layouts.Band.{Band}
use Rattle.viz_base.specs.declared.layouts.Extent.{Extent}
use Rattle.viz_base.specs.declared.layouts.Waiting.{Waiting}
use Rattle.viz_base.specs.declared.renderings.Placed.{Placed}
use Rattle.viz_base.specs.declared.trees.BoxTree.{BoxTree}
use Rattle.viz_base.specs.declared.worlds.World.{World}
use Rattle.viz_base.proofs.ListLemmas.{all_append}
use Rattle.layout_semantics.specs.Floats.{floating, float_spot, with_float_at}
use Rattle.layout_semantics.specs.Flow.{Cleared, Independent, Reached, content_height}
use Rattle.layout_semantics.specs.FlowBoxes.{is_replaced_at, is_context_root, is_open_above, may_collapse_through, joins_last_child, flow_children, inline_size, content_from}
use Rattle.layout_semantics.specs.Horizontal.{widths}
use Rattle.layout_semantics.specs.InlineContent.{is_floated_at}
use Rattle.layout_semantics.specs.Leads.{none_passed, is_up_to}
use Rattle.layout_semantics.specs.Order.{IsOnPage}
use Rattle.layout_semantics.specs.Rectangles.{Frame, content_top, placed_box}
use Rattle.layout_semantics.specs.Replaced.{replaced_size}
use Rattle.layout_semantics.specs.Verticals.{verticals}
use Rattle.layout_semantics.specs.Clearance.{Base, hangs, stands}
use Rattle.lay_margin.specs.declared.runs.Run.{Run}
use Rattle.lay_margin.specs.Runs.{no_run, with_margin, collapse}
use Rattle.lay_margin.specs.steps.Leads.{margin_below}
use Rattle.lay_steps.specs.Forward.{Found, End, goes_on, solid, cleared, cleared_of}
use Rattle.lay_steps.specs.Flow.{Standing, at_top, below, Context, Step, step, Laid, Met, fresh, next_edge, children, frame_of, replaced_of, root_of, block_of, size_in, float_of, forward_of, reached_from, reached_of, standing_in, opened, left, closed, laid_replaced, laid_context, laid_block, laid, standing_after, flow_child, child, is_at_top, context_height, block_height, joined_run}
use Rattle.lay_steps.proofs.StepCases.{stands-open, stands-parted, met-itself, met-other, met-top, met-below, lays-replaced, lays-context, lays-block, child-float, child-flow}
use Rattle.lay_steps.proofs.Sound.{IsSound, IsFlowKid}
use Rattle.page_limits.specs.Bounds.{Bounds, AreInside, grown, no_bounds, all_around, together, IsLevelIn, IsAsideIn, IsBandIn, IsExtentIn, IsFloatIn, IsPlacedIn, IsPutIn}
use Rattle.page_limits.specs.Inline.{IsSmall}
use Rattle.page_limits.specs.Boxes.{AreWidthsSmall, AreSidesSmall, IsWhole, IsBoxSmall, IsIndependentIn}
use Rattle.page_limits.specs.Rises.{content_rise}
use Rattle.page_limits.proofs.Levels.{level-wider, level-max, inside-grown, inside-more}
use Rattle.page_limits.proofs.FloatSpots.{spot-in, at-spot}
use Rattle.page_limits.proofs.FloatsMet.{floats-wider, band-wider}
use Rattle.page_limits.proofs.LinesWithin.{levels-wider}
use Rattle.page_limits.proofs.Rising.{rise-float, rise-box}
use Rattle.page_limits.proofs.ContentBoxes.{flow-whole}
use Rattle.page_limits.proofs.Ahead.{rise, Ahead, here, inside, later, Pending, ahead, gone, behind, IsPending, step-pending, match-pending, enter-pending}
use Rattle.page_limits.proofs.WaysWithin.{IsRunLow, run-with, collapse-small, margin-small, IsBaseIn, IsSizeIn, IsBoxEndIn, way-in}
use Rattle.page_limits.proofs.BoxesWithin.{box-wider, boxes-wider, boxes-put, top-in, placed-box-in, clamped-in, edge-in, raised-in, StandsIn, next-edge-in, context-bottom-in, block-bottom-in, none-low, joined-low}

inside-both : (b c more : Bounds) → AreInside b c → AreInside (grown b more) (grown c more)
inside-both b c more i = let u = i.up in let d = i.down in let a = i.aside in record { up = omega (arith, u); down = omega (arith, d); aside = omega (arith, a) }

module _ (tree : BoxTree) (w : World) (own turned : ℕ → Bounds) (s t : ℕ) (fine : 8 * t ≤ s)
    (boxes : (k : ℕ) → IsOnPage tree.boxes k → IsWhole tree k → IsBoxSmall tree w t k) (apart : ℕ → Independent) (independent_in : (k : ℕ) → IsIndependentIn (own k) s (apart k)) where
  abbrev pub rises : ℕ → Bounds
  rises k = rise tree own turned s k

  abbrev pub Kid : Band ℤ → ℕ → Type 0
  Kid cb k = IsFlowKid tree w k (inline_size cb)

  -- ---- how far the flow has come

  abbrev pub IsStandingIn : Bounds → List ℕ → Standing → Type 0
  IsStandingIn b ks (at_top y c) = IsLevelIn b y × IsPending tree own turned s b ks c
  IsStandingIn b ks (below edge run stuck) = IsLevelIn b edge × IsRunLow s run

  -- where these boxes come next
  pub record IsContextIn (b : Bounds) (ks : List ℕ) (c : Context) : Type 0 where
    pub standing : IsStandingIn b ks c.standing
    pub floats : AllByRecursion (IsFloatIn b) c.floats
    pub least : AllByRecursion (IsLevelIn b) (option_to_list c.least)
    pub baseline : AllByRecursion (IsLevelIn b) (option_to_list c.baseline)

  pub record IsStepIn (b : Bounds) (ks : List ℕ) (q : Step) : Type 0 where
    pub context : IsContextIn b ks q.context
    pub placed : AllByRecursion (IsPlacedIn b) q.boxes

  ahead-wider : (b around : Bounds) (ks : List ℕ) (d : ℕ) (e : ℤ) → AreInside b around → Ahead tree own turned s b ks d e → Ahead tree own turned s around ks d e
  ahead-wider b around [] d e i a = elim a [ ]
  ahead-wider b around (k ∷ ks) _ e i (here l) = here (level-wider (grown b (all_around (4 * s))) (grown around (all_around (4 * s))) e (inside-both b around (all_around (4 * s)) i) l)
  ahead-wider b around (k ∷ ks) d e i (inside l n f t a) = inside l n f t (ahead-wider (grown b (all_around (16 * s))) (grown around (all_around (16 * s))) (flow_children tree k) d e (inside-both b around (all_around (16 * s)) i) a)
  ahead-wider b around (k ∷ ks) d e i (later p a) = later p (ahead-wider (grown b (rises k)) (grown around (rises k)) ks d e (inside-both b around (rises k) i) a)

  pub pending-wider : (b around : Bounds) (ks : List ℕ) (c : Cleared) → AreInside b around → IsPending tree own turned s b ks c → IsPending tree own turned s around ks c
  pending-wider b around ks None i p = tt
  pending-wider b around ks (Some c) i p = by p
    where
      by : Pending tree own turned s b ks c.0 c.1 → Pending tree own turned s around ks c.0 c.1
      by (ahead a) = ahead (ahead-wider b around ks c.0 c.1 i a)
      by (gone l) = gone (level-wider b around c.1 i l)
      by (behind a) = behind a

  pub standing-wider : (b around : Bounds) (ks : List ℕ) (st : Standing) → AreInside b around → IsStandingIn b ks st → IsStandingIn around ks st
  standing-wider b around ks (at_top y c) i h = (level-wider b around y i h.0, pending-wider b around ks c i h.1)
  standing-wider b around ks (below edge run stuck) i h = (level-wider b around edge i h.0, h.1)

  pub context-wider : (b around : Bounds) (ks : List ℕ) (c : Context) → AreInside b around → IsContextIn b ks c → IsContextIn around ks c
  context-wider b around ks c i h = record {
    standing = standing-wider b around ks c.standing i h.standing;
    floats = floats-wider b around c.floats i h.floats;
    least = levels-wider b around (option_to_list c.least) i h.least;
    baseline = levels-wider b around (option_to_list c.baseline) i h.baseline;
  }

  pub step-wider : (b around : Bounds) (ks : List ℕ) (q : Step) → AreInside b around → IsStepIn b ks q → IsStepIn around ks q
  step-wider b around ks q i h = record { context = context-wider b around ks q.context i h.context; placed = boxes-wider b around q.boxes i h.placed }

  pub stands-in : (b : Bounds) (ks : List ℕ) (st : Standing) → IsStandingIn b ks st → StandsIn b s st
  stands-in b ks (at_top y c) h = h.0
  stands-in b ks (below edge run stuck) h = h

  -- ---- floats

  pub float-in : (b : Bounds) (cb : Band ℤ) (top : ℤ) (c : Context) (k : ℕ) (ks : List ℕ) → is_floated_at tree k ≡ true → IsBandIn b cb → IsLevelIn b top → IsContextIn b (k ∷ ks) c
      → IsStepIn (grown b (rises k)) ks (float_of tree w apart cb top c k)
  unfolding float_of
  float-in b cb top c k ks f band l h =
      let a = independent_in k in
      let wide = grown b (all_around (2 * s)) in
      let i = inside-grown b (all_around (2 * s)) in
      let edge = next-edge-in b s c.standing (stands-in b (k ∷ ks) c.standing h.standing) in
      let y = level-max wide top (next_edge c.standing) (level-wider b wide top i l) edge in
      let fl = floating tree k (apart k).size cb in
      let floats = floats-wider b wide c.floats i h.floats in
      let spot = float_spot fl c.floats c.least (int_max top (next_edge c.standing)) in
      let spot_in = spot-in wide fl c.floats c.least (int_max top (next_edge c.standing)) floats (y, levels-wider b wide (option_to_list c.least) i h.least) (band-wider b wide i band) in
      let extent : Bounds = record { up = (own k).up; down = (own k).down; aside = s } in
      let width = a.width in
      let e : IsExtentIn extent (apart k).size = record { width = width; height = record { top = a.height.top; bottom = a.height.bottom } } in
      let is = rise-float tree own turned s k f in
      let u = ap (λ (x : Bounds). x.up) is in let d = ap (λ (x : Bounds). x.down) is in let v = ap (λ (x : Bounds). x.aside) is in
      let after = grown b (rises k) in
      let wider = context-wider b after (k ∷ ks) c (inside-grown b (rises k)) h in
      let st = spot_in.y.top in let sb = spot_in.y.bottom in let sl = spot_in.left in
      let put : IsPutIn after (own k) spot = record { top = omega (arith, ints, u); bottom = omega (arith, ints, d); aside = omega (arith, sl, width, v) } in
      record {
        context = record {
          standing = standing-after c.standing h.standing;
          floats = floats-wider (grown wide extent) after (with_float_at fl c.floats spot) (record { up = omega (arith, u); down = omega (arith, d); aside = omega (arith, v) }) (at-spot wide extent fl c.floats spot floats spot_in e);
          least = wider.least;
          baseline = wider.baseline;
        };
        placed = boxes-put after (own k) spot (apart k).boxes put a.boxes;
      }
    where
      standing-after : (st : Standing) → IsStandingIn b (k ∷ ks) st → IsStandingIn (grown b (rises k)) ks st
      standing-after (at_top y None) q = (level-wider b (grown b (rises k)) y (inside-grown b (rises k)) q.0, tt)
      standing-after (at_top y (Some d)) q = (level-wider b (grown b (rises k)) y (inside-grown b (rises k)) q.0, step-pending tree own turned s b k ks d.0 d.1 q.1)
      standing-after (below edge run stuck) q = (level-wider b (grown b (rises k)) edge (inside-grown b (rises k)) q.0, q.1)

  abbrev pub size : Waiting ℤ → Extent ℤ
  size = size_in apart

  sized : (base : Base) (c : Context) (b : Bounds) (g : Waiting ℤ) → IsSizeIn tree w own turned s t fine boxes size base c.floats c.least b g
  unfolding size_in
  sized base c b g = let a = independent_in g.at in record { wide = a.width; tall = a.height }

  -- ---- the way forward from a box

  abbrev pub way : Base → (ℕ → Bool) → Band ℤ → Context → ℕ → Run ℤ → Found
  way base passed cb c k run = forward_of tree w apart base passed cb c k run

  pub record IsWayFound (b : Bounds) (ks : List ℕ) (k : ℕ) (f : Found) : Type 0 where
    pub run : IsRunLow s f.run
    pub pends : IsPending tree own turned s b (k ∷ ks) (cleared_of f.end)

  pub found-in : (b : Bounds) (base : Base) (passed : ℕ → Bool) (cb : Band ℤ) (c : Context) (k : ℕ) (ks : List ℕ) (run : Run ℤ) → k < length tree.boxes → Kid cb k → is_floated_at tree k ≡ false → IsBandIn b cb
      → (base_in : IsBaseIn tree w own turned s t fine boxes size base c.floats c.least b base) → AllByRecursion (IsFloatIn b) c.floats → AllByRecursion (IsLevelIn b) (option_to_list c.least) → IsRunLow s run
      → IsWayFound b ks k (way base passed cb c k run)
  found-in b base passed cb c k ks run l i f band base_in floats least r =
      let found = way-in tree w own turned s t fine boxes size base c.floats c.least b
      (sized base c b) base_in floats least passed (length tree.boxes) b cb k run [] l i f band r
      (record { bands = tt; room = record { up = omega arith; down = omega arith; aside = omega arith } }) in
      record { run = found.run; pends = by (way base passed cb c k run).waiting (way base passed cb c k run).end found.end }
    where
      by : (ws : List (Waiting ℤ)) (end : End) → IsBoxEndIn tree w own turned s t fine boxes size base c.floats c.least b (sized base c b) base_in floats least b k ws end
          → IsPending tree own turned s b (k ∷ ks) (cleared_of end)
      by ws goes_on e = tt
      by ws solid e = tt
      by ws (cleared d y) e = ahead (e.0 ks)

  -- ---- where a box is reached

  abbrev pub near : Bounds → Bounds
  near b = grown b (all_around (4 * s))

  abbrev pub within : Bounds → Bounds
  within b = grown (near b) (all_around (16 * s))

  pub record IsReachedIn (b : Bounds) (ks : List ℕ) (k : ℕ) (r : Reached) : Type 0 where
    pub top : IsLevelIn (near b) r.top
    pub pends : IsPending tree own turned s (near b) (k ∷ ks) r.cleared

  abbrev pub IsNext : Bounds → Band ℤ → ℕ → Type 0
  IsNext b cb k = (k < length tree.boxes) × Kid cb k × (is_floated_at tree k ≡ false) × IsBandIn b cb

  same-number : (d k : ℕ) → (d == k) ≡ true → k ≡ d
  same-number d k e = grind (arith, nat_tests)

  found-at : (b : Bounds) (y : ℤ) (passed : ℕ → Bool) (cb : Band ℤ) (c : Context) (k : ℕ) (ks : List ℕ) → IsNext b cb k → IsLevelIn (near b) y → AllByRecursion (IsFloatIn b) c.floats → AllByRecursion (IsLevelIn b) (option_to_list c.least)
      → IsWayFound (near b) ks k (way (stands y) passed cb c k no_run)
  found-at b y passed cb c k ks n l floats least =
      let i = inside-grown b (all_around (4 * s)) in
      found-in (near b) (stands y) passed cb c k ks no_run n.0 n.1 n.2 (band-wider b (near b) i n.3) l (floats-wider b (near b) c.floats i floats) (levels-wider b (near b) (option_to_list c.least) i least) (none-low s)

  pub record IsMetIn (b : Bounds) (ks : List ℕ) (k : ℕ) (m : Met) : Type 0 where
    pub reached : IsReachedIn b ks k m.reached
    pub run : IsRunLow s m.run

  met-from-in : (b : Bounds) (cb : Band ℤ) (c : Context) (k : ℕ) (ks : List ℕ) (y : ℤ) (pending : Cleared) (before : Run ℤ) → IsNext b cb k → AllByRecursion (IsFloatIn b) c.floats → AllByRecursion (IsLevelIn b) (option_to_list c.least)
      → IsLevelIn (near b) y → IsPending tree own turned s b (k ∷ ks) pending → IsRunLow s before → IsMetIn b ks k (reached_from tree w apart cb c k y pending before)
  unfolding reached_from
  met-from-in b cb c k ks y None before n floats least l p r = record { reached = record { top = l; pends = tt }; run = r }
  met-from-in b cb c k ks y (Some d) before n floats least l p r = by (d.0 == k) refl
    where
      by : (m : Bool) → (d.0 == k) ≡ m → IsMetIn b ks k (reached_from tree w apart cb c k y (Some d) before)
      by true e =
          let at = match-pending tree own turned s b k ks d.0 d.1 (same-number d.0 k e) n.2 p in
          let found = found-at b d.1 (is_up_to k) cb c k ks n at floats least in
          subst (IsMetIn b ks k) (sym (met-itself tree w apart cb c k y d before e)) (record { reached = record { top = at; pends = found.pends }; run = found.run })
      by false e =
          subst (IsMetIn b ks k) (sym (met-other tree w apart cb c k y d before e))
          (record { reached = record { top = l; pends = pending-wider b (near b) (k ∷ ks) (Some d) (inside-grown b (all_around (4 * s))) p }; run = r })

  pub met-in : (b : Bounds) (cb : Band ℤ) (c : Context) (k : ℕ) (ks : List ℕ) → IsNext b cb k → IsContextIn b (k ∷ ks) c → IsMetIn b ks k (reached_of tree w apart cb c k)
  met-in b cb c k ks n h = by c.standing refl h.standing
    where
      by : (st : Standing) → c.standing ≡ st → IsStandingIn b (k ∷ ks) st → IsMetIn b ks k (reached_of tree w apart cb c k)
      by (at_top y pending) e st =
          subst (IsMetIn b ks k) (sym (met-top tree w apart cb c k y pending e))
          (met-from-in b cb c k ks y pending no_run n h.floats h.least (level-wider b (near b) y (inside-grown b (all_around (4 * s))) st.0) st.1 (none-low s))
      by (below edge run stuck) e st =
          let found = found-in b (hangs edge) none_passed cb c k ks run n.0 n.1 n.2 n.3 st.0 h.floats h.least st.1 in
          let f = way (hangs edge) none_passed cb c k run in
          let y = edge-in b s edge f.run st.0 found.run in
          subst (IsMetIn b ks k) (sym (met-below tree w apart cb c k edge run stuck e))
          (met-from-in b cb c k ks (edge +ℤ collapse f.run) (cleared_of f.end) f.run n h.floats h.least
          (level-wider (grown b (all_around (2 * s))) (near b) (edge +ℤ collapse f.run) (record { up = omega arith; down = omega arith; aside = omega arith }) y) found.pends found.run)

  -- ---- a box laid out

  pub record IsLaidIn (b : Bounds) (l : Laid) : Type 0 where
    pub bottom : IsLevelIn b l.ending.bottom
    pub margins : IsRunLow s l.ending.margins
    pub floats : AllByRecursion (IsFloatIn b) l.after.context.floats
    pub least : AllByRecursion (IsLevelIn b) (option_to_list l.after.context.least)
    pub baseline : AllByRecursion (IsLevelIn b) (option_to_list l.after.context.baseline)
    pub placed : AllByRecursion (IsPlacedIn b) l.after.boxes

  -- a box before its height is known
  pub record IsFrameIn (b : Bounds) (f : Frame) : Type 0 where
    pub x : AreWidthsSmall t f.x
    pub v : AreSidesSmall t f.v
    pub left : IsAsideIn (within b) f.corner.x
    pub y : IsLevelIn (near b) f.corner.y
    pub top : IsLevelIn (within b) (content_top f)
    pub least : IsLevelIn (within b) (int_min f.corner.y (f.corner.y -ℤ f.v.margin_top))
    pub band : IsBandIn (within b) (content_from f.corner.x (record f.x { margin_left = pos 0 }))

  pub frame-in : (b : Bounds) (cb : Band ℤ) (k : ℕ) (y : ℤ) → IsNext b cb k → IsLevelIn (near b) y → IsFrameIn b (frame_of tree w k (inline_size cb) cb.left y)
  unfolding frame_of
  frame-in b cb k y n l =
      let i = n.1 in
      let box = boxes k i.sound.page (flow-whole tree w k (i.flow n.2)) in
      let f = frame_of tree w k (inline_size cb) cb.left y in
      let x = subst (λ (z : ℤ). AreWidthsSmall t (widths tree w k z)) (sym i.sound.room) box.widths in
      let v = subst (λ (z : ℤ). AreSidesSmall t (verticals tree w k z)) (sym i.sound.room) box.sides in
      let top = top-in s t fine (near b) f v l in
      let left = n.3.left in
      let xa = x.margin_left in let xb = x.border_left in let xc = x.padding_left in let xd = x.content in
      let va = v.margin_top in
      let lt = l.top in let lb = l.bottom in
      record {
        x = x;
        v = v;
        left = omega (arith, ints, left, xa, fine);
        y = l;
        top = level-wider (grown (near b) (all_around s)) (within b) (content_top f) (record { up = omega arith; down = omega arith; aside = omega arith }) top;
        least = record { top = omega (arith, ints, clamps, va, fine); bottom = omega (arith, ints, clamps, va, fine) };
        band = record { left = omega (arith, ints, left, xa, xb, xc, fine); right = omega (arith, ints, left, xa, xb, xc, xd, fine) };
      }

  pub inner-band : (left : ℤ) (b : Bounds) (f : Frame) → f.corner.x ≡ left +ℤ f.x.margin_left → IsFrameIn b f → IsBandIn (within b) (content_from left f.x)
  inner-band left b f e i =
      let l = i.band.left in let r = i.band.right in
      record { left = omega (arith, ints, l, e); right = omega (arith, ints, r, e) }

  pub opened-in : (b : Bounds) (c : Context) (f : Frame) (ks js : List ℕ) (st : Standing) → IsFrameIn b f → IsContextIn b ks c → IsStandingIn (within b) js st → IsContextIn (within b) js (opened c f st)
  unfolding opened
  opened-in b c f ks js st i h q =
      let inside : AreInside b (within b) = record { up = omega arith; down = omega arith; aside = omega arith } in
      let wider = context-wider b (within b) ks c inside h in
      record { standing = q; floats = wider.floats; baseline = wider.baseline; least = raised-in (within b) c.least (int_min f.corner.y (f.corner.y -ℤ f.v.margin_top)) wider.least i.least }

  abbrev pub inner : Bounds → ℕ → Bounds
  inner b k = grown (within b) (content_rise tree own turned s k)

  pub inner-in : (b : Bounds) (k : ℕ) (n : ℕ) → n ≤ 12 → is_floated_at tree k ≡ false → AreInside (grown (inner b k) (all_around (n * s))) (grown b (rises k))
  inner-in b k n l f =
      let all = rise-box tree own turned s k f in
      let up = ap (λ (x : Bounds). x.up) all in
      let down = ap (λ (x : Bounds). x.down) all in
      let aside = ap (λ (x : Bounds). x.aside) all in
      let few : n * s ≤ 12 * s = mul-le-mul_right s l in
      record { up = omega (arith, up, few); down = omega (arith, down, few); aside = omega (arith, aside, few) }

  -- a box whose content goes down so far
  pub box-in : (b : Bounds) (k : ℕ) (f : Frame) (h : ℤ) → is_floated_at tree k ≡ false → IsFrameIn b f → IsLevelIn (grown (inner b k) (all_around (4 * s))) (content_top f +ℤ h)
      → IsPlacedIn (grown b (rises k)) (placed_box tree k f h)
  box-in b k f h e i l =
      let wide = grown (inner b k) (all_around (4 * s)) in
      let left = i.left in
      let y = level-wider (near b) wide f.corner.y (record { up = omega arith; down = omega arith; aside = omega arith }) i.y in
      box-wider (grown wide (all_around (2 * s))) (grown b (rises k)) (placed_box tree k f h)
      (inside-more (grown wide (all_around (2 * s))) (grown (inner b k) (all_around (6 * s))) (grown b (rises k)) (record { up = omega arith; down = omega arith; aside = omega arith }) (inner-in b k 6 (omega arith) e))
      (placed-box-in s t fine wide tree k f h i.x i.v (omega (arith, left)) y l)

  closed-in : (b : Bounds) (f : Frame) (through : Bool) (run : Run ℤ) (end : Step) (box : Placed ℤ) → AreSidesSmall t f.v → IsRunLow s run → IsPlacedIn b box → AllByRecursion (IsFloatIn b) end.context.floats → AllByRecursion (IsLevelIn b) (option_to_list end.context.least)
      → AllByRecursion (IsLevelIn b) (option_to_list end.context.baseline) → AllByRecursion (IsPlacedIn b) end.boxes → IsLaidIn b (closed f through run end box)
  closed-in b f through run end box v r p floats least baseline placed =
      let m = v.margin_bottom in
      record { bottom = p.border.bottom; margins = run-with s run f.v.margin_bottom r (omega (arith, m, fine)); floats = floats; least = least; baseline = baseline; placed = (p, placed) }

  laid-replaced-in : (b : Bounds) (cb : Band ℤ) (c : Context) (k : ℕ) (ks : List ℕ) (y : ℤ) → IsNext b cb k → IsContextIn b (k ∷ ks) c → IsLevelIn (near b) y
      → IsLaidIn (grown b (rises k)) (laid_replaced tree w (inline_size cb) c k (frame_of tree w k (inline_size cb) cb.left y))
  unfolding laid_replaced replaced_of
  laid-replaced-in b cb c k ks y n h l =
      let i = n.1 in
      let f = frame_of tree w k (inline_size cb) cb.left y in
      let frame = frame-in b cb k y n l in
      let high = subst (λ (z : ℤ). IsSmall t (replaced_size tree w k z).height) (sym i.sound.room) (boxes k i.sound.page (flow-whole tree w k (i.flow n.2))).replaced in
      let tall = (replaced_size tree w k (inline_size cb)).height in
      let tt_ = frame.top.top in let tb = frame.top.bottom in
      let box = box-in b k f tall n.2 frame (record { top = omega (arith, ints, high, fine); bottom = omega (arith, ints, high, fine) }) in
      let begin = opened-in b c f (k ∷ ks) [] (below (content_top f) no_run false) frame h (frame.top, none-low s) in
      let wider = context-wider (within b) (grown b (rises k)) [] (opened c f (below (content_top f) no_run false))
      (inside-more (within b) (grown (inner b k) (all_around (0 * s))) (grown b (rises k)) (record { up = omega arith; down = omega arith; aside = omega arith }) (inner-in b k 0 (omega arith) n.2)) begin in
      closed-in (grown b (rises k)) f false no_run (step (opened c f (below (content_top f) no_run false)) []) (replaced_of tree w k (inline_size cb) f) frame.v (none-low s) box wider.floats wider.least wider.baseline tt

  option-or-in : (b : Bounds) (x y : Option ℤ) → AllByRecursion (IsLevelIn b) (option_to_list x) → AllByRecursion (IsLevelIn b) (option_to_list y) → AllByRecursion (IsLevelIn b) (option_to_list (option_or x y))
  option-or-in b None y h k = k
  option-or-in b (Some x) y h k = h

  pub inner-wide : (b : Bounds) (k : ℕ) → is_floated_at tree k ≡ false → AreInside (inner b k) (grown b (rises k))
  inner-wide b k f = inside-more (inner b k) (grown (inner b k) (all_around (0 * s))) (grown b (rises k)) (record { up = omega arith; down = omega arith; aside = omega arith }) (inner-in b k 0 (omega arith) f)

  pub content-bottom : (b : Bounds) (k : ℕ) (top auto : ℤ) → IsOnPage tree.boxes k → IsWhole tree k → IsLevelIn (within b) top → IsLevelIn (grown (inner b k) (all_around (2 * s))) (top +ℤ auto) → IsLevelIn (grown (inner b k) (all_around (4 * s))) (top +ℤ content_height tree w k auto)
  content-bottom b k top auto page whole l m =
      let wide = grown (inner b k) (all_around (2 * s)) in
      level-wider (grown wide (all_around s)) (grown (inner b k) (all_around (4 * s))) (top +ℤ content_height tree w k auto) (record { up = omega arith; down = omega arith; aside = omega arith })
      (clamped-in s t fine wide top auto (content_height tree w k auto) ((boxes k page whole).clamped auto) (level-wider (within b) wide top (record { up = omega arith; down = omega arith; aside = omega arith }) l) m)

  standing-after-in : (b : Bounds) (cb : Band ℤ) (k : ℕ) (ks : List ℕ) (m : Met) (l : Laid) (st : Standing) → Kid cb k → is_floated_at tree k ≡ false → IsMetIn b ks k m → IsLaidIn (grown b (rises k)) l → IsStandingIn b (k ∷ ks) st
      → IsStandingIn (grown b (rises k)) ks (standing_after tree w cb st k m l.ending)
  unfolding standing_after
  standing-after-in b cb k ks m l st i fl q h a = by l.ending.through m.reached.clears st refl refl a
    where
      after : Bounds
      after = grown b (rises k)

      inside_is : AreInside b after
      inside_is = inside-grown b (rises k)

      ended : IsRunLow s (with_margin m.run (margin_below tree w cb k))
      ended = run-with s m.run (margin_below tree w cb k) q.run (margin-small tree w own turned s t fine boxes cb k i fl).1

      at : IsLevelIn after (m.reached.top -ℤ collapse m.run)
      at = let c = collapse-small s m.run q.run in let u = q.reached.top.top in let d = q.reached.top.bottom in record { top = omega (arith, ints, c); bottom = omega (arith, ints, c) }

      by : (x y : Bool) (st : Standing) → l.ending.through ≡ x → m.reached.clears ≡ y → IsStandingIn b (k ∷ ks) st → IsStandingIn after ks (standing_after tree w cb st k m l.ending)
      by false y st e f a = rw e (h.bottom, h.margins)
      by true true st e f a = rw (e, f) (at, ended)
      by true false (at_top y None) e f a = rw (e, f) (level-wider b after y inside_is a.0, tt)
      by true false (at_top y (Some d)) e f a = rw (e, f) (level-wider b after y inside_is a.0, step-pending tree own turned s b k ks d.0 d.1 a.1)
      by true false (below edge other stuck) e f a = rw (e, f) (level-wider b after edge inside_is a.0, ended)

  -- ---- by what is in the boxes

  module _ (content : ℕ → Band ℤ → ℤ → Context → Step) where
    -- from what is in it to its end
    abbrev pub IsInside : ℕ → Type 0
    IsInside k = (b : Bounds) (left wide top : ℤ) (c : Context) → IsSound tree w k wide → k < length tree.boxes → IsBandIn b (content_from left (widths tree w k wide)) → IsLevelIn b top → IsContextIn b (flow_children tree k) c
        → IsStepIn (grown b (content_rise tree own turned s k)) [] (content k (content_from left (widths tree w k wide)) top c)

    pub laid-context-in : (b : Bounds) (cb : Band ℤ) (c : Context) (k : ℕ) (ks : List ℕ) (y : ℤ) → IsInside k → IsNext b cb k → IsContextIn b (k ∷ ks) c → IsLevelIn (near b) y
        → IsLaidIn (grown b (rises k)) (laid_context tree w content cb c k (frame_of tree w k (inline_size cb) cb.left y))
    unfolding laid_context frame_of root_of left opened
    laid-context-in b cb c k ks y again n h l =
        let i = n.1 in
        let f = frame_of tree w k (inline_size cb) cb.left y in
        let frame = frame-in b cb k y n l in
        let top = content_top f in
        let begun : IsContextIn (within b) (flow_children tree k) (fresh top) = record { standing = (frame.top, none-low s); floats = tt; least = tt; baseline = tt } in
        let end = content k (content_from cb.left f.x) top (fresh top) in
        let done = again (within b) cb.left (inline_size cb) top (fresh top) i.sound n.0 (inner-band cb.left b f refl frame) frame.top begun in
        let low = context-bottom-in (inner b k) s top end.context (level-wider (within b) (inner b k) top (inside-grown (within b) (content_rise tree own turned s k)) frame.top) (stands-in (inner b k) [] end.context.standing done.context.standing) done.context.floats in
        let box = box-in b k f (content_height tree w k (context_height top end.context)) n.2 frame (content-bottom b k top (context_height top end.context) i.sound.page (flow-whole tree w k (i.flow n.2)) frame.top low) in
        let after = grown b (rises k) in
        let wide = inner-wide b k n.2 in
        let inner_end = step-wider (inner b k) after [] end wide done in
        let outer = context-wider b after (k ∷ ks) c (inside-grown b (rises k)) h in
        let begin = opened-in b c f (k ∷ ks) [] (below top no_run false) frame h (frame.top, none-low s) in
        let wider = context-wider (within b) after [] (opened c f (below top no_run false)) (inside-more (within b) (inner b k) after (inside-grown (within b) (content_rise tree own turned s k)) wide) begin in
        closed-in after f false no_run (step (left c f end.context) end.boxes) (root_of tree w k f end.context) frame.v (none-low s) box
        wider.floats wider.least (option-or-in after end.context.baseline c.baseline inner_end.context.baseline outer.baseline) inner_end.placed

    pub block-in : (b : Bounds) (cb : Band ℤ) (c : Context) (k : ℕ) (ks : List ℕ) (y : ℤ) (st : Standing) → IsInside k → IsNext b cb k → IsContextIn b (k ∷ ks) c → IsLevelIn (near b) y → IsStandingIn (within b) (flow_children tree k) st
        → (through : Bool) → let f = frame_of tree w k (inline_size cb) cb.left y in let end = content k (content_from cb.left f.x) (content_top f) (opened c f st) in
        IsLaidIn (grown b (rises k)) (closed f through (joined_run (joins_last_child tree k) end.context.standing) end (block_of tree w k f end.context))
    unfolding frame_of block_of
    block-in b cb c k ks y st again n h l q through =
        let i = n.1 in
        let f = frame_of tree w k (inline_size cb) cb.left y in
        let frame = frame-in b cb k y n l in
        let top = content_top f in
        let begun = opened-in b c f (k ∷ ks) (flow_children tree k) st frame h q in
        let end = content k (content_from cb.left f.x) top (opened c f st) in
        let done = again (within b) cb.left (inline_size cb) top (opened c f st) i.sound n.0 (inner-band cb.left b f refl frame) frame.top begun in
        let stands_ = stands-in (inner b k) [] end.context.standing done.context.standing in
        let low = block-bottom-in (inner b k) s (joins_last_child tree k) top end.context.standing (level-wider (within b) (inner b k) top (inside-grown (within b) (content_rise tree own turned s k)) frame.top) stands_ in
        let auto = block_height (joins_last_child tree k) top end.context.standing in
        let box = box-in b k f (content_height tree w k auto) n.2 frame (content-bottom b k top auto i.sound.page (flow-whole tree w k (i.flow n.2)) frame.top low) in
        let after = grown b (rises k) in
        let inner_end = step-wider (inner b k) after [] end (inner-wide b k n.2) done in
        closed-in after f through (joined_run (joins_last_child tree k) end.context.standing) end (block_of tree w k f end.context) frame.v (joined-low (inner b k) s (joins_last_child tree k) end.context.standing stands_) box
        inner_end.context.floats inner_end.context.least inner_end.context.baseline inner_end.placed

    pub laid-block-in : (b : Bounds) (cb : Band ℤ) (c : Context) (k : ℕ) (ks : List ℕ) (y : ℤ) (pending : Cleared) → IsInside k → IsNext b cb k → IsContextIn b (k ∷ ks) c → IsLevelIn (near b) y → IsPending tree own turned s (near b) (k ∷ ks) pending
        → IsLaidIn (grown b (rises k)) (laid_block tree w content cb c k pending (frame_of tree w k (inline_size cb) cb.left y))
    unfolding laid_block
    laid-block-in b cb c k ks y pending again n h l p =
        block-in b cb c k ks y (standing_in tree k pending f) again n h l (by (is_open_above tree k) refl)
        (is_at_top (content k (content_from cb.left f.x) (content_top f) (opened c f (standing_in tree k pending f))).context.standing && may_collapse_through tree k)
      where
        f : Frame
        f = frame_of tree w k (inline_size cb) cb.left y

        frame : IsFrameIn b f
        frame = frame-in b cb k y n l

        entered : (c : Cleared) → IsPending tree own turned s (near b) (k ∷ ks) c → IsPending tree own turned s (within b) (flow_children tree k) c
        entered None q = tt
        entered (Some d) q = enter-pending tree own turned s (near b) k ks d.0 d.1 n.2 q

        by : (o : Bool) → is_open_above tree k ≡ o → IsStandingIn (within b) (flow_children tree k) (standing_in tree k pending f)
        by true e = subst (IsStandingIn (within b) (flow_children tree k)) (sym (stands-open tree k pending f e)) (level-wider (near b) (within b) f.corner.y (inside-grown (near b) (all_around (16 * s))) frame.y, entered pending p)
        by false e = subst (IsStandingIn (within b) (flow_children tree k)) (sym (stands-parted tree k pending f e)) (frame.top, none-low s)

    pub laid-in : (b : Bounds) (cb : Band ℤ) (c : Context) (k : ℕ) (ks : List ℕ) (r : Reached) → IsInside k → IsNext b cb k → IsContextIn b (k ∷ ks) c → IsReachedIn b ks k r → IsLaidIn (grown b (rises k)) (laid tree w content cb c k r)
    laid-in b cb c k ks r again n h q = by (is_replaced_at tree k) (is_context_root tree k) refl refl
      where
        by : (p o : Bool) → is_replaced_at tree k ≡ p → is_context_root tree k ≡ o → IsLaidIn (grown b (rises k)) (laid tree w content cb c k r)
        by true o e g = subst (IsLaidIn (grown b (rises k))) (sym (lays-replaced tree w content cb c k r e)) (laid-replaced-in b cb c k ks r.top n h q.top)
        by false true e g = subst (IsLaidIn (grown b (rises k))) (sym (lays-context tree w content cb c k r e g)) (laid-context-in b cb c k ks r.top again n h q.top)
        by false false e g = subst (IsLaidIn (grown b (rises k))) (sym (lays-block tree w content cb c k r e g)) (laid-block-in b cb c k ks r.top r.cleared again n h q.top q.pends)

    -- ---- the next ones

    pub flow-child-in : (b : Bounds) (cb : Band ℤ) (c : Context) (k : ℕ) (ks : List ℕ) → IsInside k → IsNext b cb k → IsContextIn b (k ∷ ks) c → IsStepIn (grown b (rises k)) ks (flow_child tree w content apart cb c k)
    unfolding flow_child
    flow-child-in b cb c k ks again n h =
        let m = reached_of tree w apart cb c k in
        let met = met-in b cb c k ks n h in
        let done = laid-in b cb c k ks m.reached again n h met.reached in
        record {
          context = record { standing = standing-after-in b cb k ks m (laid tree w content cb c k m.reached) c.standing n.1 n.2 met done h.standing; floats = done.floats; least = done.least; baseline = done.baseline };
          placed = done.placed;
        }

    pub child-in : (b : Bounds) (cb : Band ℤ) (top : ℤ) (c : Context) (k : ℕ) (ks : List ℕ) → IsInside k → k < length tree.boxes → Kid cb k → IsBandIn b cb → IsLevelIn b top → IsContextIn b (k ∷ ks) c
        → IsStepIn (grown b (rises k)) ks (child tree w content apart cb top c k)
    child-in b cb top c k ks again l i band at h = by (is_floated_at tree k) refl
      where
        by : (f : Bool) → is_floated_at tree k ≡ f → IsStepIn (grown b (rises k)) ks (child tree w content apart cb top c k)
        by true f = subst (IsStepIn (grown b (rises k)) ks) (sym (child-float tree w content apart cb top c k f)) (float-in b cb top c k ks f band at h)
        by false f = subst (IsStepIn (grown b (rises k)) ks) (sym (child-flow tree w content apart cb top c k f)) (flow-child-in b cb c k ks again (l, i, f, band) h)

    pub children-in : (b : Bounds) (cb : Band ℤ) (top : ℤ) (c : Context) (ks : List ℕ) → AllByRecursion IsInside ks → AllByRecursion (λ k. k < length tree.boxes) ks → AllByRecursion (Kid cb) ks → IsBandIn b cb → IsLevelIn b top → IsContextIn b ks c
        → IsStepIn (grown b (together rises ks)) [] (children (child tree w content apart cb top) c ks)
    children-in b cb top c [] again l i band at h = record { context = context-wider b (grown b no_bounds) [] c (inside-grown b no_bounds) h; placed = tt }
    children-in b cb top c (k ∷ ks) again l i band at h =
        let one = child tree w content apart cb top c k in
        let next = grown b (rises k) in
        let inside_is = inside-grown b (rises k) in
        let done = child-in b cb top c k ks again.0 l.0 i.0 band at h in
        let rest = children (child tree w content apart cb top) one.context ks in
        let most = grown b (together rises (k ∷ ks)) in
        let last = step-wider (grown next (together rises ks)) most [] rest (record { up = omega arith; down = omega arith; aside = omega arith })
        (children-in next cb top one.context ks again.1 l.1 i.1 (band-wider b next inside_is band) (level-wider b next top inside_is at) done.context) in
        record { context = last.context; placed = all_append (IsPlacedIn most) one.boxes rest.boxes (boxes-wider next most one.boxes (record { up = omega arith; down = omega arith; aside = omega arith }) done.placed) last.placed }
