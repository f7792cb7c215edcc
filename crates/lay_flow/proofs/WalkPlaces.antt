-- Wherever a walk comes to within bounds, what is computed there fits.
use Rattle.std.proofs.Common.{◌≡◌, ℕ, ◌*◌, ◌≤◌, ◌^◌, ℤ, true, false, List, [], ◌∷◌, refl, sym, ap, subst, ◌∙◌, arith}
use Rattle.std.specs.Option.{option_to_list}
use Rattle.std.proofs.lemmas.Int.{ints}
use Rattle.viz_base.specs.declared.layouts.Band.{Band}
use Rattle.viz_base.specs.declared.layouts.Entry.{Entry}
use Rattle.viz_base.specs.declared.layouts.Entry.TheVariants as of_entry
use Rattle.viz_base.specs.declared.layouts.Widths.{Widths}
use Rattle.viz_base.specs.declared.trees.BoxTree.{BoxTree}
use Rattle.viz_base.specs.declared.worlds.World.{World}
use Rattle.layout_semantics.specs.Flow.{Independent, Cleared}
use Rattle.layout_semantics.specs.FlowBoxes.{inline_size, content_from, room}
use Rattle.layout_semantics.specs.Horizontal.{widths}
use Rattle.layout_semantics.specs.InlineContent.{has_line, is_floated_at}
use Rattle.layout_semantics.specs.Order.{IsOnPage}
use Rattle.layout_semantics.specs.Rectangles.{Frame, content_top}
use Rattle.layout_semantics.specs.Verticals.{verticals}
use Rattle.layout_laws.proofs.Levels.{All-implied}
use Rattle.lay_margin.specs.Fitting.{BoxFits}
use Rattle.lay_steps.specs.Flow.{Context, Step, fresh, Standing, at_top, below, standing_in, opened, frame_of, laid_context, laid_block, reached_of, lines_of, content_of}
use Rattle.lay_steps.proofs.Sound.{IsFlowKid, IsSound}
use Rattle.page_limits.specs.Bounds.{Bounds, AreInside, grown, all_around, IsBandIn}
use Rattle.page_limits.specs.Boxes.{IsIndependentIn, IsBoxSmall, IsWhole}
use Rattle.page_limits.specs.Inline.{AreLinesIn, IsContentSmall, IsEntryIn}
use Rattle.page_limits.specs.Rises.{content_rise}
use Rattle.page_limits.proofs.Ahead.{rise}
use Rattle.page_limits.proofs.BoxesWithin.{box-wider}
use Rattle.page_limits.proofs.ContentWithin.{line_context, lines-in-bounds}
use Rattle.page_limits.proofs.FloatsMet.{band-wider, floats-wider}
use Rattle.page_limits.proofs.FlowWithin as within
use Rattle.page_limits.proofs.Levels.{aside-wider, level-wider}
use Rattle.page_limits.proofs.LinesWithin.{levels-wider}
use Rattle.lay_flow.specs.Fits.{IsEntryLow, IsReplacedFit, IsShapeFit}
use Rattle.lay_flow.specs.Low.{reach, IsBandLow, IsContextLow, IsFrameLow, IsStandingLow}
use Rattle.lay_flow.proofs.PageFits.{IsBoxFit}
use Rattle.lay_flow.specs.WalkFits.{Place, before_content, before_children, before_child, before_flow, when_reached, when_starting, when_going_on, ChildFits, ContentFits, FlowFits, GoOnFits, InLinesFit, LaidFits, PlaceFits, StartFits, WalkFits, inner_end}
use Rattle.lay_flow.proofs.ReachesFit.{ahead-of-reached-low, reach-fits}
use Rattle.lay_flow.proofs.Sizes.{level-near}
use Rattle.lay_flow.proofs.WalkLow.{IsAheadLow, independent-low, content-ahead, independent-wider, sides-low, widths-low}
use Rattle.lay_flow.proofs.WalkWithin as walk
use Rattle.lay_flow.proofs.Walks as walks

module _ (tree : BoxTree) (w : World) (own turned : ℕ → Bounds) (s t : ℕ) (fine : 8 * t ≤ s)
    (boxes : (k : ℕ) → IsOnPage tree.boxes k → IsWhole tree k → IsBoxSmall tree w t k) (apart : ℕ → Independent) (independent_in : (k : ℕ) → IsIndependentIn (own k) s (apart k))
    (lines_small : (k : ℕ) (left wide : ℤ) → IsSound tree w k wide → has_line tree k ≡ true
    → IsContentSmall (line_context tree w own turned s t fine boxes apart independent_in k left wide) own turned s)
    (low : s ≤ 2 ^ 72) (few : (k : ℕ) → AreInside (own k) (all_around (2 ^ 72))) (each : (k : ℕ) → IsOnPage tree.boxes k → IsWhole tree k → IsBoxFit tree w k) where
  abbrev inside : ℕ → Band ℤ → ℤ → Context → Step
  inside = content_of tree w apart

  abbrev rises : ℕ → Bounds
  rises k = rise tree own turned s k

  abbrev most : Bounds
  most = walk.most tree w own turned s t fine boxes apart independent_in

  abbrev ContentHere : ℕ → Band ℤ → ℤ → Context → Type 0
  ContentHere k cb top c = walk.ContentIn tree w own turned s t fine boxes apart independent_in k cb top c

  abbrev FlowHere : Band ℤ → Context → ℕ → Type 0
  FlowHere cb c k = walk.FlowIn tree w own turned s t fine boxes apart independent_in cb c k

  abbrev ReachedHere : Band ℤ → Context → ℕ → ℤ → Cleared → Type 0
  ReachedHere cb c k y cleared = walk.ReachedIn tree w own turned s t fine boxes apart independent_in cb c k y cleared

  abbrev Here : Place → Type 0
  Here p = walk.Within tree w own turned s t fine boxes apart independent_in p

  abbrev frame : Band ℤ → ℕ → ℤ → Frame
  frame cb k y = frame_of tree w k (inline_size cb) cb.left y

  -- ---- what is within bounds is low

  inside-reach : (b more : Bounds) → AreInside (grown b more) most → AreInside b reach
  inside-reach b more i = let u = i.up in let d = i.down in let a = i.aside in record { up = omega (arith, u); down = omega (arith, d); aside = omega (arith, a) }

  context-low : (b : Bounds) (ks : List ℕ) (c : Context) → AreInside b reach → within.IsContextIn tree w own turned s t fine boxes apart independent_in b ks c → IsAheadLow c.standing → IsContextLow c
  context-low b ks c i h a = record {
    standing = by c.standing h.standing a;
    floats = floats-wider b reach c.floats i h.floats;
    least = levels-wider b reach (option_to_list c.least) i h.least;
    baseline = levels-wider b reach (option_to_list c.baseline) i h.baseline;
  }
    where
      by : (st : Standing) → within.IsStandingIn tree w own turned s t fine boxes apart independent_in b ks st → IsAheadLow st → IsStandingLow st
      by (at_top y cleared) q a = (level-wider b reach y i q.0, a)
      by (below edge run stuck) q a = let m = q.1.most in let n = q.1.least in (level-wider b reach edge i q.0, record { most = omega (arith, m, low); least = omega (arith, n, low) })

  -- boxes in coordinates of their own
  apart-in : (j : ℕ) → IsIndependentIn (all_around (2 ^ 72)) (2 ^ 72) (apart j)
  apart-in j = independent-wider (own j) (all_around (2 ^ 72)) s (2 ^ 72) (apart j) low (few j) (independent_in j)

  -- behind what is in a box
  content-low : (k : ℕ) (cb : Band ℤ) (top : ℤ) (c : Context) → (h : ContentHere k cb top c) → AreInside (grown h.b (content_rise tree own turned s k)) reach
  content-low k cb top c h = let i = h.room in let u = i.up in let d = i.down in let a = i.aside in record { up = omega (arith, u); down = omega (arith, d); aside = omega (arith, a) }

  -- around where a box is reached, and behind it
  near-low : (cb : Band ℤ) (c : Context) (k : ℕ) → (h : FlowHere cb c k) → AreInside (grown h.b (all_around (4 * s))) reach
  near-low cb c k h = let i = h.room in let u = i.up in let d = i.down in let a = i.aside in record { up = omega (arith, u, low); down = omega (arith, d, low); aside = omega (arith, a, low) }

  after-low : (cb : Band ℤ) (c : Context) (k : ℕ) → (h : FlowHere cb c k) → AreInside (grown h.b (rises k)) reach
  after-low cb c k h = let i = h.room in let u = i.up in let d = i.down in let a = i.aside in record { up = omega (arith, u); down = omega (arith, d); aside = omega (arith, a) }

  -- behind all that is in a box
  pub content-end : (k : ℕ) (cb : Band ℤ) (top : ℤ) (c : Context) → ContentHere k cb top c → IsContextLow (inner_end tree w apart k cb top c)
  content-end k cb top c h =
      let after = grown h.b (content_rise tree own turned s k) in
      let band = subst (λ (x : Band ℤ). IsBandIn h.b x) h.same h.band in
      let done = walk.inside-all tree w own turned s t fine boxes apart independent_in lines_small k h.b h.left h.wide top c h.sound h.there band h.at h.begun in
      let all = content-low k cb top c h in
      context-low after [] (inside k cb top c).context all
      (subst (λ (x : Band ℤ). within.IsContextIn tree w own turned s t fine boxes apart independent_in after [] (inside k x top c).context) (sym h.same) done.context)
      (content-ahead tree w apart k cb top c h.there h.ahead)

  -- ---- lines

  entry-low : (b : Bounds) → AreInside b reach → (x : Entry ℤ) → IsEntryIn own b x → IsEntryLow x
  entry-low b i (of_entry.Here p) q = box-wider b reach p i q
  entry-low b i (of_entry.Goes k at) q =
      let u = i.up in let d = i.down in let a = i.aside in
      let x = q.top in let y = q.bottom in let z = q.aside in
      let f = few k in let fu = f.up in let fd = f.down in
      record { x = omega (arith, z, a); y = omega (arith, ints, x, y, u, d, fu, fd) }

  lines-fit : (k : ℕ) (cb : Band ℤ) (top : ℤ) (c : Context) → ContentHere k cb top c → has_line tree k ≡ true → InLinesFit tree w apart k cb top c
  lines-fit k cb top c h e =
      let after = grown h.b (content_rise tree own turned s k) in
      let narrow = inside-reach h.b (content_rise tree own turned s k) h.room in
      let all = content-low k cb top c h in
      let band = subst (λ (x : Band ℤ). IsBandIn h.b x) h.same h.band in
      let lines = subst (λ (x : Band ℤ). AreLinesIn own after (lines_of tree w apart k x top c)) (sym h.same) (lines-in-bounds tree w own turned s t fine boxes apart independent_in lines_small k h.b h.left h.wide top c h.sound h.there e band h.at h.begun) in
      record {
        apart_low = λ j. independent-low (apart j) (apart-in j);
        top_near = level-near top (level-wider h.b reach top narrow h.at);
        least = levels-wider h.b reach (option_to_list c.least) narrow h.begun.least;
        lines = (each k h.sound.page h.whole).in_lines e apart cb top c apart-in wide (band-wider h.b far here h.band) (level-wider h.b far top here h.at) (floats-wider h.b far c.floats here h.begun.floats)
            (levels-wider h.b far (option_to_list c.least) here h.begun.least);
        bottom = level-near (lines_of tree w apart k cb top c).bottom (level-wider after reach (lines_of tree w apart k cb top c).bottom all lines.bottom);
        entries = All-implied (IsEntryIn own after) IsEntryLow (lines_of tree w apart k cb top c).entries (entry-low after all) lines.entries;
      }
    where
      far : Bounds
      far = all_around (2 ^ 81)

      here : AreInside h.b far
      here = let i = h.room in let u = i.up in let d = i.down in let a = i.aside in record { up = omega (arith, u); down = omega (arith, d); aside = omega (arith, a) }

      wide : inline_size cb ≡ (widths tree w k (room tree w k)).content
      wide = ap inline_size h.same ∙ band-wide h.left (widths tree w k h.wide) ∙ ap (λ (z : ℤ). (widths tree w k z).content) h.sound.room
        where
          band-wide : (left : ℤ) (x : Widths ℤ) → inline_size (content_from left x) ≡ x.content
          band-wide left x = omega (arith, ints)

  -- ---- at each place

  content-fits : (k : ℕ) (cb : Band ℤ) (top : ℤ) (c : Context) → ContentHere k cb top c → ContentFits tree w apart Here k cb top c
  content-fits k cb top c h = record { in_lines = λ e. lines-fit k cb top c h e; in_boxes = λ e. walk.content-kept tree w own turned s t fine boxes apart independent_in k cb top c h e }

  child-fits : (cb : Band ℤ) (top : ℤ) (c : Context) (k : ℕ) → walk.ChildIn tree w own turned s t fine boxes apart independent_in cb top c k → ChildFits tree w apart Here cb top c k
  child-fits cb top c k h = record {
    floats = λ f. record {
      so_far = context-low h.b (k ∷ h.ks) c narrow h.begun h.ahead;
      band = band-wider h.b reach narrow h.band;
      top_near = level-near top (level-wider h.b reach top narrow h.at);
      own = independent-low (apart k) (apart-in k);
    };
    flows = λ f. record { b = h.b; ks = h.ks; next = (h.there, h.kid, f, h.band); begun = h.begun; ahead = h.ahead; room = h.room };
  }
    where
      narrow : AreInside h.b reach
      narrow = inside-reach h.b (rises k) h.room

  -- ---- a box in flow

  box-fit : (cb : Band ℤ) (k : ℕ) → IsFlowKid tree w k (inline_size cb) → is_floated_at tree k ≡ false → IsBoxFit tree w k
  box-fit cb k i f = each k i.sound.page (walk.kid-whole tree w own turned s t fine boxes apart independent_in cb k i f)

  shape-fit : (cb : Band ℤ) (k : ℕ) → IsFlowKid tree w k (inline_size cb) → is_floated_at tree k ≡ false → IsShapeFit tree w k (inline_size cb)
  shape-fit cb k i f = subst (λ (z : ℤ). IsShapeFit tree w k z) (sym i.sound.room) (box-fit cb k i f).shape

  frame-low : (cb : Band ℤ) (c : Context) (k : ℕ) (y : ℤ) (cleared : Cleared) → ReachedHere cb c k y cleared → IsFrameLow (frame cb k y)
  unfolding frame_of
  frame-low cb c k y cleared h =
      let f = within.frame-in tree w own turned s t fine boxes apart independent_in h.flows.b cb k y h.flows.next h.top in
      let u = h.flows.room.up in let d = h.flows.room.down in let a = h.flows.room.aside in
      let left = f.left in
      let small : t ≤ 2 ^ 90 = omega (arith, fine, low) in
      record {
        x = widths-low t (widths tree w k (inline_size cb)) small f.x;
        v = sides-low t (verticals tree w k (inline_size cb)) small f.v;
        aside = omega (arith, left, a, low);
        top = level-wider (grown h.flows.b (all_around (4 * s))) reach y (record { up = omega (arith, u, low); down = omega (arith, d, low); aside = omega (arith, a, low) }) h.top;
      }

  lead-fits : (cb : Band ℤ) (k : ℕ) → IsFlowKid tree w k (inline_size cb) → is_floated_at tree k ≡ false → IsBandLow cb → BoxFits tree w cb k
  lead-fits cb k i f l = (box-fit cb k i f).lead cb i.sound.room l

  flow-fits : (cb : Band ℤ) (c : Context) (k : ℕ) → FlowHere cb c k → FlowFits tree w apart Here cb c k
  flow-fits cb c k h = record {
    reach = reach-fits tree w own turned s t fine boxes less lead-fits apart independent_in cb c k n.0 n.1 n.2 h.b h.ks n.3 h.begun so_far.standing wide;
    standing = so_far.standing;
    inside = record {
      flows = h;
      top = found.reached.top;
      pends = found.reached.pends;
      cleared_low = ahead-of-reached-low tree w own turned s t fine boxes less lead-fits apart independent_in cb c k n.0 n.1 n.2 h.b h.ks n.3 h.begun so_far.standing wide;
    };
    band = band-wider h.b reach narrow n.3;
    down = (shape-fit cb k n.1 n.2).down;
    top_low = level-wider (grown h.b (all_around (4 * s))) reach (reached_of tree w apart cb c k).reached.top (near-low cb c k h) found.reached.top;
    run = let a = found.run.most in let d = found.run.least in record { most = omega (arith, a, low); least = omega (arith, d, low) };
  }
    where
      n : within.IsNext tree w own turned s t fine boxes apart independent_in h.b cb k
      n = h.next

      less : s ≤ 2 ^ 80
      less = omega (arith, low)

      narrow : AreInside h.b reach
      narrow = inside-reach h.b (rises k) h.room

      so_far : IsContextLow c
      so_far = context-low h.b (k ∷ h.ks) c narrow h.begun h.ahead

      wide : AreInside (grown (grown h.b (all_around (4 * s))) (rises k)) (all_around (2 ^ 88))
      wide = let i = h.room in let u = i.up in let d = i.down in let a = i.aside in record { up = omega (arith, u, low); down = omega (arith, d, low); aside = omega (arith, a, low) }

      found : within.IsMetIn tree w own turned s t fine boxes apart independent_in h.b h.ks k (reached_of tree w apart cb c k)
      found = within.met-in tree w own turned s t fine boxes apart independent_in h.b cb c k h.ks n h.begun

  laid-fits : (cb : Band ℤ) (c : Context) (k : ℕ) (top : ℤ) (cleared : Cleared) → ReachedHere cb c k top cleared → LaidFits tree w apart Here cb c k top cleared
  laid-fits cb c k top cleared h = record {
    band = band-wider h.flows.b reach narrow n.3;
    top_low = level-wider (grown h.flows.b (all_around (4 * s))) reach top (near-low cb c k h.flows) h.top;
    shape = shape-fit cb k n.1 n.2;
    frame = frame-low cb c k top cleared h;
    least = levels-wider h.flows.b reach (option_to_list c.least) narrow h.flows.begun.least;
    replaced = λ e. subst (λ (z : ℤ). IsReplacedFit tree w k z) (sym n.1.sound.room) ((box-fit cb k n.1 n.2).replaced e);
    root = λ e r. (cleared, record { y = top; reached = h; same = refl });
    block = λ e r. record { y = top; reached = h; same = refl };
  }
    where
      n : within.IsNext tree w own turned s t fine boxes apart independent_in h.flows.b cb k
      n = h.flows.next

      narrow : AreInside h.flows.b reach
      narrow = inside-reach h.flows.b (rises k) h.flows.room

  -- ---- a box around what is in it

  start-fits : (cb : Band ℤ) (c : Context) (k : ℕ) (y : ℤ) (cleared : Cleared) → ReachedHere cb c k y cleared → StartFits tree w apart Here cb c k (frame cb k y)
  unfolding laid_context
  start-fits cb c k y cleared h =
      let b = h.flows.b in
      let n = h.flows.next in
      let f = frame cb k y in
      let narrow = inside-reach b (rises k) h.flows.room in
      let into = walk.start-kept tree w own turned s t fine boxes apart independent_in cb c k y cleared h in
      let done = within.laid-context-in tree w own turned s t fine boxes apart independent_in inside b cb c k h.flows.ks y (walk.inside-all tree w own turned s t fine boxes apart independent_in lines_small k) n h.flows.begun h.top in
      record {
        least = levels-wider b reach (option_to_list c.least) narrow h.flows.begun.least;
        around = record {
          left = aside-wider b reach cb.left narrow n.3.left;
          frame = frame-low cb c k y cleared h;
          own_height = (box-fit cb k n.1 n.2).own_height;
          inside = into;
          end = content-end k (content_from cb.left f.x) (content_top f) (fresh (content_top f)) into;
          bottom_low = level-wider (grown b (rises k)) reach _ (after-low cb c k h.flows) done.bottom;
        };
      }

  go-on-fits : (cb : Band ℤ) (c : Context) (k : ℕ) (y : ℤ) (cleared : Cleared) → ReachedHere cb c k y cleared → GoOnFits tree w apart Here cb c k cleared (frame cb k y)
  unfolding laid_block
  go-on-fits cb c k y cleared h =
      let b = h.flows.b in
      let n = h.flows.next in
      let f = frame cb k y in
      let narrow = inside-reach b (rises k) h.flows.room in
      let into = walk.go-on-kept tree w own turned s t fine boxes apart independent_in cb c k y cleared h in
      let done = within.laid-block-in tree w own turned s t fine boxes apart independent_in inside b cb c k h.flows.ks y cleared (walk.inside-all tree w own turned s t fine boxes apart independent_in lines_small k) n h.flows.begun h.top h.pends in
      record {
        least = levels-wider b reach (option_to_list c.least) narrow h.flows.begun.least;
        around = record {
          left = aside-wider b reach cb.left narrow n.3.left;
          frame = frame-low cb c k y cleared h;
          own_height = (box-fit cb k n.1 n.2).own_height;
          inside = into;
          end = content-end k (content_from cb.left f.x) (content_top f) (opened c f (standing_in tree k cleared f)) into;
          bottom_low = level-wider (grown b (rises k)) reach _ (after-low cb c k h.flows) done.bottom;
        };
      }

  -- ---- at all of them

  place-fits : (p : Place) → Here p → PlaceFits tree w apart Here p
  place-fits (before_content k cb top c) h = content-fits k cb top c h
  place-fits (before_children cb top c []) h = tt
  place-fits (before_children cb top c (k ∷ ks)) h = record { first = walk.first-kept tree w own turned s t fine boxes apart independent_in cb top c k ks h; others = walk.others-kept tree w own turned s t fine boxes apart independent_in lines_small cb top c k ks h }
  place-fits (before_child cb top c k) h = child-fits cb top c k h
  place-fits (before_flow cb c k) h = flow-fits cb c k h
  place-fits (when_reached cb c k y cleared) h = laid-fits cb c k y cleared h
  place-fits (when_starting cb c k f) h = subst (λ (x : Frame). StartFits tree w apart Here cb c k x) (sym h.1.same) (start-fits cb c k h.1.y h.0 h.1.reached)
  place-fits (when_going_on cb c k cleared f) h = subst (λ (x : Frame). GoOnFits tree w apart Here cb c k cleared x) (sym h.same) (go-on-fits cb c k h.y cleared h.reached)

  pub walk-fits : (p : Place) → Here p → WalkFits tree w apart p
  walk-fits p h = walks.walk-fits tree w apart Here place-fits p h
