-- A walk that stays within bounds, from place to place.
use Rattle.std.proofs.Common.{◌≡◌, ℕ, suc, ◌*◌, ◌<◌, ◌≤◌, ◌^◌, ℤ, Bool, true, false, List, ◌∷◌, length, Some, None, refl, sym, subst, arith}
use Rattle.std.specs.List.{AllByRecursion}
use Rattle.viz_base.specs.declared.layouts.Band.{Band}
use Rattle.viz_base.specs.declared.trees.BoxTree.{BoxTree}
use Rattle.viz_base.specs.declared.worlds.World.{World}
use Rattle.layout_semantics.specs.Flow.{Independent, Cleared}
use Rattle.layout_semantics.specs.FlowBoxes.{inline_size, content_from, flow_children, is_open_above}
use Rattle.layout_semantics.specs.Horizontal.{widths}
use Rattle.layout_semantics.specs.InlineContent.{has_line, is_floated_at}
use Rattle.layout_semantics.specs.Order.{IsOnPage}
use Rattle.layout_semantics.specs.Rectangles.{Frame, content_top}
use Rattle.layout_laws.proofs.Levels.{IsFrom, All-implied}
use Rattle.layout_laws.proofs.LeadLevels.{children-from}
use Rattle.lay_steps.specs.Flow.{Context, Standing, Step, fresh, standing_in, opened, frame_of, content_of, child_of}
use Rattle.lay_steps.proofs.StepCases.{stands-open, stands-parted}
use Rattle.lay_steps.proofs.Sound.{IsFlowKid, IsSound, flow-sound}
use Rattle.page_limits.specs.Bounds.{Bounds, AreInside, grown, all_around, together, IsBandIn, IsLevelIn}
use Rattle.page_limits.specs.Boxes.{IsIndependentIn, IsBoxSmall, IsWhole}
use Rattle.page_limits.specs.Inline.{IsContentSmall}
use Rattle.page_limits.specs.Rises.{content_rise}
use Rattle.page_limits.proofs.Ahead.{IsPending, enter-pending, rise}
use Rattle.page_limits.proofs.BoxesWithin.{none-low}
use Rattle.page_limits.proofs.ContentBoxes.{flow-whole}
use Rattle.page_limits.proofs.ContentWithin.{line_context, content-in}
use Rattle.page_limits.proofs.FloatsMet.{band-wider}
use Rattle.page_limits.proofs.FlowWithin as within
use Rattle.page_limits.proofs.Levels.{inside-grown, inside-more, level-wider}
use Rattle.page_limits.proofs.Rising.{rise-of-kids}
use Rattle.lay_flow.specs.Low.{IsClearedLow}
use Rattle.lay_flow.specs.WalkFits.{Place, before_content, before_children, before_child, before_flow, when_reached, when_starting, when_going_on}
use Rattle.lay_flow.proofs.WalkLow.{IsAheadLow, child-ahead}

module _ (tree : BoxTree) (w : World) (own turned : ℕ → Bounds) (s t : ℕ) (fine : 8 * t ≤ s)
    (boxes : (k : ℕ) → IsOnPage tree.boxes k → IsWhole tree k → IsBoxSmall tree w t k) (apart : ℕ → Independent) (independent_in : (k : ℕ) → IsIndependentIn (own k) s (apart k)) where
  abbrev content : ℕ → Band ℤ → ℤ → Context → Step
  content = content_of tree w apart

  abbrev rises : ℕ → Bounds
  rises k = rise tree own turned s k

  abbrev Kid : Band ℤ → ℕ → Type 0
  Kid cb k = IsFlowKid tree w k (inline_size cb)

  abbrev IsContext : Bounds → List ℕ → Context → Type 0
  IsContext b ks c = within.IsContextIn tree w own turned s t fine boxes apart independent_in b ks c

  -- so far a page goes at most
  abbrev pub most : Bounds
  most = all_around (2 ^ 80)

  -- ---- where a walk stands within bounds

  -- before what is in a box, from a top on
  pub record ContentIn (k : ℕ) (cb : Band ℤ) (top : ℤ) (c : Context) : Type 0 where
    pub b : Bounds
    pub left : ℤ
    pub wide : ℤ
    pub same : cb ≡ content_from left (widths tree w k wide)
    pub sound : IsSound tree w k wide
    pub whole : IsWhole tree k
    pub there : k < length tree.boxes
    pub band : IsBandIn b cb
    pub at : IsLevelIn b top
    pub begun : IsContext b (flow_children tree k) c
    pub ahead : IsAheadLow c.standing
    pub room : AreInside (grown b (content_rise tree own turned s k)) most

  -- before children one after another
  pub record ChildrenIn (cb : Band ℤ) (top : ℤ) (c : Context) (ks : List ℕ) : Type 0 where
    pub b : Bounds
    pub there : AllByRecursion (λ k. k < length tree.boxes) ks
    pub kids : AllByRecursion (Kid cb) ks
    pub band : IsBandIn b cb
    pub at : IsLevelIn b top
    pub begun : IsContext b ks c
    pub ahead : IsAheadLow c.standing
    pub room : AreInside (grown b (together rises ks)) most

  -- before one of several
  pub record ChildIn (cb : Band ℤ) (top : ℤ) (c : Context) (k : ℕ) : Type 0 where
    pub b : Bounds
    pub ks : List ℕ
    pub there : k < length tree.boxes
    pub kid : Kid cb k
    pub band : IsBandIn b cb
    pub at : IsLevelIn b top
    pub begun : IsContext b (k ∷ ks) c
    pub ahead : IsAheadLow c.standing
    pub room : AreInside (grown b (rises k)) most

  -- before a box in flow
  pub record FlowIn (cb : Band ℤ) (c : Context) (k : ℕ) : Type 0 where
    pub b : Bounds
    pub ks : List ℕ
    pub next : within.IsNext tree w own turned s t fine boxes apart independent_in b cb k
    pub begun : IsContext b (k ∷ ks) c
    pub ahead : IsAheadLow c.standing
    pub room : AreInside (grown b (rises k)) most

  -- where it is reached at y
  pub record ReachedIn (cb : Band ℤ) (c : Context) (k : ℕ) (y : ℤ) (cleared : Cleared) : Type 0 where
    pub flows : FlowIn cb c k
    pub top : IsLevelIn (grown flows.b (all_around (4 * s))) y
    pub pends : IsPending tree own turned s (grown flows.b (all_around (4 * s))) (k ∷ flows.ks) cleared
    pub cleared_low : IsClearedLow cleared

  pub record FramedIn (cb : Band ℤ) (c : Context) (k : ℕ) (cleared : Cleared) (f : Frame) : Type 0 where
    pub y : ℤ
    pub reached : ReachedIn cb c k y cleared
    pub same : f ≡ frame_of tree w k (inline_size cb) cb.left y

  abbrev pub Within : Place → Type 0
  Within (before_content k cb top c) = ContentIn k cb top c
  Within (before_children cb top c ks) = ChildrenIn cb top c ks
  Within (before_child cb top c k) = ChildIn cb top c k
  Within (before_flow cb c k) = FlowIn cb c k
  Within (when_reached cb c k y cleared) = ReachedIn cb c k y cleared
  Within (when_starting cb c k f) = (cleared : Cleared) × FramedIn cb c k cleared f
  Within (when_going_on cb c k cleared f) = FramedIn cb c k cleared f

  -- ---- from place to place

  pub content-kept : (k : ℕ) (cb : Band ℤ) (top : ℤ) (c : Context) → ContentIn k cb top c → has_line tree k ≡ false → ChildrenIn cb top c (flow_children tree k)
  content-kept k cb top c h e =
      let all = rise-of-kids tree own turned s k h.there e in
      record {
        b = h.b;
        there = All-implied (IsFrom tree.boxes (suc k)) (λ j. j < length tree.boxes) (flow_children tree k) (λ j f. f.within) (children-from tree k);
        kids = subst (λ (x : Band ℤ). AllByRecursion (Kid x) (flow_children tree k)) (sym h.same) (flow-sound tree w k h.left h.wide h.sound);
        band = h.band;
        at = h.at;
        begun = h.begun;
        ahead = h.ahead;
        room = subst (λ (r : Bounds). AreInside (grown h.b r) most) all h.room;
      }

  pub first-kept : (cb : Band ℤ) (top : ℤ) (c : Context) (k : ℕ) (ks : List ℕ) → ChildrenIn cb top c (k ∷ ks) → ChildIn cb top c k
  first-kept cb top c k ks h =
      let u = h.room.up in let d = h.room.down in let a = h.room.aside in
      record {
        b = h.b;
        ks = ks;
        there = h.there.0;
        kid = h.kids.0;
        band = h.band;
        at = h.at;
        begun = h.begun;
        ahead = h.ahead;
        room = record { up = omega (arith, u); down = omega (arith, d); aside = omega (arith, a) };
      }

  -- to those after the first, where the lines of each box are small
  module _ (lines_small : (k : ℕ) (left wide : ℤ) → IsSound tree w k wide → has_line tree k ≡ true
      → IsContentSmall (line_context tree w own turned s t fine boxes apart independent_in k left wide) own turned s) where
    pub inside-all : (k : ℕ) → within.IsInside tree w own turned s t fine boxes apart independent_in content k
    inside-all k = content-in tree w own turned s t fine boxes apart independent_in lines_small (length tree.boxes) k

    pub others-kept : (cb : Band ℤ) (top : ℤ) (c : Context) (k : ℕ) (ks : List ℕ) → ChildrenIn cb top c (k ∷ ks) → ChildrenIn cb top (child_of tree w apart cb top c k).context ks
    others-kept cb top c k ks h =
        let u = h.room.up in let d = h.room.down in let a = h.room.aside in
        let i = inside-grown h.b (rises k) in
        let done = within.child-in tree w own turned s t fine boxes apart independent_in content h.b cb top c k ks (inside-all k) h.there.0 h.kids.0 h.band h.at h.begun in
        record {
          b = grown h.b (rises k);
          there = h.there.1;
          kids = h.kids.1;
          band = band-wider h.b (grown h.b (rises k)) i h.band;
          at = level-wider h.b (grown h.b (rises k)) top i h.at;
          begun = done.context;
          ahead = child-ahead tree w apart cb top c k h.ahead;
          room = record { up = omega (arith, u); down = omega (arith, d); aside = omega (arith, a) };
        }

  -- ---- into a box in flow

  pub kid-whole : (cb : Band ℤ) (k : ℕ) → Kid cb k → is_floated_at tree k ≡ false → IsWhole tree k
  kid-whole cb k i f = flow-whole tree w k (i.flow f)

  -- what is in a box, with its frame
  pub inner-kept : (cb : Band ℤ) (c : Context) (k : ℕ) (y : ℤ) (cleared : Cleared) (inner : Context) → (h : ReachedIn cb c k y cleared) → let f = frame_of tree w k (inline_size cb) cb.left y in
      IsContext (within.within tree w own turned s t fine boxes apart independent_in h.flows.b) (flow_children tree k) inner → IsAheadLow inner.standing → ContentIn k (content_from cb.left f.x) (content_top f) inner
  unfolding frame_of
  inner-kept cb c k y cleared inner h begun ahead =
      let b = h.flows.b in
      let n = h.flows.next in
      let f = frame_of tree w k (inline_size cb) cb.left y in
      let frame = within.frame-in tree w own turned s t fine boxes apart independent_in b cb k y n h.top in
      record {
        b = grown (grown b (all_around (4 * s))) (all_around (16 * s));
        left = cb.left;
        wide = inline_size cb;
        same = refl;
        sound = n.1.sound;
        whole = kid-whole cb k n.1 n.2;
        there = n.0;
        band = within.inner-band tree w own turned s t fine boxes apart independent_in cb.left b f refl frame;
        at = frame.top;
        begun = begun;
        ahead = ahead;
        room = inside-more (grown (grown (grown b (all_around (4 * s))) (all_around (16 * s))) (content_rise tree own turned s k)) (grown b (rises k)) most
            (within.inner-wide tree w own turned s t fine boxes apart independent_in b k n.2) h.flows.room;
      }

  -- of one that starts a context, and of one that goes on with that around it
  pub start-kept : (cb : Band ℤ) (c : Context) (k : ℕ) (y : ℤ) (cleared : Cleared) → ReachedIn cb c k y cleared → let f = frame_of tree w k (inline_size cb) cb.left y in
      ContentIn k (content_from cb.left f.x) (content_top f) (fresh (content_top f))
  start-kept cb c k y cleared h =
      let f = frame_of tree w k (inline_size cb) cb.left y in
      let frame = within.frame-in tree w own turned s t fine boxes apart independent_in h.flows.b cb k y h.flows.next h.top in
      inner-kept cb c k y cleared (fresh (content_top f)) h (record { standing = (frame.top, none-low s); floats = tt; least = tt; baseline = tt }) tt

  pub go-on-kept : (cb : Band ℤ) (c : Context) (k : ℕ) (y : ℤ) (cleared : Cleared) → ReachedIn cb c k y cleared → let f = frame_of tree w k (inline_size cb) cb.left y in
      ContentIn k (content_from cb.left f.x) (content_top f) (opened c f (standing_in tree k cleared f))
  unfolding opened
  go-on-kept cb c k y cleared h =
      let stands = by (is_open_above tree k) refl in
      inner-kept cb c k y cleared (opened c f st) h
      (within.opened-in tree w own turned s t fine boxes apart independent_in h.flows.b c f (k ∷ h.flows.ks) (flow_children tree k) st frame h.flows.begun stands.0) stands.1
    where
      near : Bounds
      near = grown h.flows.b (all_around (4 * s))

      f : Frame
      f = frame_of tree w k (inline_size cb) cb.left y

      st : Standing
      st = standing_in tree k cleared f

      frame : within.IsFrameIn tree w own turned s t fine boxes apart independent_in h.flows.b f
      frame = within.frame-in tree w own turned s t fine boxes apart independent_in h.flows.b cb k y h.flows.next h.top

      entered : (o : Cleared) → IsPending tree own turned s near (k ∷ h.flows.ks) o → IsPending tree own turned s (grown near (all_around (16 * s))) (flow_children tree k) o
      entered None q = tt
      entered (Some d) q = enter-pending tree own turned s near k h.flows.ks d.0 d.1 h.flows.next.2 q

      Stands : Standing → Type 0
      Stands x = within.IsStandingIn tree w own turned s t fine boxes apart independent_in (grown near (all_around (16 * s))) (flow_children tree k) x × IsAheadLow x

      by : (o : Bool) → is_open_above tree k ≡ o → Stands st
      by true e = subst Stands (sym (stands-open tree k cleared f e)) ((level-wider near (grown near (all_around (16 * s))) f.corner.y (inside-grown near (all_around (16 * s))) frame.y, entered cleared h.pends), h.cleared_low)
      by false e = subst Stands (sym (stands-parted tree k cleared f e)) ((frame.top, none-low s), tt)
