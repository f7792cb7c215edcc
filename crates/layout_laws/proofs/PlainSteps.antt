-- The steps of normal flow without floats and clearance: where a block is reached, and where the next one stands after it.
use Rattle.std.proofs.Common.{◌≡◌, ℕ, zero, suc, ◌+◌, ◌<◌, ◌≤◌, ℤ, ◌+ℤ◌, Bool, true, false, not, ◌&&◌, ◌||◌, List, [], ◌∷◌, ◌++◌, length, fold, refl, sym, ap, ◌∙◌, subst, arith, None, Some}
use Rattle.std.specs.List.{list_all, AllByRecursion}
use Rattle.std.proofs.Math.Bool.{and-false}
use Rattle.viz_base.specs.declared.layouts.Band.{Band}
use Rattle.viz_base.specs.declared.trees.BoxTree.{BoxTree}
use Rattle.viz_base.specs.declared.worlds.World.{World}
use Rattle.viz_base.specs.declared.renderings.Placed.{Placed}
use Rattle.layout_semantics.specs.Order.{kids_of}
use Rattle.layout_semantics.specs.Margins.{collapsed}
use Rattle.layout_semantics.specs.Rectangles.{Frame, content_top, placed_box}
use Rattle.layout_semantics.specs.Replaced.{replaced_size}
use Rattle.layout_semantics.specs.FlowBoxes.{is_replaced_at, is_context_root, is_open_above, is_open_below, may_collapse_through, joins_last_child, inline_size, content_from, content_band}
use Rattle.layout_semantics.specs.DefiniteHeights.{has_auto_height, has_no_minimum, own_height}
use Rattle.layout_semantics.specs.InlineContent.{is_zero, has_line}
use Rattle.layout_semantics.specs.Lengths.{borders, paddings}
use Rattle.layout_semantics.specs.Leads.{bottom_margin}
use Rattle.layout_semantics.specs.Flow.{Standing, at_top, below, Progress, fresh, opened, Reached, Laid, reached, laid, child, flow_child, standing_after, flow_to, joined_run, is_at_top, content_height, context_height, block_height}
use Rattle.layout_semantics.proofs.Forest.{IsKid}
use Rattle.layout_semantics.proofs.Pages.{forest}
use Rattle.layout_laws.specs.PlainFlow.{HasPlainBlocks, leading, all_margins, collapses, after_child, trailing}
use Rattle.layout_laws.proofs.Flowing.{frame_of}
use Rattle.layout_semantics.proofs.BlocksAlone.{no_lines, holds_none}
use Rattle.layout_laws.proofs.PlainLeads.{resolve-plain}
use Rattle.layout_laws.proofs.PlainLevels.{collapses-is, trailing-is, box_margins}

-- ---- standings

-- nothing is cleared
abbrev pub IsPlain : Standing → Type 0
IsPlain (at_top y cleared) = cleared ≡ None
IsPlain (below edge run stuck) = stuck ≡ false

-- where a box stands whose top adjoins these margins
abbrev pub edge_after : Standing → List ℤ → ℤ
edge_after (at_top y cleared) margins = y
edge_after (below edge run stuck) margins = edge +ℤ collapsed (run ++ margins)

-- after a box that collapses through
abbrev pub passed_by : Standing → List ℤ → Standing
passed_by (at_top y cleared) margins = at_top y cleared
passed_by (below edge run stuck) margins = below edge (run ++ margins) stuck

abbrev pub plainly_reached : ℤ → Reached
plainly_reached y = record { top = y; clears = false; cleared = None }

module _ (tree : BoxTree) (w : World) where
  -- how far the boxes of a block have come: the margins since the last that does not collapse through, and whether there is none
  pub record Follows (s : Standing) (run : List ℤ) (t : Bool) : Type 0 where
    pub top : is_at_top tree w s ≡ t
    pub joined : is_at_top tree w s ≡ false → joined_run tree w true s ≡ run
    pub is_plain : IsPlain s

-- ---- what parts margins

no_second : (a c d : Bool) → (not a && not true && c && d) ≡ false
no_second true c d = refl
no_second false c d = refl

both_ways : (t o a m : Bool) → t ≡ (o && a) → (o ≡ false → m ≡ false) → (t && m) ≡ (m && a)
both_ways t true a m e f = ap (λ c. c && m) e ∙ flip a m
  where
    flip : (a m : Bool) → (a && m) ≡ (m && a)
    flip true true = refl
    flip true false = refl
    flip false true = refl
    flip false false = refl
both_ways t false a m e f = ap (λ c. c && m) e ∙ ap (λ c. c && a) (sym (f refl))

and_true : (t : Bool) → (t && true) ≡ t
and_true true = refl
and_true false = refl

and_assoc : (a b c : Bool) → ((a && b) && c) ≡ (a && (b && c))
and_assoc true b c = refl
and_assoc false b c = refl

-- a block that does not collapse through has a child that does not, where its bottom margin may join its last child's
parted : (o ob nm au z hl a : Bool) → hl ≡ false → (ob && au && nm) ≡ true → ((o && ob && nm && (au || z) && not hl) && a) ≡ false → (o && a) ≡ false
parted false ob nm au z hl a h j c = refl
parted true ob nm au z hl false h j c = refl
parted true true true true z false true h j c = c
parted true false nm au z hl true h j c = absurd (cc)
parted true true nm false z hl true h j c = absurd (cc)
parted true true false true z hl true h j c = absurd (cc)
parted true true true true z true true h j c = absurd (cc)

module _ (tree : BoxTree) (w : World) where
  joined_none : (s : Standing) → joined_run tree w false s ≡ []
  joined_none (at_top y cleared) = refl
  joined_none (below edge run stuck) = refl

  replaced-above : (k : ℕ) → is_replaced_at tree k ≡ true → is_open_above tree k ≡ false
  unfolding is_open_above
  replaced-above k e = ap (λ r. not (is_context_root tree k) && not r && is_zero (borders tree k).top && is_zero (paddings tree k).top) e ∙ no_second (is_context_root tree k) (is_zero (borders tree k).top) (is_zero (paddings tree k).top)

  replaced-below : (k : ℕ) → is_replaced_at tree k ≡ true → is_open_below tree k ≡ false
  unfolding is_open_below
  replaced-below k e = ap (λ r. not (is_context_root tree k) && not r && is_zero (borders tree k).bottom && is_zero (paddings tree k).bottom) e ∙ no_second (is_context_root tree k) (is_zero (borders tree k).bottom) (is_zero (paddings tree k).bottom)

  pub context-above : (k : ℕ) → is_context_root tree k ≡ true → is_open_above tree k ≡ false
  unfolding is_open_above
  context-above k e = ap (λ c. not c && not (is_replaced_at tree k) && is_zero (borders tree k).top && is_zero (paddings tree k).top) e

  context-below : (k : ℕ) → is_context_root tree k ≡ true → is_open_below tree k ≡ false
  unfolding is_open_below
  context-below k e = ap (λ c. not c && not (is_replaced_at tree k) && is_zero (borders tree k).bottom && is_zero (paddings tree k).bottom) e

  closed-stays : (k : ℕ) → is_open_above tree k ≡ false → may_collapse_through tree k ≡ false
  unfolding may_collapse_through
  closed-stays k e = ap (λ o. o && is_open_below tree k && has_no_minimum tree k && (has_auto_height tree k || is_zero (own_height tree k)) && not (has_line tree k)) e

  closed-parts : (k : ℕ) → is_open_below tree k ≡ false → joins_last_child tree k ≡ false
  unfolding joins_last_child
  closed-parts k e = ap (λ o. o && has_auto_height tree k && has_no_minimum tree k) e

  closed-collapses : (k : ℕ) → k < length tree.boxes → is_open_above tree k ≡ false → collapses tree w k ≡ false
  closed-collapses k l e = collapses-is tree w k l ∙ ap (λ m. m && list_all (collapses tree w) (kids_of tree.boxes k)) (closed-stays k e)

  closed-trailing : (cb : Band ℤ) (k : ℕ) → k < length tree.boxes → is_open_below tree k ≡ false → bottom_margin tree w cb k ∷ [] ≡ trailing tree w cb k
  closed-trailing cb k l e = sym (trailing-is tree w cb k l ∙ ap (box_margins tree w cb k (fold (after_child tree w (trailing tree w) (content_band tree w cb k)) [] (kids_of tree.boxes k))) (closed-parts k e))

-- ---- a box in flow

-- where the content of a block begins
abbrev pub started : ℤ → ℤ → Bool → Standing
started y top true = at_top y None
started y top false = below top [] false

module _ (tree : BoxTree) (w : World) (inside : ℕ → Band ℤ → ℤ → Progress → Progress) where
  -- what its content begins with
  abbrev pub inner_start : Progress → ℕ → Frame → (context : Bool) → Progress
  inner_start p k f true = fresh (content_top f)
  inner_start p k f false = opened tree w inside p f (started f.corner.y (content_top f) (is_open_above tree k))

  abbrev pub inner : Band ℤ → Progress → ℕ → Frame → (context : Bool) → Progress
  inner cb p k f context = inside k (content_from cb.left f.x) (content_top f) (inner_start p k f context)

  -- the height of its content
  abbrev pub inner_height : Band ℤ → Progress → ℕ → Frame → (replaced context : Bool) → ℤ
  inner_height cb p k f true context = (replaced_size tree w k (inline_size cb)).height
  inner_height cb p k f false true = content_height tree w k (context_height tree w (content_top f) (inner cb p k f true))
  inner_height cb p k f false false = content_height tree w k (block_height tree w (joins_last_child tree k) (content_top f) (inner cb p k f false).standing)

  -- its entry
  abbrev pub entry_in : Band ℤ → Progress → ℕ → Frame → Placed ℤ
  entry_in cb p k f = placed_box tree k f (inner_height cb p k f (is_replaced_at tree k) (is_context_root tree k))

  abbrev pub entry_of : Band ℤ → Progress → ℕ → Placed ℤ
  entry_of cb p k = entry_in cb p k (frame_of tree w cb k (reached tree w inside cb p k))

module _ (tree : BoxTree) (w : World) (plain : HasPlainBlocks tree) where
  module _ (inside : ℕ → Band ℤ → ℤ → Progress → Progress) where
    pub reached-plain : (cb : Band ℤ) (p : Progress) (k : ℕ) → IsPlain p.standing → reached tree w inside cb p k ≡ plainly_reached (edge_after p.standing (leading tree w cb k))
    reached-plain cb p k i = by_standing p.standing refl i
      where
        by_standing : (s : Standing) → p.standing ≡ s → IsPlain s → reached tree w inside cb p k ≡ plainly_reached (edge_after s (leading tree w cb k))
        by_standing (at_top y None) e i = rw e
        by_standing (at_top y (Some c)) e i = absurd (cc)
        by_standing (below edge run stuck) e i = rw (e, resolve-plain tree w plain.no_clear _ _ _ _ _ _ k _)

  -- what the content of a block leaves
  pub record Ends (cb : Band ℤ) (b : ℕ) (opens : Bool) (end : Progress) : Type 0 where
    pub floats : end.floats ≡ []
    pub top : is_at_top tree w end.standing ≡ (opens && list_all (collapses tree w) (kids_of tree.boxes b))
    pub run : is_at_top tree w end.standing ≡ false → joined_run tree w true end.standing ≡ fold (after_child tree w (trailing tree w) cb) [] (kids_of tree.boxes b)

  abbrev pub Behaves : (ℕ → Band ℤ → ℤ → Progress → Progress) → ℕ → Type 0
  Behaves inside levels = (b : ℕ) (cb : Band ℤ) (top y : ℤ) (p : Progress) (opens : Bool) → b < length tree.boxes → length tree.boxes ≤ levels + b
      → p.floats ≡ [] → p.standing ≡ started y top opens → Ends cb b opens (inside b cb top p)

  -- a box in flow that is laid out
  record IsLaid (inside : ℕ → Band ℤ → ℤ → Progress → Progress) (cb : Band ℤ) (p : Progress) (k : ℕ) (y : ℤ) : Type 0 where
    floats : (laid tree w inside cb p k (plainly_reached y)).after.floats ≡ []
    through : (laid tree w inside cb p k (plainly_reached y)).through ≡ collapses tree w k
    margins : collapses tree w k ≡ false → (laid tree w inside cb p k (plainly_reached y)).margins ≡ trailing tree w cb k
    bottom : (laid tree w inside cb p k (plainly_reached y)).bottom ≡ (entry_in tree w inside cb p k (frame_of tree w cb k (plainly_reached y))).border.bottom

  module _ (inside : ℕ → Band ℤ → ℤ → Progress → Progress) (levels : ℕ) (behaves : Behaves inside levels) where
    laid-is : (cb : Band ℤ) (p : Progress) (k : ℕ) (y : ℤ) → k < length tree.boxes → length tree.boxes ≤ levels + k → p.floats ≡ [] → IsLaid inside cb p k y
    unfolding joins_last_child may_collapse_through
    laid-is cb p k y l m none = by_sort (is_replaced_at tree k) (is_context_root tree k) refl refl
      where
        by_sort : (replaced context : Bool) → is_replaced_at tree k ≡ replaced → is_context_root tree k ≡ context → IsLaid inside cb p k y
        by_sort true context e f = record {
          floats = rw e none;
          through = rw e (sym (closed-collapses tree w k l (replaced-above tree w k e)));
          margins = λ c. rw e (closed-trailing tree w cb k l (replaced-below tree w k e));
          bottom = rw e;
        }
        by_sort false true e f = record {
          floats = rw (e, f) none;
          through = rw (e, f) (sym (closed-collapses tree w k l (context-above tree w k f)));
          margins = λ c. rw (e, f) (closed-trailing tree w cb k l (context-below tree w k f));
          bottom = rw (e, f);
        }
        by_sort false false e f = record {
          floats = rw (e, f) ends.floats;
          through = rw (e, f) (both_ways (is_at_top tree w end.standing) (is_open_above tree k) (list_all (collapses tree w) (kids_of tree.boxes k)) (may_collapse_through tree k) ends.top (closed-stays tree w k) ∙ sym (collapses-is tree w k l));
          margins = λ c. rw (e, f) (joins (joins_last_child tree k) refl c ∙ sym (trailing-is tree w cb k l));
          bottom = rw (e, f);
        }
          where
            frame : Frame
            frame = frame_of tree w cb k (plainly_reached y)

            end : Progress
            end = inner tree w inside cb p k frame false

            ends : Ends (content_from cb.left frame.x) k (is_open_above tree k) end
            ends = behaves k (content_from cb.left frame.x) (content_top frame) frame.corner.y (inner_start tree w inside p k frame false) (is_open_above tree k) l m none refl

            run : List ℤ
            run = fold (after_child tree w (trailing tree w) (content_band tree w cb k)) [] (kids_of tree.boxes k)

            joins : (j : Bool) → joins_last_child tree k ≡ j → collapses tree w k ≡ false
                → joined_run tree w j end.standing ++ bottom_margin tree w cb k ∷ [] ≡ box_margins tree w cb k run j
            joins false g c = ap (λ (own : List ℤ). own ++ bottom_margin tree w cb k ∷ []) (joined_none tree w end.standing)
            joins true g c = ap (λ (own : List ℤ). own ++ bottom_margin tree w cb k ∷ []) (ends.run (ends.top
                ∙ parted (is_open_above tree k) (is_open_below tree k) (has_no_minimum tree k) (has_auto_height tree k) (is_zero (own_height tree k)) (has_line tree k) (list_all (collapses tree w) (kids_of tree.boxes k))
                (no_lines tree plain.no_inline k) g (sym (collapses-is tree w k l) ∙ c)))

    -- ---- after a box

    child-flows : (cb : Band ℤ) (top : ℤ) (p : Progress) (k : ℕ) → child tree w inside cb top p k ≡ flow_child tree w inside cb p k
    child-flows cb top p k = rw (plain.no_float k)

    after-through : (cb : Band ℤ) (s : Standing) (k : ℕ) (y : ℤ) (l : Laid) → l.through ≡ true → standing_after tree w inside cb s k (plainly_reached y) l ≡ passed_by s (all_margins tree w cb k)
    after-through cb (at_top top cleared) k y l e = rw e
    after-through cb (below edge run stuck) k y l e = rw e

    after-other : (cb : Band ℤ) (s : Standing) (k : ℕ) (y : ℤ) (l : Laid) → l.through ≡ false → standing_after tree w inside cb s k (plainly_reached y) l ≡ below l.bottom l.margins false
    after-other cb s k y l e = rw e

    pub record IsStep (cb : Band ℤ) (top : ℤ) (p : Progress) (k : ℕ) : Type 0 where
      pub floats : (child tree w inside cb top p k).floats ≡ []
      pub passed : collapses tree w k ≡ true → (child tree w inside cb top p k).standing ≡ passed_by p.standing (all_margins tree w cb k)
      pub stands : collapses tree w k ≡ false → (child tree w inside cb top p k).standing ≡ below (entry_of tree w inside cb p k).border.bottom (trailing tree w cb k) false

    pub step : (cb : Band ℤ) (top : ℤ) (p : Progress) (k : ℕ) → k < length tree.boxes → length tree.boxes ≤ levels + k → p.floats ≡ [] → IsPlain p.standing → IsStep cb top p k
    step cb top p k l m none i =
        record {
          floats = rw (plain.no_float k, here) own.floats;
          passed = λ e. rw (plain.no_float k, here) (after-through cb p.standing k y (laid tree w inside cb p k (plainly_reached y)) (own.through ∙ e));
          stands = λ e. rw (plain.no_float k, here) (after-other cb p.standing k y (laid tree w inside cb p k (plainly_reached y)) (own.through ∙ e)
              ∙ (ap (λ (bottom : ℤ). below bottom (laid tree w inside cb p k (plainly_reached y)).margins false) own.bottom
              ∙ ap (λ (run : List ℤ). below (entry_in tree w inside cb p k (frame_of tree w cb k (plainly_reached y))).border.bottom run false) (own.margins e)));
        }
      where
        y : ℤ
        y = edge_after p.standing (leading tree w cb k)

        here : reached tree w inside cb p k ≡ plainly_reached y
        here = reached-plain inside cb p k i

        own : IsLaid inside cb p k y
        own = laid-is cb p k y l m none

    pub plain-after : (cb : Band ℤ) (top : ℤ) (p : Progress) (k : ℕ) → IsPlain p.standing → IsStep cb top p k → IsPlain (child tree w inside cb top p k).standing
    plain-after cb top p k i s = by_sort (collapses tree w k) refl
      where
        kept : (s : Standing) (m : List ℤ) → IsPlain s → IsPlain (passed_by s m)
        kept (at_top y cleared) m i = i
        kept (below edge run stuck) m i = i

        by_sort : (c : Bool) → collapses tree w k ≡ c → IsPlain (child tree w inside cb top p k).standing
        by_sort true e = subst IsPlain (sym (s.passed e)) (kept p.standing (all_margins tree w cb k) i)
        by_sort false e = subst IsPlain (sym (s.stands e)) refl

    -- ---- after all boxes of a block

    follows-passed : (s : Standing) (run more : List ℤ) (t : Bool) → Follows tree w s run t → Follows tree w (passed_by s more) (run ++ more) (t && true)
    follows-passed (at_top y cleared) run more t f = record { top = f.top ∙ sym (and_true t); joined = λ e. absurd (cc); is_plain = f.is_plain }
    follows-passed (below edge own false) run more t f = record { top = f.top ∙ sym (and_true t); joined = λ e. ap (λ (l : List ℤ). l ++ more) (f.joined refl); is_plain = refl }
    follows-passed (below edge own true) run more t f = let stuck = f.is_plain in absurd (cc)

    follows-child : (cb : Band ℤ) (top : ℤ) (p : Progress) (k : ℕ) (run : List ℤ) (t : Bool) → IsStep cb top p k → Follows tree w p.standing run t
        → Follows tree w (child tree w inside cb top p k).standing (after_child tree w (trailing tree w) cb run k) (t && collapses tree w k)
    follows-child cb top p k run t s f = by_sort (collapses tree w k) refl
      where
        by_sort : (c : Bool) → collapses tree w k ≡ c → Follows tree w (child tree w inside cb top p k).standing (after_child tree w (trailing tree w) cb run k) (t && collapses tree w k)
        by_sort true e = rw (s.passed e, e) (follows-passed p.standing run (all_margins tree w cb k) t f)
        by_sort false e = rw (s.stands e, e) (record { top = sym (and-false t); joined = λ g. refl; is_plain = refl })

    pub record HasEnded (cb : Band ℤ) (ks : List ℕ) (run : List ℤ) (t : Bool) (end : Progress) : Type 0 where
      floats : end.floats ≡ []
      follows : Follows tree w end.standing (fold (after_child tree w (trailing tree w) cb) run ks) (t && list_all (collapses tree w) ks)

    children-ended : (cb : Band ℤ) (top : ℤ) (ks : List ℕ) (p : Progress) (run : List ℤ) (t : Bool) → AllByRecursion (λ k. (k < length tree.boxes) × (length tree.boxes ≤ levels + k)) ks → p.floats ≡ [] → Follows tree w p.standing run t
        → HasEnded cb ks run t (fold (child tree w inside cb top) p ks)
    children-ended cb top [] p run t a none f = record { floats = none; follows = rw (and_true t) f }
    children-ended cb top (k ∷ ks) p run t a none f =
        let s = step cb top p k a.0.0 a.0.1 none f.is_plain in
        let rest = children-ended cb top ks (child tree w inside cb top p k) (after_child tree w (trailing tree w) cb run k) (t && collapses tree w k) a.1 s.floats (follows-child cb top p k run t s f) in
        record { floats = rest.floats; follows = rw (and_assoc t (collapses tree w k) (list_all (collapses tree w) ks)) at rest.follows }

  -- ---- all levels

  reached_all : (n levels b : ℕ) (ks : List ℕ) → n ≤ suc levels + b → AllByRecursion (IsKid tree.boxes b) ks → n ≡ length tree.boxes → AllByRecursion (λ k. (k < length tree.boxes) × (length tree.boxes ≤ levels + k)) ks
  reached_all n levels b [] l a e = tt
  reached_all n levels b (k ∷ ks) l a e = let after = a.0.after in ((a.0.within, omega arith), reached_all n levels b ks l a.1 e)

  pub kids_reached : (levels b : ℕ) → length tree.boxes ≤ suc levels + b → AllByRecursion (λ k. (k < length tree.boxes) × (length tree.boxes ≤ levels + k)) (kids_of tree.boxes b)
  kids_reached levels b l = reached_all (length tree.boxes) levels b (kids_of tree.boxes b) l ((forest tree).kids b) refl

  -- the content of a box in this flow
  pub flow-is : (levels b : ℕ) (cb : Band ℤ) (top : ℤ) (p : Progress) → flow_to tree w (suc levels) b cb top p ≡ fold (child tree w (flow_to tree w levels) cb top) p (kids_of tree.boxes b)
  unfolding flow_to
  flow-is levels b cb top p = rw (no_lines tree plain.no_inline b, holds_none tree plain.no_inline b)

  pub flow-behaves : (levels : ℕ) → Behaves (flow_to tree w levels) levels
  flow-behaves zero b cb top y p opens l m none start = absurd (omega arith)
  flow-behaves (suc levels) b cb top y p opens l m none start =
      rw (flow-is levels b cb top p) (
      let from = begin opens in
      let ended = children-ended (flow_to tree w levels) levels (flow-behaves levels) cb top (kids_of tree.boxes b) p [] opens (kids_reached levels b m) none (rw (← start) at from) in
      record { floats = ended.floats; top = ended.follows.top; run = ended.follows.joined })
    where
      begin : (o : Bool) → Follows tree w (started y top o) [] o
      begin true = record { top = refl; joined = λ e. absurd (cc); is_plain = refl }
      begin false = record { top = refl; joined = λ e. refl; is_plain = refl }
