-- More levels change neither where a box stands nor the flow.
use Rattle.std.proofs.Common.{◌≡◌, ℕ, zero, suc, ◌+◌, ◌<◌, ◌≤◌, ℤ, ◌+ℤ◌, pos, Bool, true, false, nat_le, ◌==◌, List, [], ◌∷◌, ◌++◌, map, fold, flat_map, length, unwrap_or, Option, None, Some, refl, sym, ap, ◌∙◌, subst, arith}
use Rattle.std.specs.Int.{int_max}
use Rattle.std.specs.List.{AllByRecursion}
use Rattle.std.proofs.lemmas.Bool.Decides.{nat_tests}
use Rattle.viz_base.specs.declared.layouts.Entry.{Entry}
use Rattle.viz_base.specs.declared.layouts.Entry.TheVariants as of_entry
use Rattle.viz_base.specs.declared.layouts.Band.{Band}
use Rattle.viz_base.specs.declared.layouts.Extent.{Extent}
use Rattle.viz_base.specs.declared.layouts.Inner.{Inner}
use Rattle.viz_base.specs.declared.layouts.LeadEnd.{LeadEnd}
use Rattle.viz_base.specs.declared.layouts.LeadEnd.TheVariants as of_end
use Rattle.viz_base.specs.declared.layouts.Waiting.{Waiting}
use Rattle.viz_base.specs.declared.renderings.Placed.{Placed}
use Rattle.viz_base.specs.declared.trees.BoxTree.{BoxTree}
use Rattle.viz_base.specs.declared.trees.Kind.{Kind}
use Rattle.viz_base.specs.declared.trees.Kind.TheVariants as of_kind
use Rattle.viz_base.specs.declared.worlds.World.{World}
use Rattle.viz_base.proofs.ListLemmas.{all_parts}
use Rattle.layout_semantics.specs.Lists.{table_of}
use Rattle.layout_semantics.specs.Floats.{FloatBox, floating, with_float}
use Rattle.layout_semantics.specs.Margins.{collapsed}
use Rattle.layout_semantics.specs.Rectangles.{Frame, content_top, shifted}
use Rattle.layout_semantics.specs.Verticals.{verticals}
use Rattle.layout_semantics.specs.Horizontal.{widths}
use Rattle.layout_semantics.specs.FlowBoxes.{inline_size, is_replaced_at, is_context_root, is_open_above, flow_children, content_from}
use Rattle.layout_semantics.specs.InlineContent.{is_floated_at, has_line, inner_boxes}
use Rattle.layout_semantics.specs.LineHeights.{InlineContext}
use Rattle.layout_semantics.specs.Lines.{LineList, lines_in}
use Rattle.layout_semantics.specs.Leads.{Leading, is_up_to, none_passed, lead}
use Rattle.layout_semantics.specs.Clearance.{Base, hangs, stands, Ground, on_ground, Resolved, with_waiting, is_cleared, cleared_edge, resolve_step, resolve_to, resolve}
use Rattle.layout_semantics.specs.Flow.{Standing, at_top, below, Cleared, Progress, Independent, Reached, Laid, fresh, opened, independent, waiting_size, ground_of, next_edge, after_float, float_child, reached_at, reached, laid, child, standing_after, inner_size, entry_boxes, after_lines, line_content, flow_step, flow_to, flow}
use Rattle.layout_semantics.proofs.Pages.{forest}
use Rattle.layout_laws.proofs.Levels.{IsFrom, All-implied, map-same, inner_boxes-from}
use Rattle.layout_laws.proofs.WholeLines.{shown, content-shown}
use Rattle.layout_laws.proofs.LeadLevels.{EndsWell, children-from, lead-leads}
use Rattle.layout_laws.proofs.Flowing.{frame_of}

-- ---- where a box stands, by the sizes of the floats that wait

module _ (tree : BoxTree) (w : World) (one other : Waiting ℤ → Extent ℤ) (b : ℕ) (l : b < length tree.boxes)
    (same : (f : Waiting ℤ) → IsFrom tree.boxes (suc b) f.at → one f ≡ other f) where
  with_waiting-same : (fs : List (Waiting ℤ)) (floats : List FloatBox) (least : Option ℤ) (y : ℤ) → AllByRecursion (λ (f : Waiting ℤ). IsFrom tree.boxes (suc b) f.at) fs
      → with_waiting tree one fs floats least y ≡ with_waiting tree other fs floats least y
  with_waiting-same [] floats least y a = refl
  with_waiting-same (f ∷ fs) floats least y a =
      ap (λ (size : Extent ℤ). with_waiting tree one fs (with_float (floating tree f.at size f.cb) floats least y) least y) (same f a.0)
      ∙ with_waiting-same fs (with_float (floating tree f.at (other f) f.cb) floats least y) least y a.1

  module _ (base : Base) (run : List ℤ) (cb : Band ℤ) (floats : List FloatBox) (least : Option ℤ) where
    abbrev ground : (Waiting ℤ → Extent ℤ) → Ground
    ground size = on_ground tree w size base floats least

    abbrev Same : ℕ → (ℕ → Bool) → Type 0
    Same n passed =
        resolve_step (ground one) run (λ d. resolve_to (ground one) run cb b n (is_up_to d)) (lead tree w passed cb b)
        ≡ resolve_step (ground other) run (λ d. resolve_to (ground other) run cb b n (is_up_to d)) (lead tree w passed cb b)

    pub resolve-same : (n : ℕ) (passed : ℕ → Bool) → resolve_to (ground one) run cb b n passed ≡ resolve_to (ground other) run cb b n passed
    unfolding resolve_to
    resolve-same zero passed = refl
    resolve-same (suc n) passed = by_end found.end refl (λ d. resolve-same n (is_up_to d))
      where
        found : Leading
        found = lead tree w passed cb b

        waits : (y : ℤ) → with_waiting tree one found.waiting floats least y ≡ with_waiting tree other found.waiting floats least y
        waits y = with_waiting-same found.waiting floats least y (lead-leads tree w passed cb b l).waits

        cleared-same : (d : ℕ) → is_cleared (ground one) run found d ≡ is_cleared (ground other) run found d
        cleared-same d = rw (waits _) refl

        edge-same : (d : ℕ) → cleared_edge (ground one) run found d ≡ cleared_edge (ground other) run found d
        edge-same d = rw (waits _) refl

        by_clearance : (d : ℕ) (c : Bool) → found.end ≡ of_end.Cleared d → is_cleared (ground other) run found d ≡ c
            → resolve_to (ground one) run cb b n (is_up_to d) ≡ resolve_to (ground other) run cb b n (is_up_to d) → Same n passed
        by_clearance d true e c again = rw (e, cleared-same d, c, edge-same d) refl
        by_clearance d false e c again = rw (e, cleared-same d, c) again

        by_end : (end : LeadEnd) → found.end ≡ end → ((d : ℕ) → resolve_to (ground one) run cb b n (is_up_to d) ≡ resolve_to (ground other) run cb b n (is_up_to d)) → Same n passed
        by_end of_end.Through e again = rw e refl
        by_end (of_end.Solid d) e again = rw e refl
        by_end (of_end.Cleared d) e again = by_clearance d (is_cleared (ground other) run found d) e refl (again d)

-- ---- levels enough to find where a box stands

module _ (g : Ground) (run : List ℤ) (cb : Band ℤ) (b : ℕ) (l : b < length g.tree.boxes) where
  step-same : (go on : ℕ → Resolved) (passed : ℕ → Bool) → ((d : ℕ) → d < length g.tree.boxes → passed d ≡ false → go d ≡ on d)
      → resolve_step g run go (lead g.tree g.world passed cb b) ≡ resolve_step g run on (lead g.tree g.world passed cb b)
  step-same go on passed same = by_end found.end refl
    where
      found : Leading
      found = lead g.tree g.world passed cb b

      by_clearance : (d : ℕ) (c : Bool) → found.end ≡ of_end.Cleared d → is_cleared g run found d ≡ c → go d ≡ on d
          → resolve_step g run go found ≡ resolve_step g run on found
      by_clearance d true e c again = rw (e, c) refl
      by_clearance d false e c again = rw (e, c) again

      by_end : (end : LeadEnd) → found.end ≡ end → resolve_step g run go found ≡ resolve_step g run on found
      by_end of_end.Through e = rw e refl
      by_end (of_end.Solid d) e = rw e refl
      by_end (of_end.Cleared d) e =
          let ends = subst (EndsWell g.tree g.world passed) e (lead-leads g.tree g.world passed cb b l).ends in
          by_clearance d (is_cleared g run found d) e refl (same d ends.0 ends.1)

  resolve-enough : (n m d : ℕ) → d < length g.tree.boxes → length g.tree.boxes ≤ n + d → length g.tree.boxes ≤ m + d
      → resolve_to g run cb b n (is_up_to d) ≡ resolve_to g run cb b m (is_up_to d)
  unfolding resolve_to
  resolve-enough zero m d k p q = absurd (omega arith)
  resolve-enough (suc n) zero d k p q = absurd (omega arith)
  resolve-enough (suc n) (suc m) d k p q =
      step-same (λ e. resolve_to g run cb b n (is_up_to e)) (λ e. resolve_to g run cb b m (is_up_to e)) (is_up_to d)
      (λ e within past. let later = after e d past in resolve-enough n m e within (omega arith) (omega arith))
    where
      after : (e d : ℕ) → nat_le e d ≡ false → d < e
      after e d h = grind (arith, nat_tests)

  pub resolve-is : (passed : ℕ → Bool) → resolve g run cb b passed ≡ resolve_step g run (λ d. resolve g run cb b (is_up_to d)) (lead g.tree g.world passed cb b)
  unfolding resolve_to
  resolve-is passed =
      step-same (λ e. resolve_to g run cb b (length g.tree.boxes) (is_up_to e)) (λ e. resolve g run cb b (is_up_to e)) passed
      (λ d within past. resolve-enough (length g.tree.boxes) (suc (length g.tree.boxes)) d within (omega arith) (omega arith))

-- ---- the flow, by that of later boxes

abbrev Inside : Type 0
Inside = ℕ → Band ℤ → ℤ → Progress → Progress

module _ (tree : BoxTree) (w : World) (f g : Inside) (b : ℕ)
    (same : (k : ℕ) → IsFrom tree.boxes (suc b) k → (cb : Band ℤ) (top : ℤ) (p : Progress) → f k cb top p ≡ g k cb top p) where
  abbrev Late : ℕ → Type 0
  Late k = IsFrom tree.boxes (suc b) k

  abbrev independent_frame : ℕ → ℤ → Frame
  independent_frame k room = record { x = widths tree w k room; v = verticals tree w k room; corner = record { x = (widths tree w k room).margin_left; y = (verticals tree w k room).margin_top } }

  independent-same : (k : ℕ) (room : ℤ) → Late k → independent tree w f k room ≡ independent tree w g k room
  independent-same k room h = by (is_replaced_at tree k) refl
    where
      by : (r : Bool) → is_replaced_at tree k ≡ r → independent tree w f k room ≡ independent tree w g k room
      by true e = rw e refl
      by false e = rw (e, same k h (content_from (pos 0) (widths tree w k room)) (content_top (independent_frame k room)) (fresh (content_top (independent_frame k room)))) refl

  float-same : (cb : Band ℤ) (top : ℤ) (p : Progress) (k : ℕ) → Late k → float_child tree w f cb top p k ≡ float_child tree w g cb top p k
  float-same cb top p k h = ap (after_float tree w g cb p k (int_max top (next_edge p.standing))) (independent-same k (inline_size cb) h)

  size-same : (k : ℕ) → Late k → (x : Waiting ℤ) → IsFrom tree.boxes (suc k) x.at → waiting_size tree w f x ≡ waiting_size tree w g x
  size-same k h x i = ap (λ (a : Independent). a.size) (independent-same x.at (inline_size x.cb) (record { from = let low = h.from in let high = i.from in omega arith; within = i.within }))

  abbrev resolved : Inside → Base → List ℤ → Band ℤ → Progress → ℕ → (ℕ → Bool) → Resolved
  resolved inside base run cb p k passed = resolve (ground_of tree w inside base p) run cb k passed

  resolved-same : (base : Base) (run : List ℤ) (cb : Band ℤ) (p : Progress) (k : ℕ) (passed : ℕ → Bool) → Late k → resolved f base run cb p k passed ≡ resolved g base run cb p k passed
  resolved-same base run cb p k passed h =
      resolve-same tree w (waiting_size tree w f) (waiting_size tree w g) k h.within (size-same k h) base run cb p.floats p.least (suc (length tree.boxes)) passed

  reached_at-same : (cb : Band ℤ) (p : Progress) (k : ℕ) (y : ℤ) (cleared : Cleared) → Late k → reached_at tree w f cb p k y cleared ≡ reached_at tree w g cb p k y cleared
  reached_at-same cb p k y None h = refl
  reached_at-same cb p k y (Some c) h = ap (λ (r : Resolved). matched r (c.0 == k)) (resolved-same (stands c.1) [] cb p k (is_up_to k) h)
    where
      matched : Resolved → Bool → Reached
      matched r true = record { top = c.1; clears = true; cleared = r.cleared }
      matched r false = record { top = y; clears = false; cleared = Some c }

  reached-same : (cb : Band ℤ) (p : Progress) (k : ℕ) → Late k → reached tree w f cb p k ≡ reached tree w g cb p k
  reached-same cb p k h = by p.standing refl
    where
      by : (s : Standing) → p.standing ≡ s → reached tree w f cb p k ≡ reached tree w g cb p k
      by (at_top y cleared) e = rw e (reached_at-same cb p k y cleared h)
      by (below edge run stuck) e =
          let r = resolved g (hangs edge) run cb p k none_passed in
          rw e (ap (λ (r : Resolved). reached_at tree w f cb p k (edge +ℤ collapsed (run ++ r.margins)) r.cleared) (resolved-same (hangs edge) run cb p k none_passed h)
          ∙ reached_at-same cb p k (edge +ℤ collapsed (run ++ r.margins)) r.cleared h)

  laid-same : (cb : Band ℤ) (p : Progress) (k : ℕ) (r : Reached) → Late k → laid tree w f cb p k r ≡ laid tree w g cb p k r
  laid-same cb p k r h = by (is_replaced_at tree k) (is_context_root tree k) (is_open_above tree k) refl refl refl
    where
      frame : Frame
      frame = frame_of tree w cb k r

      by : (replaced context opens : Bool) → is_replaced_at tree k ≡ replaced → is_context_root tree k ≡ context → is_open_above tree k ≡ opens → laid tree w f cb p k r ≡ laid tree w g cb p k r
      by true context opens d e o = rw d refl
      by false true opens d e o = rw (d, e, same k h (content_from cb.left frame.x) (content_top frame) (fresh (content_top frame))) refl
      by false false true d e o = rw (d, e, o, same k h (content_from cb.left frame.x) (content_top frame) (opened tree w f p frame (at_top frame.corner.y r.cleared))) refl
      by false false false d e o = rw (d, e, o, same k h (content_from cb.left frame.x) (content_top frame) (opened tree w f p frame (below (content_top frame) [] false))) refl

  child-same : (cb : Band ℤ) (top : ℤ) (p : Progress) (k : ℕ) → Late k → child tree w f cb top p k ≡ child tree w g cb top p k
  child-same cb top p k h = by (is_floated_at tree k) refl
    where
      by : (x : Bool) → is_floated_at tree k ≡ x → child tree w f cb top p k ≡ child tree w g cb top p k
      by true e = rw e (float-same cb top p k h)
      by false e =
          let r = reached tree w g cb p k in
          rw e (ap (λ (r : Reached). record (laid tree w f cb p k r).after { standing = standing_after tree w f cb p.standing k r (laid tree w f cb p k r) }) (reached-same cb p k h)
          ∙ ap (λ (l : Laid). record l.after { standing = standing_after tree w g cb p.standing k r l }) (laid-same cb p k r h))

  children-same : (cb : Band ℤ) (top : ℤ) (p : Progress) (ks : List ℕ) → AllByRecursion Late ks → fold (child tree w f cb top) p ks ≡ fold (child tree w g cb top) p ks
  children-same cb top p [] a = refl
  children-same cb top p (k ∷ ks) a =
      ap (λ (q : Progress). fold (child tree w f cb top) q ks) (child-same cb top p k a.0)
      ∙ children-same cb top (child tree w g cb top p k) ks a.1

  -- ---- lines

  inner-same : (cb : Band ℤ) (k : ℕ) → Late k → inner_size tree w f cb k ≡ inner_size tree w g cb k
  inner-same cb k h = rw (independent-same k (inline_size cb) h) refl

  abbrev LateEntry : Entry ℤ → Type 0
  LateEntry (of_entry.Here p) = Unit {0}
  LateEntry (of_entry.Goes k at) = Late k

  abbrev LateName : Kind × ℕ → Type 0
  LateName x = Late x.1

  abbrev of_box : ℕ → List (Kind × ℕ)
  of_box k = (of_kind.Block, k) ∷ []

  names-late : (ks : List ℕ) → AllByRecursion Late ks → AllByRecursion LateName (flat_map of_box ks)
  names-late [] a = tt
  names-late (k ∷ ks) a = (a.0, names-late ks a.1)

  entries-late : (es : List (Entry ℤ)) → AllByRecursion LateName (flat_map (shown of_box) es) → AllByRecursion LateEntry es
  entries-late [] a = tt
  entries-late (of_entry.Here p ∷ es) a = (tt, entries-late es (all_parts LateName (shown of_box (of_entry.Here p)) (flat_map (shown of_box) es) a).1)
  entries-late (of_entry.Goes k at ∷ es) a = (a.0, entries-late es a.1)

  boxes-same : (cb : Band ℤ) (es : List (Entry ℤ)) → AllByRecursion LateEntry es → flat_map (entry_boxes tree w f cb) es ≡ flat_map (entry_boxes tree w g cb) es
  boxes-same cb [] a = refl
  boxes-same cb (of_entry.Here p ∷ es) a = ap (λ (l : List (Placed ℤ)). p ∷ l) (boxes-same cb es a.1)
  boxes-same cb (of_entry.Goes k at ∷ es) a =
      ap (λ (x : Independent). shifted at x.boxes ++ flat_map (entry_boxes tree w f cb) es) (independent-same k (inline_size cb) a.0)
      ∙ ap (λ (l : List (Placed ℤ)). shifted at (independent tree w g k (inline_size cb)).boxes ++ l) (boxes-same cb es a.1)

  abbrev sized : (ℕ → Band ℤ → ℤ → Progress → Progress) → Band ℤ → ℕ → ℕ × Inner ℤ
  sized inside cb k = (k, inner_size tree w inside cb k)

  abbrev context_with : Band ℤ → List (ℕ × Inner ℤ) → InlineContext
  context_with cb inner = record { tree = tree; world = w; container = b; inner = table_of (length tree.boxes) inner; cb = cb }

  abbrev set : Band ℤ → ℤ → Progress → List (ℕ × Inner ℤ) → LineList
  set cb top p inner = lines_in (context_with cb inner) top (unwrap_or p.least top) p.floats

  lines-same : (cb : Band ℤ) (top : ℤ) (p : Progress) → line_content tree w f b cb top p ≡ line_content tree w g b cb top p
  lines-same cb top p =
      let inner = map (sized g cb) (inner_boxes tree b) in
      let late = entries-late (set cb top p inner).entries
      (subst (AllByRecursion LateName) (sym (content-shown of_box (context_with cb inner) top (unwrap_or p.least top) p.floats)) (names-late (inner_boxes tree b) (inner_boxes-from tree b (forest tree)))) in
      ap (λ (inner : List (ℕ × Inner ℤ)). after_lines tree w f cb p (set cb top p inner)) (map-same (sized f cb) (sized g cb) (inner_boxes tree b)
      (All-implied Late (λ k. sized f cb k ≡ sized g cb k) (inner_boxes tree b) (λ k h. ap (λ (i : Inner ℤ). (k, i)) (inner-same cb k h)) (inner_boxes-from tree b (forest tree))))
      ∙ ap (λ (boxes : List (Placed ℤ)). record (after_lines tree w g cb p (set cb top p inner)) { boxes = p.boxes ++ boxes }) (boxes-same cb (set cb top p inner).entries late)

  pub step-flow-same : (cb : Band ℤ) (top : ℤ) (p : Progress) → flow_step tree w f b cb top p ≡ flow_step tree w g b cb top p
  step-flow-same cb top p = by (has_line tree b) refl
    where
      by : (x : Bool) → has_line tree b ≡ x → flow_step tree w f b cb top p ≡ flow_step tree w g b cb top p
      by true e = rw e (lines-same cb top p)
      by false e = rw e (children-same cb top p (flow_children tree b) (children-from tree b))

-- ---- enough levels

module _ (tree : BoxTree) (w : World) where
  flow-enough : (n m b : ℕ) (cb : Band ℤ) (top : ℤ) (p : Progress) → b < length tree.boxes → length tree.boxes ≤ n + b → length tree.boxes ≤ m + b → flow_to tree w n b cb top p ≡ flow_to tree w m b cb top p
  unfolding flow_to
  flow-enough zero m b cb top p l i j = absurd (omega arith)
  flow-enough (suc n) zero b cb top p l i j = absurd (omega arith)
  flow-enough (suc n) (suc m) b cb top p l i j =
      step-flow-same tree w (flow_to tree w n) (flow_to tree w m) b (λ k h cb top p. let after = h.from in flow-enough n m k cb top p h.within (omega arith) (omega arith)) cb top p

  pub flow-is : (b : ℕ) (cb : Band ℤ) (top : ℤ) (p : Progress) → b < length tree.boxes → flow tree w b cb top p ≡ flow_step tree w (flow tree w) b cb top p
  unfolding flow_to
  flow-is b cb top p l = flow-enough (length tree.boxes) (suc (length tree.boxes)) b cb top p l (omega arith) (omega arith)
