-- The steps of the flow, one level of the tree at a time, are normal flow.
use Rattle.std.proofs.Common.{◌≡◌, ℕ, suc, ◌<◌, ℤ, pos, ◌+ℤ◌, ◌-ℤ◌, Bool, true, false, ◌&&◌, ◌==◌, IsTrue, List, [], ◌∷◌, ◌++◌, map, filter, fold, flat_map, cond, ◌≤◌, length, unwrap_or, Option, None, Some, refl, sym, ap, ◌∙◌, subst, arith, append_assoc, append-nil}
use Rattle.std.proofs.Math.Path.{fun_ext}
use Rattle.std.proofs.lemmas.Bool.Decides.{nat_tests}
use Rattle.std.specs.Int.{int_max}
use Rattle.std.specs.List.{AllByRecursion}
use Rattle.std.specs.Option.{option_or}
use Rattle.viz_base.specs.declared.layouts.Band.{Band}
use Rattle.viz_base.specs.declared.layouts.Entry.{Entry}
use Rattle.viz_base.specs.declared.layouts.Entry.TheVariants as of_entry
use Rattle.viz_base.specs.declared.layouts.Extent.{Extent}
use Rattle.viz_base.specs.declared.layouts.Inner.{Inner}
use Rattle.viz_base.specs.declared.layouts.Waiting.{Waiting}
use Rattle.viz_base.specs.declared.renderings.Placed.{Placed}
use Rattle.viz_base.specs.declared.trees.BoxTree.{BoxTree}
use Rattle.viz_base.specs.declared.trees.Kind.{Kind}
use Rattle.viz_base.specs.declared.trees.Kind.TheVariants as of_kind
use Rattle.viz_base.specs.declared.worlds.World.{World}
use Rattle.viz_base.specs.Trees.{is_inline}
use Rattle.viz_base.proofs.ListLemmas.{all_parts}
use Rattle.layout_semantics.specs.Blocks.{kind_of}
use Rattle.layout_semantics.specs.Order.{IsOnPage}
use Rattle.layout_semantics.specs.Horizontal.{widths}
use Rattle.layout_semantics.specs.Lists.{table_of}
use Rattle.layout_semantics.specs.Extremes.{greatest_from}
use Rattle.layout_semantics.specs.Floats.{FloatBox}
use Rattle.layout_semantics.specs.Rectangles.{Frame, content_top, placed_box, shifted}
use Rattle.layout_semantics.specs.FlowBoxes.{is_replaced_at, is_context_root, is_open_above, may_collapse_through, joins_last_child, flow_children, inline_size, content_from, room}
use Rattle.layout_semantics.specs.InlineContent.{is_floated_at, has_line, inner_boxes}
use Rattle.layout_semantics.specs.Leads.{none_passed, all_passed, is_up_to, bottom_margin}
use Rattle.layout_semantics.specs.Leads.{lead as landed_lead}
use Rattle.layout_semantics.specs.Lengths.{own}
use Rattle.layout_semantics.specs.Lines.{LineList, lines_in}
use Rattle.layout_semantics.specs.Clearance.{Base, hangs, stands, on_ground, resolve}
use Rattle.layout_semantics.specs.Flow as landed
use Rattle.layout_semantics.specs.Flow.{Cleared, Independent, Reached, Progress, raised, content_height}
use Rattle.layout_laws.proofs.Levels.{IsFrom, All-implied, map-same}
use Rattle.layout_laws.proofs.WholeLines.{shown, content-shown}
use Rattle.layout_laws.proofs.LeadLevels.{children-from}
use Rattle.lay_margin.specs.declared.runs.Run.{Run}
use Rattle.lay_margin.specs.Runs.{no_run, with_margin, collapse, joined_all}
use Rattle.lay_margin.specs.steps.Leads.{Going, lead_of, enters, stops, inner_band, margin_below}
use Rattle.lay_margin.proofs.Joined.{joined-run, lead-joined}
use Rattle.lay_steps.specs.Order.{is_before}
use Rattle.lay_steps.specs.Runs.{run_of}
use Rattle.lay_steps.specs.Forward.{Found, goes_on, cleared_of, forward}
use Rattle.lay_steps.specs.Progress.{squeezed, context_of}
use Rattle.lay_steps.specs.Flow.{Standing, at_top, below, Context, fresh, Step, step, next_edge, is_at_top, Laid, Met, context_height, block_height, joined_run, standing_in, opened, left, closed, whole, children, line_tops, after_lines, frame_of, corner_of, replaced_of, root_of, block_of, standing_after, laid_replaced, laid_context, laid_block, laid, replaced_independent, context_independent, independent, size_in, forward_of, reached_from, reached_of, float_of, inner_size, entry_of, inner_table, lines_of, in_lines, flow_child, child, content_step}
use Rattle.lay_steps.specs.Tables.{outside_of}
use Rattle.lay_steps.proofs.Passed.{all-passed}
use Rattle.lay_steps.proofs.Through.{way-on}
use Rattle.lay_steps.proofs.StepCases.{met-itself, met-other, met-top, met-below, lays-replaced, lays-context, lays-block, independent-replaced, independent-context, child-float, child-flow, step-lines, step-children}
use Rattle.lay_steps.proofs.TopStays.{IsOther, IsTopFree, itself, before-below, goes-through}
use Rattle.lay_steps.proofs.Decided.{stops-not}
use Rattle.lay_steps.proofs.Sizes.{sizes-alike}
use Rattle.lay_steps.proofs.Sound.{IsSound, IsFlowKid, enters-no-line, inner_boxes-sound, flow-sound, lead-sound}
use Rattle.lay_steps.proofs.Resolved.{IsFoundBy, none-prefix, up-prefix, resolve-found}

-- ---- runs

pub run-append : (margins more : List ℤ) → run_of (margins ++ more) ≡ joined_all (run_of margins) more
run-append margins more =
    let r = joined-run (run_of margins) margins more (record { greatest = refl; least = refl }) in
    let g = r.greatest in
    let l = r.least in
    λ i. record { pos = sym g i; neg = sym l i }

run-last : (margins : List ℤ) (m : ℤ) → run_of (margins ++ m ∷ []) ≡ with_margin (run_of margins) m
run-last margins m = run-append margins (m ∷ [])

-- ---- how far the flow has come

-- what a step leaves, by what it adds
pub record Follows (before end : Progress) (q : Step) : Type 0 where
  pub context : context_of end ≡ q.context
  pub boxes : end.boxes ≡ before.boxes ++ q.boxes

edge-same : (s : landed.Standing) → landed.next_edge s ≡ next_edge (squeezed s)
edge-same (landed.at_top y cleared) = refl
edge-same (landed.below edge run stuck) = refl

-- a box that comes below a run of margins
pub below-found : (tree : BoxTree) (w : World) (size : Waiting ℤ → Extent ℤ) (floats : List FloatBox) (least : Option ℤ) (k end : ℕ) → k < length tree.boxes → IsTrue (is_before tree.boxes k end)
    → (cb : Band ℤ) (edge : ℤ) (run : List ℤ)
    → IsFoundBy (run_of run) (resolve (on_ground tree w size (hangs edge) floats least) run cb k none_passed) (forward (on_ground tree w size (hangs edge) floats least) none_passed cb k (run_of run))
below-found tree w size floats least k end within order cb edge run =
    resolve-found tree w size (hangs edge) floats least run (run_of run) (λ more. ap (λ (r : Run ℤ). edge +ℤ collapse r) (run-append run more)) cb k end within order none_passed none-prefix

module _ (tree : BoxTree) (w : World) where
  top-same : (s : landed.Standing) → landed.is_at_top tree w s ≡ is_at_top (squeezed s)
  top-same (landed.at_top y cleared) = refl
  top-same (landed.below edge run stuck) = refl

  height-same : (j : Bool) (top : ℤ) (s : landed.Standing) → landed.block_height tree w j top s ≡ block_height j top (squeezed s)
  height-same true top (landed.at_top y cleared) = refl
  height-same false top (landed.at_top y cleared) = refl
  height-same true top (landed.below edge run true) = refl
  height-same true top (landed.below edge run false) = refl
  height-same false top (landed.below edge run stuck) = refl

  joined-same : (j : Bool) (s : landed.Standing) → run_of (landed.joined_run tree w j s) ≡ joined_run j (squeezed s)
  joined-same true (landed.at_top y cleared) = refl
  joined-same false (landed.at_top y cleared) = refl
  joined-same true (landed.below edge run true) = refl
  joined-same true (landed.below edge run false) = refl
  joined-same false (landed.below edge run stuck) = refl

  context-same : (top : ℤ) (p : Progress) → landed.context_height tree w top p ≡ context_height top (context_of p)
  unfolding context_height
  context-same top p = ap (λ (e : ℤ). greatest_from (pos 0) (map (λ y. y -ℤ top) (e ∷ map (λ (f : FloatBox). f.box.bottom) p.floats))) (edge-same p.standing)

  -- the band that a box gives those in it, its margin edge being at `left` in a containing block so wide
  abbrev pub band_in : ℤ → ℕ → ℤ → Band ℤ
  band_in left b wide = content_from left (widths tree w b wide)

  -- ---- a box in coordinates of its own

  pub independent-same : (inside : ℕ → Band ℤ → ℤ → Progress → Progress) (content : ℕ → Band ℤ → ℤ → Context → Step) (b : ℕ) (wide : ℤ)
      → ((top : ℤ) → Follows (landed.fresh top) (inside b (band_in (pos 0) b wide) top (landed.fresh top)) (content b (band_in (pos 0) b wide) top (fresh top)))
      → landed.independent tree w inside b wide ≡ independent tree w content b wide
  unfolding replaced_independent context_independent corner_of replaced_of root_of
  independent-same inside content b wide again = by (is_replaced_at tree b) refl
    where
      f : Frame
      f = corner_of tree w b wide

      top : ℤ
      top = content_top f

      end : Progress
      end = inside b (content_from (pos 0) f.x) top (landed.fresh top)

      q : Step
      q = content b (content_from (pos 0) f.x) top (fresh top)

      by : (r : Bool) → is_replaced_at tree b ≡ r → landed.independent tree w inside b wide ≡ independent tree w content b wide
      by true e =
          let first : landed.independent tree w inside b wide ≡ replaced_independent tree w b wide f = rw e refl in
          first ∙ sym (independent-replaced tree w content b wide e)
      by false e =
          let follows : Follows (landed.fresh top) end q = again top in
          let first : landed.independent tree w inside b wide ≡ whole (placed_box tree b f (content_height tree w b (landed.context_height tree w top end))) end.baseline end.boxes = rw e refl in
          first
          ∙ ap (λ (h : ℤ). whole (placed_box tree b f (content_height tree w b h)) end.baseline end.boxes) (context-same top end)
          ∙ ap (λ (c : Context). whole (root_of tree w b f c) c.baseline end.boxes) follows.context
          ∙ ap (whole (root_of tree w b f q.context) q.context.baseline) follows.boxes
          ∙ sym (independent-context tree w content b wide e)

  -- ---- one level: `inside` and `content` lay out what is in a box behind this one, and `apart` holds what stands outside the flow

  module _ (inside : ℕ → Band ℤ → ℤ → Progress → Progress) (content : ℕ → Band ℤ → ℤ → Context → Step) (apart : ℕ → Independent) (low : ℕ)
      (again : (k : ℕ) (left wide top : ℤ) (p : Progress) → suc low ≤ k → IsSound tree w k wide → Follows p (inside k (band_in left k wide) top p) (content k (band_in left k wide) top (context_of p)))
      (served : (c : ℕ) → low ≤ c → IsOnPage tree.boxes c → is_inline (kind_of tree c) ≡ false → AllByRecursion (λ k. landed.independent tree w inside k (room tree w k) ≡ apart k) (outside_of tree c))
      (tops : (k : ℕ) → suc low ≤ k → k < length tree.boxes → IsTopFree tree w apart content k) where
    abbrev IsServed : ℕ → Type 0
    IsServed k = landed.independent tree w inside k (room tree w k) ≡ apart k

    wide-served : (k : ℕ) (wide : ℤ) → IsSound tree w k wide → IsServed k → landed.independent tree w inside k wide ≡ apart k
    wide-served k wide s e = ap (landed.independent tree w inside k) s.room ∙ e

    passed : (P : ℕ → Type 0) (test : ℕ → Bool) (ks : List ℕ) → AllByRecursion P (filter test ks) → AllByRecursion (λ k. test k ≡ true → P k) ks
    passed P test [] a = tt
    passed P test (k ∷ ks) a = by (test k) refl (λ b. passed P test ks b)
      where
        held : (t : Bool) → test k ≡ t → AllByRecursion P (cond t (k ∷ filter test ks) (filter test ks))
        held t e = subst (λ (x : Bool). AllByRecursion P (cond x (k ∷ filter test ks) (filter test ks))) e a

        by : (t : Bool) → test k ≡ t → (AllByRecursion P (filter test ks) → AllByRecursion (λ k. test k ≡ true → P k) ks) → AllByRecursion (λ k. test k ≡ true → P k) (k ∷ ks)
        by true t rest = let b : AllByRecursion P (k ∷ filter test ks) = held true t in (λ e. b.0, rest b.1)
        by false t rest = let b : AllByRecursion P (filter test ks) = held false t in (λ e. absurd (cc), rest b)

    -- the floats between the blocks of a box without lines
    floats-served : (c : ℕ) → low ≤ c → IsOnPage tree.boxes c → is_inline (kind_of tree c) ≡ false → has_line tree c ≡ false → AllByRecursion (λ k. is_floated_at tree k ≡ true → IsServed k) (flow_children tree c)
    floats-served c l p i e = passed IsServed (is_floated_at tree) (flow_children tree c)
        (subst (λ (x : Bool). AllByRecursion IsServed (elim x as (λ _. List ℕ) [ true ↦ inner_boxes tree c | false ↦ filter (is_floated_at tree) (flow_children tree c) ])) e (served c l p i))

    -- the floats and atomic boxes of its lines
    inners-served : (c : ℕ) → low ≤ c → IsOnPage tree.boxes c → is_inline (kind_of tree c) ≡ false → has_line tree c ≡ true → AllByRecursion IsServed (inner_boxes tree c)
    inners-served c l p i e =
        subst (λ (x : Bool). AllByRecursion IsServed (elim x as (λ _. List ℕ) [ true ↦ inner_boxes tree c | false ↦ filter (is_floated_at tree) (flow_children tree c) ])) e (served c l p i)

    -- ---- sizes of the floats that wait

    abbrev SameSize : Waiting ℤ → Type 0
    SameSize f = landed.waiting_size tree w inside f ≡ size_in apart f

    pub record IsFine (cb : Band ℤ) (k : ℕ) : Type 0 where
      pub kid : IsFlowKid tree w k (inline_size cb)
      pub flow : is_floated_at tree k ≡ false
      pub above : low ≤ k

    both : (P Q R : ℕ → Type 0) (ks : List ℕ) → AllByRecursion P ks → AllByRecursion Q ks → AllByRecursion R ks → AllByRecursion (λ k. P k × Q k × R k) ks
    both P Q R [] a b c = tt
    both P Q R (k ∷ ks) a b c = ((a.0, b.0, c.0), both P Q R ks a.1 b.1 c.1)

    closes : (cb : Band ℤ) (b : ℕ) → IsFine cb b → enters tree b ≡ true
        → AllByRecursion (λ k. (is_floated_at tree k ≡ true → SameSize (record { at = k; cb = inner_band tree w cb b })) × (is_floated_at tree k ≡ false → IsFine (inner_band tree w cb b) k)) (flow_children tree b)
    unfolding size_in
    closes cb b fine i =
        let band = inner_band tree w cb b in
        let above = fine.above in
        All-implied (λ k. IsFlowKid tree w k (inline_size band) × IsFrom tree.boxes (suc b) k × (is_floated_at tree k ≡ true → IsServed k))
        (λ k. (is_floated_at tree k ≡ true → SameSize (record { at = k; cb = band })) × (is_floated_at tree k ≡ false → IsFine band k)) (flow_children tree b)
        (λ k h. (
          λ f. ap (λ (a : Independent). a.size) (wide-served k (inline_size band) h.0.sound (h.2 f)),
          λ f. record { kid = h.0; flow = f; above = let from = h.1.from in omega arith },
        ))
        (both (λ k. IsFlowKid tree w k (inline_size band)) (IsFrom tree.boxes (suc b)) (λ k. is_floated_at tree k ≡ true → IsServed k) (flow_children tree b)
        (lead-sound tree w cb b fine.kid fine.flow i) (children-from tree b)
        (floats-served b above fine.kid.sound.page fine.kid.sound.block (enters-no-line tree b i)))

    size-same : (base : Base) (floats : List FloatBox) (least : Option ℤ) (p : ℕ → Bool) (cb : Band ℤ) (k : ℕ) (run : Run ℤ) → IsFine cb k
        → forward (on_ground tree w (landed.waiting_size tree w inside) base floats least) p cb k run ≡ forward (on_ground tree w (size_in apart) base floats least) p cb k run
    size-same base floats least p cb k run fine =
        (sizes-alike tree w base floats least (landed.waiting_size tree w inside) (size_in apart) IsFine closes p (length tree.boxes) cb k run [] fine tt).same

    -- ---- floats

    float-agrees : (cb : Band ℤ) (top : ℤ) (p : Progress) (k : ℕ) → IsSound tree w k (inline_size cb) → IsServed k
        → Follows p (landed.float_child tree w inside cb top p k) (float_of tree w apart cb top (context_of p) k)
    unfolding float_of
    float-agrees cb top p k s e =
        subst (λ (q : Progress). Follows p q (float_of tree w apart cb top (context_of p) k))
        (sym (ap (λ (a : Independent). landed.after_float tree w inside cb p k (int_max top (landed.next_edge p.standing)) a) (wide-served k (inline_size cb) s e)
        ∙ ap (λ (y : ℤ). landed.after_float tree w inside cb p k (int_max top y) (apart k)) (edge-same p.standing)))
        (record { context = refl; boxes = refl })

    -- ---- where a box in flow is reached

    module _ (k end : ℕ) (within : k < length tree.boxes) (order : IsTrue (is_before tree.boxes k end)) where
      opened-same : (cb : Band ℤ) (p : Progress) (y : ℤ) → IsFine cb k
          → (resolve (on_ground tree w (landed.waiting_size tree w inside) (stands y) p.floats p.least) [] cb k (is_up_to k)).cleared
          ≡ cleared_of (forward (on_ground tree w (size_in apart) (stands y) p.floats p.least) (is_up_to k) cb k no_run).end
      opened-same cb p y fine =
          (resolve-found tree w (landed.waiting_size tree w inside) (stands y) p.floats p.least [] no_run (λ more. refl) cb k end within order (is_up_to k) (up-prefix k)).cleared
          ∙ ap (λ (f : Found). cleared_of f.end) (size-same (stands y) p.floats p.least (is_up_to k) cb k no_run fine)

      at-same : (cb : Band ℤ) (p : Progress) (y : ℤ) (cleared : Cleared) (own : Run ℤ) → IsFine cb k
          → landed.reached_at tree w inside cb p k y cleared ≡ (reached_from tree w apart cb (context_of p) k y cleared own).reached
      unfolding reached_from
      at-same cb p y None own fine = refl
      at-same cb p y (Some c) own fine = by (c.0 == k) refl
        where
          by : (m : Bool) → (c.0 == k) ≡ m → landed.reached_at tree w inside cb p k y (Some c) ≡ (reached_from tree w apart cb (context_of p) k y (Some c) own).reached
          by true e =
              let first : landed.reached_at tree w inside cb p k y (Some c) ≡ record { top = c.1; clears = true; cleared = (resolve (on_ground tree w (landed.waiting_size tree w inside) (stands c.1) p.floats p.least) [] cb k (is_up_to k)).cleared } = rw e refl in
              first
              ∙ ap (λ (o : Cleared). let r : Reached = record { top = c.1; clears = true; cleared = o } in r) (opened-same cb p c.1 fine)
              ∙ sym (ap (λ (m : Met). m.reached) (met-itself tree w apart cb (context_of p) k y c own e))
          by false e =
              let first : landed.reached_at tree w inside cb p k y (Some c) ≡ record { top = y; clears = false; cleared = Some c } = rw e refl in
              first ∙ sym (ap (λ (m : Met). m.reached) (met-other tree w apart cb (context_of p) k y c own e))

      reached-same : (cb : Band ℤ) (p : Progress) → IsFine cb k → landed.reached tree w inside cb p k ≡ (reached_of tree w apart cb (context_of p) k).reached
      reached-same cb p fine = by p.standing refl
        where
          s : Context
          s = context_of p

          by : (x : landed.Standing) → p.standing ≡ x → landed.reached tree w inside cb p k ≡ (reached_of tree w apart cb s k).reached
          by (landed.at_top y cleared) e =
              let first : landed.reached tree w inside cb p k ≡ landed.reached_at tree w inside cb p k y cleared = rw e refl in
              first ∙ at-same cb p y cleared no_run fine ∙ sym (ap (λ (m : Met). m.reached) (met-top tree w apart cb s k y cleared (ap squeezed e)))
          by (landed.below edge run stuck) e =
              let size = landed.waiting_size tree w inside in
              let r = resolve (on_ground tree w size (hangs edge) p.floats p.least) run cb k none_passed in
              let f = forward (on_ground tree w size (hangs edge) p.floats p.least) none_passed cb k (run_of run) in
              let own = (forward_of tree w apart (hangs edge) none_passed cb s k (run_of run)).run in
              let found = below-found tree w size p.floats p.least k end within order cb edge run in
              let at = λ (x : Run ℤ) (c : Cleared). (reached_from tree w apart cb s k (edge +ℤ collapse x) c own).reached in
              let first : landed.reached tree w inside cb p k ≡ landed.reached_at tree w inside cb p k (edge +ℤ collapse (run_of (run ++ r.margins))) r.cleared = rw e refl in
              first
              ∙ at-same cb p (edge +ℤ collapse (run_of (run ++ r.margins))) r.cleared own fine
              ∙ ap (at (run_of (run ++ r.margins))) found.cleared
              ∙ ap (λ (x : Run ℤ). at x (cleared_of f.end)) (run-append run r.margins ∙ found.run)
              ∙ ap (λ (f : Found). at f.run (cleared_of f.end)) (size-same (hangs edge) p.floats p.least none_passed cb k (run_of run) fine)
              ∙ sym (ap (λ (m : Met). m.reached) (met-below tree w apart cb s k edge (run_of run) stuck (ap squeezed e)))

    -- ---- a box in flow that is laid out

    pub record LaidSame (p : Progress) (l : landed.Laid) (m : Laid) : Type 0 where
      pub through : l.through ≡ m.ending.through
      pub bottom : l.bottom ≡ m.ending.bottom
      pub margins : run_of l.margins ≡ m.ending.margins
      pub after : Follows p l.after m.after

    -- a box after its content
    closed-same : (p : Progress) (f : Frame) (t s : Bool) (run : List ℤ) (own : Run ℤ) (end : Progress) (q : Step) (box placed : Placed ℤ)
        → t ≡ s → run_of run ≡ own → context_of end ≡ q.context → end.boxes ≡ q.boxes → box ≡ placed
        → LaidSame p (landed.closed tree w inside p f t run end box) (closed f s own q placed)
    closed-same p f t s run own end q box placed e r c b x = record {
      through = e;
      bottom = ap (λ (z : Placed ℤ). z.border.bottom) x;
      margins = run-last run f.v.margin_bottom ∙ ap (λ (o : Run ℤ). with_margin o f.v.margin_bottom) r;
      after = record { context = c; boxes = ap (λ (z : Placed ℤ). p.boxes ++ z ∷ end.boxes) x ∙ ap (λ (l : List (Placed ℤ)). p.boxes ++ placed ∷ l) b };
    }

    opened-as : (p : Progress) (f : Frame) (st : landed.Standing) → context_of (landed.opened tree w inside p f st) ≡ opened (context_of p) f (squeezed st)
    unfolding opened
    opened-as p f st = refl

    abbrev started : Frame → Cleared → Bool → landed.Standing
    started f cleared o = elim o as (λ _. landed.Standing) [ true ↦ landed.at_top f.corner.y cleared | false ↦ landed.below (content_top f) [] false ]

    starts-as : (k : ℕ) (f : Frame) (cleared : Cleared) → squeezed (started f cleared (is_open_above tree k)) ≡ standing_in tree k cleared f
    unfolding standing_in
    starts-as k f cleared = by (is_open_above tree k)
      where
        by : (o : Bool) → squeezed (started f cleared o) ≡ elim o as (λ _. Standing) [ true ↦ at_top f.corner.y cleared | false ↦ below (content_top f) no_run false ]
        by true = refl
        by false = refl

    block-same : (cb : Band ℤ) (p : Progress) (k : ℕ) (cleared : Cleared) (y : ℤ) → suc low ≤ k → IsSound tree w k (inline_size cb)
        → LaidSame p (landed.laid_block tree w inside cb p k cleared (frame_of tree w k (inline_size cb) cb.left y))
        (laid_block tree w content cb (context_of p) k cleared (frame_of tree w k (inline_size cb) cb.left y))
    unfolding laid_block frame_of block_of
    block-same cb p k cleared y above sound =
        subst (λ (c : Context). LaidSame p (landed.laid_block tree w inside cb p k cleared f) (ended (content k (content_from cb.left f.x) top c)))
        (opened-as p f st ∙ ap (opened (context_of p) f) (starts-as k f cleared))
        (closed-same p f (landed.is_at_top tree w end.standing && may_collapse_through tree k) (is_at_top q.context.standing && may_collapse_through tree k)
        (landed.joined_run tree w joins end.standing) (joined_run joins q.context.standing) end q
        (placed_box tree k f (content_height tree w k (landed.block_height tree w joins top end.standing))) (block_of tree w k f q.context)
        (ap (λ (b : Bool). b && may_collapse_through tree k) (top-same end.standing) ∙ ap (λ (c : Context). is_at_top c.standing && may_collapse_through tree k) follows.context)
        (joined-same joins end.standing ∙ ap (λ (c : Context). joined_run joins c.standing) follows.context)
        follows.context
        follows.boxes
        (ap (λ (h : ℤ). placed_box tree k f (content_height tree w k h)) (height-same joins top end.standing) ∙ ap (block_of tree w k f) follows.context))
      where
        f : Frame
        f = frame_of tree w k (inline_size cb) cb.left y

        joins : Bool
        joins = joins_last_child tree k

        top : ℤ
        top = content_top f

        ended : Step → Laid
        ended q = closed f (is_at_top q.context.standing && may_collapse_through tree k) (joined_run joins q.context.standing) q (block_of tree w k f q.context)

        st : landed.Standing
        st = started f cleared (is_open_above tree k)

        start : Progress
        start = landed.opened tree w inside p f st

        end : Progress
        end = inside k (content_from cb.left f.x) top start

        q : Step
        q = content k (content_from cb.left f.x) top (context_of start)

        follows : Follows start end q
        follows = again k cb.left (inline_size cb) top start above sound

    root-same : (cb : Band ℤ) (p : Progress) (k : ℕ) (y : ℤ) → suc low ≤ k → IsSound tree w k (inline_size cb)
        → LaidSame p (landed.laid_context tree w inside cb p k (frame_of tree w k (inline_size cb) cb.left y))
        (laid_context tree w content cb (context_of p) k (frame_of tree w k (inline_size cb) cb.left y))
    unfolding laid_context frame_of root_of left opened
    root-same cb p k y above sound =
        let f = frame_of tree w k (inline_size cb) cb.left y in
        let top = content_top f in
        let s = context_of p in
        let end = inside k (content_from cb.left f.x) top (landed.fresh top) in
        let q = content k (content_from cb.left f.x) top (fresh top) in
        let follows : Follows (landed.fresh top) end q = again k cb.left (inline_size cb) top (landed.fresh top) above sound in
        closed-same p f false false [] no_run
        (record (landed.opened tree w inside p f end.standing) { baseline = option_or end.baseline p.baseline; boxes = end.boxes })
        (step (left s f q.context) q.boxes)
        (placed_box tree k f (content_height tree w k (landed.context_height tree w top end))) (root_of tree w k f q.context)
        refl refl
        (ap (left s f) follows.context)
        follows.boxes
        (ap (λ (h : ℤ). placed_box tree k f (content_height tree w k h)) (context-same top end) ∙ ap (root_of tree w k f) follows.context)

    laid-same : (cb : Band ℤ) (p : Progress) (k : ℕ) (r : Reached) → suc low ≤ k → IsSound tree w k (inline_size cb) → LaidSame p (landed.laid tree w inside cb p k r) (laid tree w content cb (context_of p) k r)
    unfolding laid_replaced frame_of replaced_of opened
    laid-same cb p k r above sound = by (is_replaced_at tree k) (is_context_root tree k) refl refl
      where
        f : Frame
        f = frame_of tree w k (inline_size cb) cb.left r.top

        same : (m : Laid) → laid tree w content cb (context_of p) k r ≡ m → LaidSame p (landed.laid tree w inside cb p k r) m → LaidSame p (landed.laid tree w inside cb p k r) (laid tree w content cb (context_of p) k r)
        same m e s = subst (LaidSame p (landed.laid tree w inside cb p k r)) (sym e) s

        by : (d c : Bool) → is_replaced_at tree k ≡ d → is_context_root tree k ≡ c → LaidSame p (landed.laid tree w inside cb p k r) (laid tree w content cb (context_of p) k r)
        by true c d e = same _ (lays-replaced tree w content cb (context_of p) k r d) (rw d (record { through = refl; bottom = refl; margins = run-last [] f.v.margin_bottom; after = record { context = refl; boxes = refl } }))
        by false true d e = same _ (lays-context tree w content cb (context_of p) k r d e) (rw (d, e) (root-same cb p k r.top above sound))
        by false false d e = same _ (lays-block tree w content cb (context_of p) k r d e) (rw (d, e) (block-same cb p k r.cleared r.top above sound))

    -- ---- where the next child stands

    -- all margins of a box's lead
    lead_margins : Band ℤ → ℕ → List ℤ
    lead_margins cb k = (landed_lead tree w all_passed cb k).margins

    through-same : (cb : Band ℤ) (k : ℕ) (run : List ℤ) → k < length tree.boxes → run_of (run ++ lead_margins cb k) ≡ (lead_of tree w (is_up_to (length tree.boxes)) cb k (run_of run) []).run
    unfolding lead_margins
    through-same cb k run within = run-append run (lead_margins cb k) ∙ sym (ap (λ (g : Going). g.run) (all-passed tree w cb k (run_of run) within ∙ lead-joined tree w all_passed cb k (run_of run) []))

    -- a run with them
    abbrev IsOwn : Band ℤ → ℕ → Bool → landed.Standing → Run ℤ → Type 0
    IsOwn cb k true s own = run_of (lead_margins cb k) ≡ own
    IsOwn cb k false (landed.at_top y cleared) own = Unit {0}
    IsOwn cb k false (landed.below edge run stuck) own = run_of (run ++ lead_margins cb k) ≡ own

    standing-same : (cb : Band ℤ) (s : landed.Standing) (k : ℕ) (m : Met) (p : Progress) (l : landed.Laid) (n : Laid) → LaidSame p l n → (n.ending.through ≡ true → IsOwn cb k m.reached.clears s m.run)
        → squeezed (landed.standing_after tree w inside cb s k m.reached l) ≡ standing_after tree w cb (squeezed s) k m n.ending
    unfolding standing_after margin_below lead_margins
    standing-same cb s k m p l n same right = by l.through m.reached.clears s refl refl right
      where
        mb : ℤ
        mb = bottom_margin tree w cb k

        by : (t c : Bool) (s : landed.Standing) → l.through ≡ t → m.reached.clears ≡ c → (n.ending.through ≡ true → IsOwn cb k c s m.run)
            → squeezed (landed.standing_after tree w inside cb s k m.reached l) ≡ standing_after tree w cb (squeezed s) k m n.ending
        by false c s e f o =
            let g = sym same.through ∙ e in
            rw (e, g) (ap (λ (b : ℤ). below b (run_of l.margins) false) same.bottom ∙ ap (λ (x : Run ℤ). below n.ending.bottom x false) same.margins)
        by true true s e f o =
            let g = sym same.through ∙ e in
            let joined = o g in
            rw (e, g, f) (
            ap (λ (x : Run ℤ). below (m.reached.top -ℤ collapse (run_of (lead_margins cb k))) x true) (run-last (lead_margins cb k) mb)
            ∙ ap (λ (x : Run ℤ). below (m.reached.top -ℤ collapse x) (with_margin x mb) true) joined)
        by true false (landed.at_top y cleared) e f o = let g = sym same.through ∙ e in rw (e, g, f) refl
        by true false (landed.below edge run stuck) e f o =
            let g = sym same.through ∙ e in
            let joined = o g in
            rw (e, g, f) (ap (λ (x : Run ℤ). below edge x stuck)
            (ap run_of (sym (append_assoc run (lead_margins cb k) (mb ∷ []))) ∙ run-last (run ++ lead_margins cb k) mb ∙ ap (λ (x : Run ℤ). with_margin x mb) joined))

    -- the run of the walk forward by which a box was reached has all of its lead, where the box collapses through
    way-whole : (base : Base) (q : ℕ → Bool) (cb : Band ℤ) (s : Context) (k : ℕ) (run : List ℤ) → k < length tree.boxes
        → (forward_of tree w apart base q cb s k (run_of run)).end ≡ goes_on → run_of (run ++ lead_margins cb k) ≡ (forward_of tree w apart base q cb s k (run_of run)).run
    way-whole base q cb s k run within e =
        through-same cb k run within
        ∙ (way-on tree w (size_in apart) base s.floats s.least q (is_up_to (length tree.boxes)) (λ k l. grind (arith, nat_tests)) (length tree.boxes) cb k (run_of run) [] within e).run

    own-right : (cb : Band ℤ) (p : Progress) (k : ℕ) → k < length tree.boxes → suc low ≤ k
        → (let m = reached_of tree w apart cb (context_of p) k in (laid tree w content cb (context_of p) k m.reached).ending.through ≡ true
        → IsOwn cb k m.reached.clears p.standing m.run)
    own-right cb p k within above h = by m.reached.clears p.standing refl refl
      where
        s : Context
        s = context_of p

        m : Met
        m = reached_of tree w apart cb s k

        -- nothing stops the way by which it was reached
        on : (base : Base) (q : ℕ → Bool) (run : Run ℤ) → m.reached.cleared ≡ cleared_of (forward_of tree w apart base q cb s k run).end → (stops tree q k ≡ true → IsOther m.reached.cleared k)
            → (forward_of tree w apart base q cb s k run).end ≡ goes_on
        on base q run = goes-through tree w apart content cb s k m.reached (tops k above within) h (size_in apart) base s.floats s.least q (length tree.boxes) run []

        by : (c : Bool) (x : landed.Standing) → m.reached.clears ≡ c → p.standing ≡ x → IsOwn cb k c x m.run
        by true x e f =
            let i = itself tree w apart cb s k e in
            let not_stopped = stops-not tree (is_up_to k) k (grind (arith, nat_tests)) in
            way-whole (stands m.reached.top) (is_up_to k) cb s k [] within (on (stands m.reached.top) (is_up_to k) no_run i.ahead (λ t. absurd (cc))) ∙ sym i.run
        by false (landed.at_top y box) e f = tt
        by false (landed.below edge run stuck) e f =
            let b = before-below tree w apart cb s k edge (run_of run) stuck (ap squeezed f) e in
            way-whole (hangs edge) none_passed cb s k run within
            (on (hangs edge) none_passed (run_of run) b.ahead (λ t. subst (λ (c : Cleared). IsOther c k) (sym b.ahead) b.other)) ∙ sym b.run

    -- ---- children

    -- a child in the flow of the box
    pub record IsPlaced (cb : Band ℤ) (end k : ℕ) : Type 0 where
      pub within : k < length tree.boxes
      pub order : IsTrue (is_before tree.boxes k end)
      pub above : suc low ≤ k
      pub kid : IsFlowKid tree w k (inline_size cb)
      pub kept : is_floated_at tree k ≡ true → IsServed k

    flow-agrees : (cb : Band ℤ) (p : Progress) (k end : ℕ) → IsPlaced cb end k → is_floated_at tree k ≡ false
        → Follows p (landed.flow_child tree w inside cb p k) (flow_child tree w content apart cb (context_of p) k)
    unfolding flow_child
    flow-agrees cb p k end placed e = subst (λ (x : Progress). Follows p x (flow_child tree w content apart cb s k)) (sym (ap after reach)) agrees
      where
        s : Context
        s = context_of p

        m : Met
        m = reached_of tree w apart cb s k

        reach : landed.reached tree w inside cb p k ≡ m.reached
        reach = let above = placed.above in reached-same k end placed.within placed.order cb p (record { kid = placed.kid; flow = e; above = omega arith })

        after : Reached → Progress
        after r = record (landed.laid tree w inside cb p k r).after { standing = landed.standing_after tree w inside cb p.standing k r (landed.laid tree w inside cb p k r) }

        agrees : Follows p (after m.reached) (flow_child tree w content apart cb s k)
        agrees =
            let same = laid-same cb p k m.reached placed.above placed.kid.sound in
            let n = laid tree w content cb s k m.reached in
            let standing = standing-same cb p.standing k m p (landed.laid tree w inside cb p k m.reached) n same (own-right cb p k placed.within placed.above) in
            record {
              context = ap (λ (x : Standing). let c : Context = record (context_of (landed.laid tree w inside cb p k m.reached).after) { standing = x } in c) standing
                  ∙ ap (λ (c : Context). let d : Context = record c { standing = standing_after tree w cb s.standing k m n.ending } in d) same.after.context;
              boxes = same.after.boxes;
            }

    child-agrees : (cb : Band ℤ) (top : ℤ) (p : Progress) (k end : ℕ) → IsPlaced cb end k
        → Follows p (landed.child tree w inside cb top p k) (child tree w content apart cb top (context_of p) k)
    child-agrees cb top p k end placed = by (is_floated_at tree k) refl
      where
        by : (f : Bool) → is_floated_at tree k ≡ f → Follows p (landed.child tree w inside cb top p k) (child tree w content apart cb top (context_of p) k)
        by true e = subst (Follows p (landed.child tree w inside cb top p k)) (sym (child-float tree w content apart cb top (context_of p) k e)) (rw e (float-agrees cb top p k placed.kid.sound (placed.kept e)))
        by false e = subst (Follows p (landed.child tree w inside cb top p k)) (sym (child-flow tree w content apart cb top (context_of p) k e)) (rw e (flow-agrees cb p k end placed e))

    children-agree : (cb : Band ℤ) (top : ℤ) (end : ℕ) (ks : List ℕ) (p : Progress) → AllByRecursion (IsPlaced cb end) ks
        → Follows p (fold (landed.child tree w inside cb top) p ks) (children (child tree w content apart cb top) (context_of p) ks)
    children-agree cb top end [] p a = record { context = refl; boxes = sym (append-nil p.boxes) }
    children-agree cb top end (k ∷ ks) p a =
        let go = child tree w content apart cb top in
        let next = landed.child tree w inside cb top p k in
        let q = go (context_of p) k in
        let first : Follows p next q = child-agrees cb top p k end a.0 in
        let rest : Follows next (fold (landed.child tree w inside cb top) next ks) (children go (context_of next) ks) = children-agree cb top end ks next a.1 in
        let moved = ap (λ (c : Context). children go c ks) first.context in
        record {
          context = rest.context ∙ ap (λ (t : Step). t.context) moved;
          boxes = rest.boxes ∙ ap (λ (l : List (Placed ℤ)). l ++ (children go (context_of next) ks).boxes) first.boxes
              ∙ append_assoc p.boxes q.boxes _ ∙ ap (λ (t : Step). p.boxes ++ (q.boxes ++ t.boxes)) moved;
        }

    -- ---- lines

    inner-same : (cb : Band ℤ) (k : ℕ) → IsSound tree w k (inline_size cb) → IsServed k → landed.inner_size tree w inside cb k ≡ inner_size tree w apart k
    unfolding inner_size
    inner-same cb k s e = rw (wide-served k (inline_size cb) s e) refl

    tops-same : (e : Entry ℤ) → landed.line_tops tree w inside e ≡ line_tops e
    tops-same (of_entry.Here p) = refl
    tops-same (of_entry.Goes k at) = refl

    -- the boxes that go to a line are those of the content
    abbrev IsServedEntry : Band ℤ → Entry ℤ → Type 0
    IsServedEntry cb (of_entry.Here p) = Unit {0}
    IsServedEntry cb (of_entry.Goes k at) = landed.independent tree w inside k (inline_size cb) ≡ apart k

    abbrev IsServedName : Band ℤ → Kind × ℕ → Type 0
    IsServedName cb x = landed.independent tree w inside x.1 (inline_size cb) ≡ apart x.1

    abbrev of_box : ℕ → List (Kind × ℕ)
    of_box k = (of_kind.Block, k) ∷ []

    names-served : (cb : Band ℤ) (ks : List ℕ) → AllByRecursion (λ k. landed.independent tree w inside k (inline_size cb) ≡ apart k) ks → AllByRecursion (IsServedName cb) (flat_map of_box ks)
    names-served cb [] a = tt
    names-served cb (k ∷ ks) a = (a.0, names-served cb ks a.1)

    entries-served : (cb : Band ℤ) (es : List (Entry ℤ)) → AllByRecursion (IsServedName cb) (flat_map (shown of_box) es) → AllByRecursion (IsServedEntry cb) es
    entries-served cb [] a = tt
    entries-served cb (of_entry.Here p ∷ es) a = (tt, entries-served cb es (all_parts (IsServedName cb) (shown of_box (of_entry.Here p)) (flat_map (shown of_box) es) a).1)
    entries-served cb (of_entry.Goes k at ∷ es) a = (a.0, entries-served cb es a.1)

    boxes-same : (cb : Band ℤ) (es : List (Entry ℤ)) → AllByRecursion (IsServedEntry cb) es → flat_map (landed.entry_boxes tree w inside cb) es ≡ flat_map (entry_of tree w apart) es
    unfolding entry_of
    boxes-same cb [] a = refl
    boxes-same cb (of_entry.Here p ∷ es) a = ap (λ (l : List (Placed ℤ)). p ∷ l) (boxes-same cb es a.1)
    boxes-same cb (of_entry.Goes k at ∷ es) a =
        ap (λ (x : Independent). shifted at x.boxes ++ flat_map (landed.entry_boxes tree w inside cb) es) a.0
        ∙ ap (λ (l : List (Placed ℤ)). shifted at (apart k).boxes ++ l) (boxes-same cb es a.1)

    lines-follow : (cb : Band ℤ) (p : Progress) (l : LineList) → AllByRecursion (IsServedEntry cb) l.entries
        → Follows p (landed.after_lines tree w inside cb p l) (step (after_lines (context_of p) l) (flat_map (entry_of tree w apart) l.entries))
    lines-follow cb p l a = record {
      context = ap (λ (f : Entry ℤ → List ℤ). let c : Context = record { standing = below l.bottom no_run false; floats = l.floats; least = fold raised p.least (flat_map f l.entries); baseline = l.baseline } in c) (fun_ext tops-same);
      boxes = ap (λ (x : List (Placed ℤ)). p.boxes ++ x) (boxes-same cb l.entries a);
    }

    lines-agree : (b : ℕ) (cb : Band ℤ) (top : ℤ) (p : Progress) → AllByRecursion (λ k. IsSound tree w k (inline_size cb) × IsServed k) (inner_boxes tree b)
        → Follows p (landed.line_content tree w inside b cb top p) (in_lines tree w apart b cb top (context_of p))
    unfolding in_lines lines_of inner_table
    lines-agree b cb top p a =
        let least = unwrap_or p.least top in
        let sized = λ (k : ℕ). let pair : ℕ × Inner ℤ = (k, landed.inner_size tree w inside cb k) in pair in
        let made = λ (k : ℕ). let pair : ℕ × Inner ℤ = (k, inner_size tree w apart k) in pair in
        let inner : map sized (inner_boxes tree b) ≡ map made (inner_boxes tree b) = map-same sized made (inner_boxes tree b)
        (All-implied (λ k. IsSound tree w k (inline_size cb) × IsServed k) (λ k. sized k ≡ made k) (inner_boxes tree b)
        (λ k h. ap (λ (i : Inner ℤ). let pair : ℕ × Inner ℤ = (k, i) in pair) (inner-same cb k h.0 h.1)) a) in
        let lines = λ (i : List (ℕ × Inner ℤ)). lines_in (record { tree = tree; world = w; container = b; inner = table_of (length tree.boxes) i; cb = cb }) top least p.floats in
        let served_entries = entries-served cb (lines (map sized (inner_boxes tree b))).entries
        (subst (AllByRecursion (IsServedName cb)) (sym (content-shown of_box (record { tree = tree; world = w; container = b; inner = table_of (length tree.boxes) (map sized (inner_boxes tree b)); cb = cb }) top least p.floats))
        (names-served cb (inner_boxes tree b) (All-implied (λ k. IsSound tree w k (inline_size cb) × IsServed k) (λ k. landed.independent tree w inside k (inline_size cb) ≡ apart k) (inner_boxes tree b) (λ k h. wide-served k (inline_size cb) h.0 h.1) a))) in
        subst (λ (t : Step). Follows p (landed.line_content tree w inside b cb top p) t)
        (ap (λ (i : List (ℕ × Inner ℤ)). step (after_lines (context_of p) (lines i)) (flat_map (entry_of tree w apart) (lines i).entries)) inner)
        (lines-follow cb p (lines (map sized (inner_boxes tree b))) served_entries)

    -- ---- the content of the box

    pub step-agrees : ((k : ℕ) → k < length tree.boxes → IsTrue (is_before tree.boxes k (length tree.boxes))) → (left wide top : ℤ) (p : Progress) → IsSound tree w low wide
        → Follows p (landed.flow_step tree w inside low (band_in left low wide) top p) (content_step tree w content apart low (band_in left low wide) top (context_of p))
    step-agrees order edge wide top p sound = by (has_line tree low) refl
      where
        cb : Band ℤ
        cb = band_in edge low wide

        end : ℕ
        end = length tree.boxes

        pairs : (P Q : ℕ → Type 0) (ks : List ℕ) → AllByRecursion P ks → AllByRecursion Q ks → AllByRecursion (λ k. P k × Q k) ks
        pairs P Q [] a b = tt
        pairs P Q (k ∷ ks) a b = ((a.0, b.0), pairs P Q ks a.1 b.1)

        by : (l : Bool) → has_line tree low ≡ l → Follows p (landed.flow_step tree w inside low cb top p) (content_step tree w content apart low cb top (context_of p))
        by true e =
            let a = lines-agree low cb top p (pairs (λ k. IsSound tree w k (inline_size cb)) IsServed (inner_boxes tree low) (inner_boxes-sound tree w low edge wide sound) (inners-served low (omega arith) sound.page sound.block e)) in
            subst (Follows p (landed.flow_step tree w inside low cb top p)) (sym (step-lines tree w content apart cb top (context_of p) low e)) (rw e a)
        by false e =
            let a = children-agree cb top end (flow_children tree low) p
            (All-implied (λ k. IsFlowKid tree w k (inline_size cb) × IsFrom tree.boxes (suc low) k × (is_floated_at tree k ≡ true → IsServed k)) (IsPlaced cb end) (flow_children tree low)
            (λ k h. record { within = h.1.within; order = order k h.1.within; above = h.1.from; kid = h.0; kept = h.2 })
            (both (λ k. IsFlowKid tree w k (inline_size cb)) (IsFrom tree.boxes (suc low)) (λ k. is_floated_at tree k ≡ true → IsServed k) (flow_children tree low)
            (flow-sound tree w low edge wide sound) (children-from tree low) (floats-served low (omega arith) sound.page sound.block e))) in
            subst (Follows p (landed.flow_step tree w inside low cb top p)) (sym (step-children tree w content apart cb top (context_of p) low e)) (rw e a)
