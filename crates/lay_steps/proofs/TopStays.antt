-- A box that collapses through has a way forward that goes through: nothing in it stops the margins or is cleared.
use Rattle.std.proofs.Common.{◌≡◌, ℕ, zero, suc, ◌+◌, ◌<◌, ◌≤◌, ℤ, ◌+ℤ◌, Bool, true, false, ◌==◌, List, [], ◌∷◌, length, Option, None, Some, refl, sym, ap, ◌∙◌, subst, arith}
use Rattle.std.specs.List.{AllByRecursion}
use Rattle.std.proofs.lemmas.Bool.Decides.{nat_tests}
use Rattle.viz_base.specs.declared.layouts.Band.{Band}
use Rattle.viz_base.specs.declared.layouts.Extent.{Extent}
use Rattle.viz_base.specs.declared.layouts.Waiting.{Waiting}
use Rattle.viz_base.specs.declared.trees.BoxTree.{BoxTree}
use Rattle.viz_base.specs.declared.worlds.World.{World}
use Rattle.viz_base.proofs.Truths.{and_first, and_second}
use Rattle.layout_semantics.specs.Floats.{FloatBox}
use Rattle.layout_semantics.specs.Rectangles.{Frame, content_top}
use Rattle.layout_semantics.specs.FlowBoxes.{is_replaced_at, is_context_root, is_open_above, may_collapse_through, flow_children, inline_size, content_from}
use Rattle.layout_semantics.specs.InlineContent.{is_floated_at, has_line}
use Rattle.layout_semantics.specs.Flow.{Cleared, Independent, Reached}
use Rattle.layout_semantics.specs.Leads.{none_passed, is_up_to}
use Rattle.layout_semantics.specs.Clearance.{Base, hangs, stands}
use Rattle.layout_laws.proofs.Levels.{IsFrom}
use Rattle.layout_laws.proofs.LeadLevels.{children-from}
use Rattle.lay_margin.specs.declared.runs.Run.{Run}
use Rattle.lay_margin.specs.Runs.{no_run, with_margin, collapse}
use Rattle.lay_margin.specs.steps.Leads.{enters, stops, inner_band, margin_above, margin_below}
use Rattle.lay_steps.specs.Forward.{End, goes_on, solid, cleared, cleared_of, Found, found, then_on, decided_found, closed_found, kid_of, forward_to}
use Rattle.lay_steps.specs.Flow.{Standing, at_top, below, Context, Step, is_at_top, children, frame_of, forward_of, reached_from, reached_of, standing_in, opened, Ending, Laid, Met, laid, laid_replaced, laid_context, laid_block, standing_after, float_of, in_lines, flow_child, child, content_step, content_to}
use Rattle.lay_steps.proofs.StepCases.{stands-open, stands-parted, met-itself, met-other, met-top, met-below, lays-replaced, lays-context, lays-block, child-float, child-flow, step-lines, step-children}
use Rattle.lay_steps.proofs.LeadCases.{found-float, found-flow, closed-through, way_to, kids_way, inner_way, decision, entered, way-stops, way-enters}

-- ---- ends that a box at the top may have

-- another box than the one that is cleared
abbrev pub IsOther : Cleared → ℕ → Type 0
IsOther None d = Unit {0}
IsOther (Some c) d = (c.0 == d) ≡ false

abbrev pub IsFree : Cleared → End → Type 0
IsFree c goes_on = Unit {0}
IsFree c solid = ⊥
IsFree c (cleared d y) = IsOther c d

abbrev Free : Cleared → Found → Type 0
Free c f = IsFree c f.end

on-free : (c : Cleared) (run : Run ℤ) (ws : List (Waiting ℤ)) (end : End) (rest : Found) → IsFree c end → Free c rest → Free c (then_on (found run ws end) rest)
on-free c run ws goes_on rest a b = b
on-free c run ws solid rest a b = a
on-free c run ws (cleared d y) rest a b = a

closed-free : (tree : BoxTree) (w : World) (c : Cleared) (b : ℕ) (run : Run ℤ) (ws : List (Waiting ℤ)) (end : End) → may_collapse_through tree b ≡ true → IsFree c end → Free c (closed_found tree b (found run ws end))
closed-free tree w c b run ws goes_on m a = subst (Free c) (sym (closed-through tree w b run ws m)) tt
closed-free tree w c b run ws solid m a = a
closed-free tree w c b run ws (cleared d y) m a = a

abbrev pub IsTop : Step → Type 0
IsTop q = is_at_top q.context.standing ≡ true

module _ (tree : BoxTree) (w : World) (apart : ℕ → Independent) where
  -- whatever the run, the floats that wait and what is asked of them, the way forward through these boxes, through a
  -- child, and through what is in a box
  abbrev FreeKids : Cleared → List ℕ → Type 0
  FreeKids c ks = (size : Waiting ℤ → Extent ℤ) (base : Base) (floats : List FloatBox) (least : Option ℤ) (p : ℕ → Bool) (m : ℕ) (band : Band ℤ) (run : Run ℤ) (ws : List (Waiting ℤ))
      → Free c (kids_way tree w size base floats least p m band ks run ws)

  abbrev FreeKid : Cleared → ℕ → Type 0
  FreeKid c k = (size : Waiting ℤ → Extent ℤ) (base : Base) (floats : List FloatBox) (least : Option ℤ) (p : ℕ → Bool) (m : ℕ) (band : Band ℤ) (run : Run ℤ) (ws : List (Waiting ℤ))
      → Free c (kid_of tree w (way_to tree w size base floats least p m band) band run ws k)

  abbrev FreeWays : Cleared → ℕ → Type 0
  FreeWays c b = FreeKids c (flow_children tree b)

  -- what is in a box ends at its top only where it begins there and nothing parts its margins
  pub record IsTopFree (content : ℕ → Band ℤ → ℤ → Context → Step) (b : ℕ) : Type 0 where
    pub begun : (cb : Band ℤ) (top : ℤ) (s : Context) → IsTop (content b cb top s) → is_at_top s.standing ≡ true
    pub lines : (cb : Band ℤ) (top : ℤ) (s : Context) → IsTop (content b cb top s) → has_line tree b ≡ false
    pub free : (cb : Band ℤ) (top : ℤ) (s : Context) (y : ℤ) (c : Cleared) → s.standing ≡ at_top y c → IsTop (content b cb top s) → FreeWays c b

  enters-open : (k : ℕ) → is_open_above tree k ≡ true → has_line tree k ≡ false → enters tree k ≡ true
  unfolding enters
  enters-open k o l = rw (o, l) refl

  -- a box whose content is free
  box-free : (c : Cleared) (k : ℕ) → is_open_above tree k ≡ true → has_line tree k ≡ false → may_collapse_through tree k ≡ true → FreeWays c k
      → (size : Waiting ℤ → Extent ℤ) (base : Base) (floats : List FloatBox) (least : Option ℤ) (p : ℕ → Bool) → (stops tree p k ≡ true → IsOther c k)
      → (m : ℕ) (cb : Band ℤ) (run : Run ℤ) (ws : List (Waiting ℤ)) → Free c (way_to tree w size base floats least p m cb k run ws)
  unfolding forward_to
  box-free c k o l t free size base floats least p other zero cb run ws = tt
  box-free c k o l t free size base floats least p other (suc m) cb run ws = by (stops tree p k) (decision tree w size base floats least cb k run ws) refl refl
    where
      inner : Found
      inner = inner_way tree w size base floats least p m cb k run ws

      x : Found
      x = entered tree w size base floats least cb k run ws inner (enters tree k)

      own : Free c x
      own = subst (λ (i : Bool). Free c (entered tree w size base floats least cb k run ws inner i)) (sym (enters-open k o l))
          (closed-free tree w c k inner.run inner.waiting inner.end t (free size base floats least p m (inner_band tree w cb k) (with_margin run (margin_above tree w cb k)) ws))

      by : (s : Bool) (d : Option ℤ) → stops tree p k ≡ s → decision tree w size base floats least cb k run ws ≡ d → Free c (way_to tree w size base floats least p (suc m) cb k run ws)
      by false d e f = subst (Free c) (sym (way-enters tree w size base floats least p m cb k run ws e)) own
      by true None e f = subst (Free c) (sym (way-stops tree w size base floats least p m cb k run ws e ∙ ap (λ (d : Option ℤ). decided_found k run ws d x) f)) own
      by true (Some y) e f = subst (Free c) (sym (way-stops tree w size base floats least p m cb k run ws e ∙ ap (λ (d : Option ℤ). decided_found k run ws d x) f)) (other e)

  -- ---- where a box is reached

  -- the cleared box itself, from which the way goes on
  pub record IsItself (cb : Band ℤ) (s : Context) (k : ℕ) (m : Met) : Type 0 where
    pub ahead : m.reached.cleared ≡ cleared_of (forward_of tree w apart (stands m.reached.top) (is_up_to k) cb s k no_run).end
    pub run : m.run ≡ (forward_of tree w apart (stands m.reached.top) (is_up_to k) cb s k no_run).run

  -- another one
  pub record IsBefore (k : ℕ) (c : Cleared) (own : Run ℤ) (m : Met) : Type 0 where
    pub ahead : m.reached.cleared ≡ c
    pub run : m.run ≡ own
    pub other : IsOther c k

  -- by the cleared box ahead
  from-other : (cb : Band ℤ) (s : Context) (k : ℕ) (y : ℤ) (c : Cleared) (own : Run ℤ) (m : Met) → m ≡ reached_from tree w apart cb s k y c own → m.reached.clears ≡ false → IsBefore k c own m
  unfolding reached_from
  from-other cb s k y None own m is h = subst (IsBefore k None own) (sym is) (record { ahead = refl; run = refl; other = tt })
  from-other cb s k y (Some c) own m is h = by (c.0 == k) refl
    where
      by : (x : Bool) → (c.0 == k) ≡ x → IsBefore k (Some c) own m
      by true e = absurd (let t = sym (ap (λ (m : Met). m.reached.clears) (is ∙ met-itself tree w apart cb s k y c own e)) ∙ h in cc)
      by false e = subst (IsBefore k (Some c) own) (sym (is ∙ met-other tree w apart cb s k y c own e)) (record { ahead = refl; run = refl; other = e })

  from-itself : (cb : Band ℤ) (s : Context) (k : ℕ) (y : ℤ) (c : Cleared) (own : Run ℤ) (m : Met) → m ≡ reached_from tree w apart cb s k y c own → m.reached.clears ≡ true → IsItself cb s k m
  unfolding reached_from
  from-itself cb s k y None own m is h = absurd (let t = sym (ap (λ (m : Met). m.reached.clears) is) ∙ h in cc)
  from-itself cb s k y (Some c) own m is h = by (c.0 == k) refl
    where
      by : (x : Bool) → (c.0 == k) ≡ x → IsItself cb s k m
      by true e = subst (IsItself cb s k) (sym (is ∙ met-itself tree w apart cb s k y c own e)) (record { ahead = refl; run = refl })
      by false e = absurd (let t = sym (ap (λ (m : Met). m.reached.clears) (is ∙ met-other tree w apart cb s k y c own e)) ∙ h in cc)

  pub itself : (cb : Band ℤ) (s : Context) (k : ℕ) → (reached_of tree w apart cb s k).reached.clears ≡ true → IsItself cb s k (reached_of tree w apart cb s k)
  itself cb s k h = by s.standing refl
    where
      by : (x : Standing) → s.standing ≡ x → IsItself cb s k (reached_of tree w apart cb s k)
      by (at_top y c) e = from-itself cb s k y c no_run (reached_of tree w apart cb s k) (met-top tree w apart cb s k y c e) h
      by (below edge run stuck) e =
          let f = forward_of tree w apart (hangs edge) none_passed cb s k run in
          from-itself cb s k (edge +ℤ collapse f.run) (cleared_of f.end) f.run (reached_of tree w apart cb s k) (met-below tree w apart cb s k edge run stuck e) h

  before-top : (cb : Band ℤ) (s : Context) (k : ℕ) (y : ℤ) (c : Cleared) → s.standing ≡ at_top y c → (reached_of tree w apart cb s k).reached.clears ≡ false
      → IsBefore k c no_run (reached_of tree w apart cb s k)
  before-top cb s k y c e = from-other cb s k y c no_run (reached_of tree w apart cb s k) (met-top tree w apart cb s k y c e)

  pub before-below : (cb : Band ℤ) (s : Context) (k : ℕ) (edge : ℤ) (run : Run ℤ) (stuck : Bool) → s.standing ≡ below edge run stuck → (reached_of tree w apart cb s k).reached.clears ≡ false
      → let f = forward_of tree w apart (hangs edge) none_passed cb s k run in IsBefore k (cleared_of f.end) f.run (reached_of tree w apart cb s k)
  before-below cb s k edge run stuck e =
      let f = forward_of tree w apart (hangs edge) none_passed cb s k run in
      from-other cb s k (edge +ℤ collapse f.run) (cleared_of f.end) f.run (reached_of tree w apart cb s k) (met-below tree w apart cb s k edge run stuck e)

  -- ---- one level

  after-below : (cb : Band ℤ) (s : Standing) (k : ℕ) (m : Met) (end : Ending) → is_at_top (standing_after tree w cb s k m end) ≡ true
      → (end.through ≡ true) × (m.reached.clears ≡ false) × (standing_after tree w cb s k m end ≡ s) × (is_at_top s ≡ true)
  unfolding standing_after
  after-below cb s k m end h = by end.through m.reached.clears s refl refl h
    where
      by : (t c : Bool) (s : Standing) → end.through ≡ t → m.reached.clears ≡ c → is_at_top (standing_after tree w cb s k m end) ≡ true
          → (end.through ≡ true) × (m.reached.clears ≡ false) × (standing_after tree w cb s k m end ≡ s) × (is_at_top s ≡ true)
      by false c s e f h = absurd (let g = rw e at h in cc)
      by true true s e f h = absurd (let g = rw (e, f) at h in cc)
      by true false (at_top y box) e f h = (e, f, rw (e, f) refl, refl)
      by true false (below edge run stuck) e f h = absurd (let g = rw (e, f) at h in cc)

  module _ (content : ℕ → Band ℤ → ℤ → Context → Step) where
    -- a box that collapses through
    pub record IsThrough (k : ℕ) (r : Reached) : Type 0 where
      pub opens : is_open_above tree k ≡ true
      pub collapses : may_collapse_through tree k ≡ true
      pub lines : has_line tree k ≡ false
      pub ways : FreeWays r.cleared k

    through-by : (cb : Band ℤ) (s : Context) (k : ℕ) (r : Reached) (l : Laid) → laid tree w content cb s k r ≡ l → (laid tree w content cb s k r).ending.through ≡ true → l.ending.through ≡ true
    through-by cb s k r l e h = sym (ap (λ (x : Laid). x.ending.through) e) ∙ h

    pub laid-through : (cb : Band ℤ) (s : Context) (k : ℕ) (r : Reached) → IsTopFree content k → (laid tree w content cb s k r).ending.through ≡ true → IsThrough k r
    unfolding laid_replaced laid_context laid_block opened
    laid-through cb s k r free h = by (is_replaced_at tree k) (is_context_root tree k) (is_open_above tree k) refl refl refl
      where
        f : Frame
        f = frame_of tree w k (inline_size cb) cb.left r.top

        inner : Context
        inner = opened s f (standing_in tree k r.cleared f)

        block : (o : Bool) → is_open_above tree k ≡ o → IsTop (content k (content_from cb.left f.x) (content_top f) inner) → may_collapse_through tree k ≡ true → IsThrough k r
        block false o top m = absurd (let t = sym (ap is_at_top (stands-parted tree k r.cleared f o)) ∙ free.begun (content_from cb.left f.x) (content_top f) inner top in cc)
        block true o top m = record {
          opens = o;
          collapses = m;
          lines = free.lines (content_from cb.left f.x) (content_top f) inner top;
          ways = free.free (content_from cb.left f.x) (content_top f) inner f.corner.y r.cleared (stands-open tree k r.cleared f o) top;
        }

        by : (d c o : Bool) → is_replaced_at tree k ≡ d → is_context_root tree k ≡ c → is_open_above tree k ≡ o → IsThrough k r
        by true c o d e i = absurd (let t = through-by cb s k r _ (lays-replaced tree w content cb s k r d) h in cc)
        by false true o d e i = absurd (let t = through-by cb s k r _ (lays-context tree w content cb s k r d e) h in cc)
        by false false o d e i =
            let t = through-by cb s k r _ (lays-block tree w content cb s k r d e) h in
            block o i (and_first _ (may_collapse_through tree k) t) (and_second _ (may_collapse_through tree k) t)

    -- ---- the children of a box, where the flow through each of them is free

    flow-through : (cb : Band ℤ) (top : ℤ) (s : Context) (k : ℕ) → is_floated_at tree k ≡ false → IsTop (child tree w content apart cb top s k)
        → let m = reached_of tree w apart cb s k in
        ((laid tree w content cb s k m.reached).ending.through ≡ true) × (m.reached.clears ≡ false) × ((child tree w content apart cb top s k).context.standing ≡ s.standing) × (is_at_top s.standing ≡ true)
    unfolding flow_child
    flow-through cb top s k f h =
        let m = reached_of tree w apart cb s k in
        let is = ap (λ (q : Step). q.context.standing) (child-flow tree w content apart cb top s k f) in
        let a = after-below cb s.standing k m (laid tree w content cb s k m.reached).ending (sym (ap is_at_top is) ∙ h) in
        (a.0, a.1, is ∙ a.2, a.3)

    float-through : (cb : Band ℤ) (top : ℤ) (s : Context) (k : ℕ) → is_floated_at tree k ≡ true → (child tree w content apart cb top s k).context.standing ≡ s.standing
    unfolding float_of
    float-through cb top s k f = ap (λ (q : Step). q.context.standing) (child-float tree w content apart cb top s k f)

    child-top : (cb : Band ℤ) (top : ℤ) (s : Context) (k : ℕ) → IsTop (child tree w content apart cb top s k) → is_at_top s.standing ≡ true
    child-top cb top s k h = by (is_floated_at tree k) refl
      where
        by : (f : Bool) → is_floated_at tree k ≡ f → is_at_top s.standing ≡ true
        by true f = sym (ap is_at_top (float-through cb top s k f)) ∙ h
        by false f = (flow-through cb top s k f h).3

    children-top : (cb : Band ℤ) (top : ℤ) (ks : List ℕ) (s : Context) → IsTop (children (child tree w content apart cb top) s ks) → is_at_top s.standing ≡ true
    children-top cb top [] s h = h
    children-top cb top (k ∷ ks) s h = child-top cb top s k (children-top cb top ks (child tree w content apart cb top s k).context h)

    child-free : (cb : Band ℤ) (top : ℤ) (s : Context) (k : ℕ) (y : ℤ) (c : Cleared) → IsTopFree content k → s.standing ≡ at_top y c → IsTop (child tree w content apart cb top s k)
        → ((child tree w content apart cb top s k).context.standing ≡ at_top y c) × FreeKid c k
    child-free cb top s k y c free at h = by (is_floated_at tree k) refl
      where
        by : (f : Bool) → is_floated_at tree k ≡ f → ((child tree w content apart cb top s k).context.standing ≡ at_top y c) × FreeKid c k
        by true f = (
          float-through cb top s k f ∙ at,
          λ size base floats least p m band run ws. subst (Free c) (sym (found-float tree w (way_to tree w size base floats least p m band) band k run ws f)) tt,
        )
        by false f =
            let a = flow-through cb top s k f h in
            let r = (reached_of tree w apart cb s k).reached in
            let reach = before-top cb s k y c at a.1 in
            let t = laid-through cb s k r free a.0 in
            let own : FreeWays c k = subst (λ (x : Cleared). FreeWays x k) reach.ahead t.ways in (
              a.2 ∙ at,
              λ size base floats least p m band run ws.
                  let g = way_to tree w size base floats least p m band k run ws in
                  subst (Free c) (sym (found-flow tree w (way_to tree w size base floats least p m band) band k run ws f))
                  (on-free c g.run g.waiting g.end (found (with_margin g.run (margin_below tree w band k)) g.waiting goes_on)
                  (box-free c k t.opens t.lines t.collapses own size base floats least p (λ e. reach.other) m band run ws) tt),
            )

    kids-free : (b : ℕ) → ((k : ℕ) → IsFrom tree.boxes (suc b) k → IsTopFree content k) → (cb : Band ℤ) (top y : ℤ) (c : Cleared) (ks : List ℕ) → AllByRecursion (IsFrom tree.boxes (suc b)) ks
        → (s : Context) → s.standing ≡ at_top y c → IsTop (children (child tree w content apart cb top) s ks) → FreeKids c ks
    kids-free b again cb top y c [] a s at h = λ size base floats least p m band run ws. tt
    kids-free b again cb top y c (k ∷ ks) a s at h = λ size base floats least p m band run ws.
        let next = child tree w content apart cb top s k in
        let first = child-free cb top s k y c (again k a.0) at (children-top cb top ks next.context h) in
        let f = kid_of tree w (way_to tree w size base floats least p m band) band run ws k in
        on-free c f.run f.waiting f.end (kids_way tree w size base floats least p m band ks f.run f.waiting) (first.1 size base floats least p m band run ws)
        (kids-free b again cb top y c ks a.1 next.context first.0 h size base floats least p m band f.run f.waiting)

    abbrev step_in : ℕ → Band ℤ → ℤ → Context → Step
    step_in b cb top s = content_step tree w content apart b cb top s

    by-line : (b : ℕ) (cb : Band ℤ) (top : ℤ) (s : Context) → IsTop (step_in b cb top s) → (has_line tree b ≡ false) × IsTop (children (child tree w content apart cb top) s (flow_children tree b))
    unfolding in_lines
    by-line b cb top s h = by (has_line tree b) refl
      where
        by : (l : Bool) → has_line tree b ≡ l → (has_line tree b ≡ false) × IsTop (children (child tree w content apart cb top) s (flow_children tree b))
        by true e = absurd (let t = sym (ap (λ (q : Step). is_at_top q.context.standing) (step-lines tree w content apart cb top s b e)) ∙ h in cc)
        by false e = (e, sym (ap (λ (q : Step). is_at_top q.context.standing) (step-children tree w content apart cb top s b e)) ∙ h)

    step-free : (b : ℕ) → ((k : ℕ) → IsFrom tree.boxes (suc b) k → IsTopFree content k) → IsTopFree step_in b
    step-free b again = record {
      begun = λ cb top s h. children-top cb top (flow_children tree b) s (by-line b cb top s h).1;
      lines = λ cb top s h. (by-line b cb top s h).0;
      free = λ cb top s y c at h. kids-free b again cb top y c (flow_children tree b) (children-from tree b) s at (by-line b cb top s h).1;
    }

  -- ---- enough levels

  pub top-free : (n b : ℕ) → b < length tree.boxes → length tree.boxes ≤ n + b → IsTopFree (content_to tree w apart n) b
  unfolding content_to
  top-free zero b l m = absurd (omega arith)
  top-free (suc n) b l m =
      let f = step-free (content_to tree w apart n) b (λ k h. let after = h.from in top-free n k h.within (omega arith)) in
      record { begun = f.begun; lines = f.lines; free = f.free }

  -- ---- so its way forward goes through

  goes-free : (end : End) → IsFree (cleared_of end) end → end ≡ goes_on
  goes-free goes_on f = refl
  goes-free solid f = absurd f
  goes-free (cleared d y) f = absurd (let itself : (d == d) ≡ true = grind (arith, nat_tests) in let other : (d == d) ≡ false = f in cc)

  -- a box reached where `f` was found on its way forward, its own clearance being decided on that way or before
  pub goes-through : (content : ℕ → Band ℤ → ℤ → Context → Step) (cb : Band ℤ) (s : Context) (k : ℕ) (r : Reached) → IsTopFree content k → (laid tree w content cb s k r).ending.through ≡ true
      → (size : Waiting ℤ → Extent ℤ) (base : Base) (floats : List FloatBox) (least : Option ℤ) (p : ℕ → Bool) (m : ℕ) (run : Run ℤ) (ws : List (Waiting ℤ))
      → r.cleared ≡ cleared_of (way_to tree w size base floats least p m cb k run ws).end → (stops tree p k ≡ true → IsOther r.cleared k)
      → (way_to tree w size base floats least p m cb k run ws).end ≡ goes_on
  goes-through content cb s k r free h size base floats least p m run ws same other =
      let t = laid-through content cb s k r free h in
      let f = way_to tree w size base floats least p m cb k run ws in
      goes-free f.end (subst (λ (x : Cleared). IsFree x f.end) same (box-free r.cleared k t.opens t.lines t.collapses t.ways size base floats least p other m cb run ws))
