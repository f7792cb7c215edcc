-- Deciding on the way: up to the first box that is cleared, the way forward is the lead; a box that is not cleared counts as passed.
use Rattle.std.proofs.Common.{◌≡◌, ℕ, zero, suc, ◌<◌, ◌≤◌, ℤ, Bool, true, false, not, ◌&&◌, nat_le, IsTrue, List, [], ◌∷◌, ◌++◌, Option, None, Some, refl, sym, ap, ◌∙◌, subst, arith}
use Rattle.std.specs.List.{AllByRecursion}
use Rattle.std.proofs.lemmas.Bool.Decides.{nat_tests}
use Rattle.viz_base.specs.declared.layouts.Band.{Band}
use Rattle.viz_base.specs.declared.layouts.Extent.{Extent}
use Rattle.viz_base.specs.declared.layouts.LeadEnd.{LeadEnd}
use Rattle.viz_base.specs.declared.layouts.LeadEnd.TheVariants as of_end
use Rattle.viz_base.specs.declared.layouts.Waiting.{Waiting}
use Rattle.viz_base.specs.declared.trees.BoxTree.{BoxTree}
use Rattle.viz_base.specs.declared.worlds.World.{World}
use Rattle.layout_semantics.specs.Floats.{FloatBox}
use Rattle.layout_semantics.specs.FlowBoxes.{clear_of, may_collapse_through, flow_children}
use Rattle.layout_semantics.specs.InlineContent.{is_floated_at}
use Rattle.layout_semantics.specs.Leads.{clears_something, is_up_to}
use Rattle.layout_semantics.specs.Clearance.{Base}
use Rattle.layout_laws.proofs.Levels.{IsFrom, All-implied}
use Rattle.layout_laws.proofs.LeadLevels.{children-from}
use Rattle.lay_margin.specs.declared.runs.Run.{Run}
use Rattle.lay_margin.specs.Runs.{with_margin}
use Rattle.lay_margin.specs.steps.Leads.{Going, ending, through, going_on, passed_kid, ended_by, enters, stops, inner_band, margin_above, margin_below, lead_to}
use Rattle.lay_margin.specs.steps.Leads.{kid_of as lead_kid}
use Rattle.lay_steps.specs.Order.{next_of, is_before_to}
use Rattle.lay_steps.specs.Forward.{goes_on, solid, Found, found, then_on, decided_found, closed_found, passed_box, kid_of, forward_to}
use Rattle.lay_steps.proofs.LeadCases.{on-through, on-solid, on-cleared, kid-float, kid-flow, ended-through, ended-stops, ended-solid, ended-cleared, kids_lead, inner_lead, lead-stops, lead-solid, lead-inside, found-float, found-flow, closed-through, closed-stops, way_to, kids_way, inner_way, decision, entered, way-stops, way-enters}
use Rattle.lay_steps.proofs.LeadEnds.{InOrder, children-order, stops-open, EndsBefore, ended-ends, kid-ends, kids-ends, lead-ends}

-- ---- boxes that are passed

-- those that pass stand before those that don't
abbrev pub IsPrefix : (ℕ → Bool) → Type 0
IsPrefix p = (d x : ℕ) → p d ≡ false → p x ≡ true → x < d

-- those up to a box that does not pass are more
up-to : (p : ℕ → Bool) (d : ℕ) → IsPrefix p → p d ≡ false → (x : ℕ) → p x ≡ true → is_up_to d x ≡ true
up-to p d i o x t = let l = i d x o t in grind (arith, nat_tests)

-- and behind that box they are the same
behind : (p : ℕ → Bool) (d : ℕ) → IsPrefix p → p d ≡ false → (x : ℕ) → suc d ≤ x → p x ≡ is_up_to d x
behind p d i o x l = by (p x) refl
  where
    by : (b : Bool) → p x ≡ b → p x ≡ is_up_to d x
    by true e = let m = i d x o e in absurd (omega arith)
    by false e = e ∙ (let f : nat_le x d ≡ false = grind (arith, nat_tests) in sym f)

stops-passed : (tree : BoxTree) (p q : ℕ → Bool) (b : ℕ) → (p b ≡ true → q b ≡ true) → stops tree p b ≡ false → stops tree q b ≡ false
unfolding stops
stops-passed tree p q b more e = by (clears_something (clear_of tree b)) (p b) (q b) more e
  where
    by : (c o n : Bool) → (o ≡ true → n ≡ true) → (c && not o) ≡ false → (c && not n) ≡ false
    by true true n m e = ap not (m refl)
    by true false n m e = absurd (cc)
    by false o n m e = refl

pub stops-same : (tree : BoxTree) (p q : ℕ → Bool) (b : ℕ) → p b ≡ q b → stops tree p b ≡ stops tree q b
unfolding stops
stops-same tree p q b e = ap (λ (o : Bool). clears_something (clear_of tree b) && not o) e

-- the box itself is passed
pub stops-not : (tree : BoxTree) (q : ℕ → Bool) (b : ℕ) → q b ≡ true → stops tree q b ≡ false
unfolding stops
stops-not tree q b e = by (clears_something (clear_of tree b)) (q b) e
  where
    by : (c n : Bool) → n ≡ true → (c && not n) ≡ false
    by true n e = ap not e
    by false n e = refl

module _ (tree : BoxTree) (w : World) (size : Waiting ℤ → Extent ℤ) (base : Base) (floats : List FloatBox) (least : Option ℤ) where
  abbrev go : (ℕ → Bool) → ℕ → Band ℤ → ℕ → Run ℤ → List (Waiting ℤ) → Found
  go p n cb b run ws = way_to tree w size base floats least p n cb b run ws

  abbrev go_kids : (ℕ → Bool) → ℕ → Band ℤ → List ℕ → Run ℤ → List (Waiting ℤ) → Found
  go_kids p n band ks run ws = kids_way tree w size base floats least p n band ks run ws

  abbrev decide : Band ℤ → ℕ → Run ℤ → List (Waiting ℤ) → Option ℤ
  decide cb d run ws = decision tree w size base floats least cb d run ws

  abbrev inside : Band ℤ → ℕ → Run ℤ → List (Waiting ℤ) → Found → Bool → Found
  inside cb b run ws inner i = entered tree w size base floats least cb b run ws inner i

  -- ---- it matters only which boxes pass from the box on

  module _ (p q : ℕ → Bool) (low : ℕ) (same : (x : ℕ) → low ≤ x → p x ≡ q x) where
    abbrev Agree : ℕ → Type 0
    Agree n = (cb : Band ℤ) (k : ℕ) (r : Run ℤ) (v : List (Waiting ℤ)) → low ≤ k → go p n cb k r v ≡ go q n cb k r v

    kid-agrees : (n : ℕ) → Agree n → (band : Band ℤ) (k : ℕ) (run : Run ℤ) (ws : List (Waiting ℤ)) → low ≤ k → kid_of tree w (go p n band) band run ws k ≡ kid_of tree w (go q n band) band run ws k
    unfolding kid_of
    kid-agrees n again band k run ws l =
        ap (λ (f : Found). elim (is_floated_at tree k) as (λ _. Found) [ true ↦ found run (ws ++ record { at = k; cb = band } ∷ []) goes_on | false ↦ passed_box tree w band k f ]) (again band k run ws l)

    kids-agree : (n : ℕ) → Agree n → (band : Band ℤ) (ks : List ℕ) (run : Run ℤ) (ws : List (Waiting ℤ)) → AllByRecursion (λ k. low ≤ k) ks → go_kids p n band ks run ws ≡ go_kids q n band ks run ws
    kids-agree n again band [] run ws a = refl
    kids-agree n again band (k ∷ ks) run ws a =
        let f = kid_of tree w (go q n band) band run ws k in
        ap (λ (f : Found). then_on f (go_kids p n band ks f.run f.waiting)) (kid-agrees n again band k run ws a.0)
        ∙ ap (then_on f) (kids-agree n again band ks f.run f.waiting a.1)

    inner-agrees : (n : ℕ) → Agree n → (cb : Band ℤ) (b : ℕ) (run : Run ℤ) (ws : List (Waiting ℤ)) → low ≤ suc b
        → inner_way tree w size base floats least p n cb b run ws ≡ inner_way tree w size base floats least q n cb b run ws
    inner-agrees n again cb b run ws l = kids-agree n again (inner_band tree w cb b) (flow_children tree b) (with_margin run (margin_above tree w cb b)) ws
        (All-implied (IsFrom tree.boxes (suc b)) (λ k. low ≤ k) (flow_children tree b) (λ k f. let from = f.from in omega arith) (children-from tree b))

    agree : (n : ℕ) → Agree n
    unfolding forward_to
    agree zero cb b run ws l = refl
    agree (suc n) cb b run ws l =
        let stop = stops-same tree p q b (same b l) in
        let below = inner-agrees n (λ cb k r v m. agree n cb k r v m) cb b run ws (omega arith) in
        ap (λ (s : Bool). elim s as (λ _. Found) [
          | true ↦ decided_found b run ws (decide cb b run ws) (inside cb b run ws (inner_way tree w size base floats least p n cb b run ws) (enters tree b))
          | false ↦ inside cb b run ws (inner_way tree w size base floats least p n cb b run ws) (enters tree b)
        ]) stop
        ∙ ap (λ (f : Found). elim (stops tree q b) as (λ _. Found) [
          | true ↦ decided_found b run ws (decide cb b run ws) (inside cb b run ws f (enters tree b))
          | false ↦ inside cb b run ws f (enters tree b)
        ]) below

  -- ---- a lead that goes through is the way forward, wherever more boxes pass

  abbrev Taken : Going → Found → Type 0
  Taken g f = g.end ≡ of_end.Through → f ≡ found g.run g.waiting goes_on

  not-solid : (g : Going) (d : ℕ) → g.end ≡ of_end.Solid d → g.end ≡ of_end.Through → ⊥
  not-solid g d e h = cc

  not-cleared : (g : Going) (d : ℕ) → g.end ≡ of_end.Cleared d → g.end ≡ of_end.Through → ⊥
  not-cleared g d e h = cc

  module _ (p q : ℕ → Bool) (more : (x : ℕ) → p x ≡ true → q x ≡ true) where
    -- one after another
    on-taken : (g rest : Going) (f : Found) (next : Found → Found) → Taken g f → Taken rest (next (found g.run g.waiting goes_on)) → Taken (going_on g rest) (then_on f (next f))
    on-taken g rest f next t u = by g.end refl
      where
        by : (e : LeadEnd) → g.end ≡ e → Taken (going_on g rest) (then_on f (next f))
        by of_end.Through e = subst (λ (x : Going). Taken x (then_on f (next f))) (sym (on-through g rest e)) (λ h. ap (λ (x : Found). then_on x (next x)) (t e) ∙ u h)
        by (of_end.Solid d) e = subst (λ (x : Going). Taken x (then_on f (next f))) (sym (on-solid g rest d e)) (λ h. absurd (not-solid g d e h))
        by (of_end.Cleared d) e = subst (λ (x : Going). Taken x (then_on f (next f))) (sym (on-cleared g rest d e)) (λ h. absurd (not-cleared g d e h))

    kid-taken : (n : ℕ) (cb : Band ℤ) (k : ℕ) (run : Run ℤ) (ws : List (Waiting ℤ)) → Taken (lead_to tree w p n cb k run ws) (go q n cb k run ws)
        → Taken (lead_kid tree w p (lead_to tree w p n cb) cb run ws k) (kid_of tree w (go q n cb) cb run ws k)
    kid-taken n cb k run ws t = by (is_floated_at tree k) refl
      where
        g : Going
        g = lead_to tree w p n cb k run ws

        f : Found
        f = go q n cb k run ws

        by : (x : Bool) → is_floated_at tree k ≡ x → Taken (lead_kid tree w p (lead_to tree w p n cb) cb run ws k) (kid_of tree w (go q n cb) cb run ws k)
        by true e = subst (λ (x : Going). Taken x (kid_of tree w (go q n cb) cb run ws k)) (sym (kid-float tree w p (lead_to tree w p n cb) cb k run ws e)) (λ h. found-float tree w (go q n cb) cb k run ws e)
        by false e =
            let rest = through cb (with_margin g.run (margin_below tree w cb k)) g.waiting in
            let next : Found → Found = λ x. found (with_margin x.run (margin_below tree w cb k)) x.waiting goes_on in
            subst (λ (x : Going). Taken x (kid_of tree w (go q n cb) cb run ws k)) (sym (kid-flow tree w p (lead_to tree w p n cb) cb k run ws e))
            (λ h. found-flow tree w (go q n cb) cb k run ws e ∙ on-taken g rest f next t (λ i. refl) h)

    kids-taken : (n : ℕ) → ((cb : Band ℤ) (k : ℕ) (r : Run ℤ) (v : List (Waiting ℤ)) → Taken (lead_to tree w p n cb k r v) (go q n cb k r v))
        → (band : Band ℤ) (ks : List ℕ) (run : Run ℤ) (ws : List (Waiting ℤ)) → Taken (kids_lead tree w p n band ks run ws) (go_kids q n band ks run ws)
    kids-taken n again band [] run ws = λ h. refl
    kids-taken n again band (k ∷ ks) run ws =
        let g = lead_kid tree w p (lead_to tree w p n band) band run ws k in
        on-taken g (kids_lead tree w p n band ks g.run g.waiting) (kid_of tree w (go q n band) band run ws k) (λ f. go_kids q n band ks f.run f.waiting)
        (kid-taken n band k run ws (again band k run ws)) (kids-taken n again band ks g.run g.waiting)

    ended-taken : (cb : Band ℤ) (b : ℕ) (g : Going) (f : Found) → Taken g f → Taken (ended_by tree w p cb b g) (closed_found tree b f)
    ended-taken cb b g f t = by g.end (may_collapse_through tree b) refl refl
      where
        by : (e : LeadEnd) (m : Bool) → g.end ≡ e → may_collapse_through tree b ≡ m → Taken (ended_by tree w p cb b g) (closed_found tree b f)
        by of_end.Through true e m = subst (λ (x : Going). Taken x (closed_found tree b f)) (sym (ended-through tree w p cb b g e m)) (λ h. ap (closed_found tree b) (t e) ∙ closed-through tree w b g.run g.waiting m)
        by of_end.Through false e m = subst (λ (x : Going). Taken x (closed_found tree b f)) (sym (ended-stops tree w p cb b g e m)) (λ h. absurd (not-solid (ending g.run g.waiting (of_end.Solid b) cb) b refl h))
        by (of_end.Solid d) m e o = subst (λ (x : Going). Taken x (closed_found tree b f)) (sym (ended-solid tree w p cb b g d e)) (λ h. absurd (not-solid (ending g.run g.waiting (of_end.Solid d) g.cb) d refl h))
        by (of_end.Cleared d) m e o = subst (λ (x : Going). Taken x (closed_found tree b f)) (sym (ended-cleared tree w p cb b g d e)) (λ h. absurd (not-cleared (ending g.run g.waiting (of_end.Cleared d) g.cb) d refl h))

    abbrev TakenAll : ℕ → Type 0
    TakenAll n = (cb : Band ℤ) (b : ℕ) (run : Run ℤ) (ws : List (Waiting ℤ)) → Taken (lead_to tree w p n cb b run ws) (go q n cb b run ws)

    taken-step : (n : ℕ) → TakenAll n → TakenAll (suc n)
    taken-step n again cb b run ws = by (stops tree p b) (enters tree b) refl refl
      where
        own : Run ℤ
        own = with_margin run (margin_above tree w cb b)

        f : Found
        f = go q (suc n) cb b run ws

        by : (s i : Bool) → stops tree p b ≡ s → enters tree b ≡ i → Taken (lead_to tree w p (suc n) cb b run ws) f
        by true i e j = subst (λ (x : Going). Taken x f) (sym (lead-stops tree w p n cb b run ws e)) (λ h. absurd (not-cleared (ending run ws (of_end.Cleared b) cb) b refl h))
        by false false e j = subst (λ (x : Going). Taken x f) (sym (lead-solid tree w p n cb b run ws e j)) (λ h. absurd (not-solid (ending own ws (of_end.Solid b) cb) b refl h))
        by false true e j =
            let inner = inner_way tree w size base floats least q n cb b run ws in
            subst (λ (x : Going). Taken x f) (sym (lead-inside tree w p n cb b run ws e j))
            (λ h. way-enters tree w size base floats least q n cb b run ws (stops-passed tree p q b (more b) e) ∙ ap (inside cb b run ws inner) j
            ∙ ended-taken cb b (inner_lead tree w p n cb b run ws) inner (kids-taken n again (inner_band tree w cb b) (flow_children tree b) own ws) h)

    taken : (n : ℕ) → TakenAll n
    unfolding lead_to forward_to
    taken zero cb b run ws = λ h. refl
    taken (suc n) cb b run ws = taken-step n (λ cb b run ws. taken n cb b run ws) cb b run ws

  -- ---- the way forward from a lead, `again` going on where a box is not cleared

  abbrev way_of : (ℕ → Found) → Going → LeadEnd → Found
  way_of again g end = elim end as (λ _. Found) [
    | of_end.Through ↦ found g.run g.waiting goes_on
    | of_end.Solid d ↦ found g.run g.waiting solid
    | of_end.Cleared d ↦ decided_found d g.run g.waiting (decide g.cb d g.run g.waiting) (again d)
  ]

  abbrev pub way : (ℕ → Found) → Going → Found
  way again g = way_of again g g.end

  pub way-through : (again : ℕ → Found) (g : Going) → g.end ≡ of_end.Through → way again g ≡ found g.run g.waiting goes_on
  way-through again g e = ap (way_of again g) e

  pub way-solid : (again : ℕ → Found) (g : Going) (d : ℕ) → g.end ≡ of_end.Solid d → way again g ≡ found g.run g.waiting solid
  way-solid again g d e = ap (way_of again g) e

  pub way-cleared : (again : ℕ → Found) (g : Going) (d : ℕ) → g.end ≡ of_end.Cleared d → way again g ≡ decided_found d g.run g.waiting (decide g.cb d g.run g.waiting) (again d)
  way-cleared again g d e = ap (way_of again g) e

  way-same : (again other : ℕ → Found) (g : Going) → ((d : ℕ) → g.end ≡ of_end.Cleared d → again d ≡ other d) → way again g ≡ way other g
  way-same again other g same = by g.end refl
    where
      by : (e : LeadEnd) → g.end ≡ e → way again g ≡ way other g
      by of_end.Through e = way-through again g e ∙ sym (way-through other g e)
      by (of_end.Solid d) e = way-solid again g d e ∙ sym (way-solid other g d e)
      by (of_end.Cleared d) e = way-cleared again g d e ∙ ap (decided_found d g.run g.waiting (decide g.cb d g.run g.waiting)) (same d e) ∙ sym (way-cleared other g d e)

  -- one after another, where what comes next is asked of a box that is not cleared too
  decided-on : (d : ℕ) (run : Run ℤ) (ws : List (Waiting ℤ)) (o : Option ℤ) (x : Found) (one other : Found → Found) → one x ≡ other x
      → then_on (decided_found d run ws o x) (one (decided_found d run ws o x)) ≡ decided_found d run ws o (then_on x (other x))
  decided-on d run ws None x one other e = ap (then_on x) e
  decided-on d run ws (Some y) x one other e = refl

  closed-decided : (b d : ℕ) (run : Run ℤ) (ws : List (Waiting ℤ)) (o : Option ℤ) (x : Found)
      → closed_found tree b (decided_found d run ws o x) ≡ decided_found d run ws o (closed_found tree b x)
  closed-decided b d run ws None x = refl
  closed-decided b d run ws (Some y) x = refl

  closed-way : (p : ℕ → Bool) (cb : Band ℤ) (b : ℕ) (again : ℕ → Found) (g : Going)
      → closed_found tree b (way again g) ≡ way (λ d. closed_found tree b (again d)) (ended_by tree w p cb b g)
  closed-way p cb b again g = by g.end (may_collapse_through tree b) refl refl
    where
      after : ℕ → Found
      after d = closed_found tree b (again d)

      by : (e : LeadEnd) (m : Bool) → g.end ≡ e → may_collapse_through tree b ≡ m → closed_found tree b (way again g) ≡ way after (ended_by tree w p cb b g)
      by of_end.Through true e m = ap (closed_found tree b) (way-through again g e) ∙ closed-through tree w b g.run g.waiting m ∙ sym (ap (way after) (ended-through tree w p cb b g e m))
      by of_end.Through false e m = ap (closed_found tree b) (way-through again g e) ∙ closed-stops tree w b g.run g.waiting m ∙ sym (ap (way after) (ended-stops tree w p cb b g e m))
      by (of_end.Solid d) m e o = ap (closed_found tree b) (way-solid again g d e) ∙ sym (ap (way after) (ended-solid tree w p cb b g d e))
      by (of_end.Cleared d) m e o =
          ap (closed_found tree b) (way-cleared again g d e) ∙ closed-decided b d g.run g.waiting (decide g.cb d g.run g.waiting) (again d)
          ∙ sym (ap (way after) (ended-cleared tree w p cb b g d e))

  module _ (p : ℕ → Bool) (prefix : IsPrefix p) where
    -- after a lead that ends at d, this is found where d is passed
    abbrev WayOn : Going → (rest : Going) → Found → (ℕ → Found) → ((ℕ → Bool) → Found → Found) → Type 0
    WayOn g rest f one next = then_on f (next p f) ≡ way (λ d. then_on (one d) (next (is_up_to d) (one d))) (going_on g rest)

    -- what comes first, and then the rest
    on-way : (g rest : Going) (f : Found) (one : ℕ → Found) (next : (ℕ → Bool) → Found → Found)
        → f ≡ way one g
        → (g.end ≡ of_end.Through → next p (found g.run g.waiting goes_on) ≡ way (λ d. next (is_up_to d) (found g.run g.waiting goes_on)) rest)
        → (g.end ≡ of_end.Through → (d : ℕ) → rest.end ≡ of_end.Cleared d → one d ≡ found g.run g.waiting goes_on)
        → ((d : ℕ) → g.end ≡ of_end.Cleared d → next p (one d) ≡ next (is_up_to d) (one d))
        → WayOn g rest f one next
    on-way g rest f one next first through_rest before later = by g.end refl
      where
        whole : ℕ → Found
        whole d = then_on (one d) (next (is_up_to d) (one d))

        both : Found → Found
        both x = then_on x (next p x)

        by : (e : LeadEnd) → g.end ≡ e → both f ≡ way whole (going_on g rest)
        by of_end.Through e =
            ap both (first ∙ way-through one g e)
            ∙ through_rest e
            ∙ way-same (λ d. next (is_up_to d) (found g.run g.waiting goes_on)) whole rest (λ d h. sym (ap (λ (x : Found). then_on x (next (is_up_to d) x)) (before e d h)))
            ∙ ap (way whole) (sym (on-through g rest e))
        by (of_end.Solid d) e = ap both (first ∙ way-solid one g d e) ∙ sym (ap (way whole) (on-solid g rest d e) ∙ way-solid whole g d e)
        by (of_end.Cleared d) e =
            ap both (first ∙ way-cleared one g d e)
            ∙ decided-on d g.run g.waiting (decide g.cb d g.run g.waiting) (one d) (next p) (next (is_up_to d)) (later d e)
            ∙ sym (ap (way whole) (on-cleared g rest d e) ∙ way-cleared whole g d e)

    abbrev Way : ℕ → Type 0
    Way n = (cb : Band ℤ) (b end : ℕ) (r : Run ℤ) (v : List (Waiting ℤ)) → IsTrue (is_before_to n tree.boxes b end)
        → go p n cb b r v ≡ way (λ d. go (is_up_to d) n cb b r v) (lead_to tree w p n cb b r v)

    -- a child
    kid-way : (n : ℕ) (band : Band ℤ) (k : ℕ) (run : Run ℤ) (ws : List (Waiting ℤ))
        → (is_floated_at tree k ≡ false → go p n band k run ws ≡ way (λ d. go (is_up_to d) n band k run ws) (lead_to tree w p n band k run ws))
        → kid_of tree w (go p n band) band run ws k ≡ way (λ d. kid_of tree w (go (is_up_to d) n band) band run ws k) (lead_kid tree w p (lead_to tree w p n band) band run ws k)
    kid-way n band k run ws again = by (is_floated_at tree k) refl
      where
        lead : Going
        lead = lead_kid tree w p (lead_to tree w p n band) band run ws k

        one : ℕ → Found
        one d = kid_of tree w (go (is_up_to d) n band) band run ws k

        by : (f : Bool) → is_floated_at tree k ≡ f → kid_of tree w (go p n band) band run ws k ≡ way one lead
        by true e = found-float tree w (go p n band) band k run ws e ∙ sym (ap (way one) (kid-float tree w p (lead_to tree w p n band) band k run ws e))
        by false e =
            let g = lead_to tree w p n band k run ws in
            let own : ℕ → Found = λ d. go (is_up_to d) n band k run ws in
            let next : (ℕ → Bool) → Found → Found = λ q x. found (with_margin x.run (margin_below tree w band k)) x.waiting goes_on in
            found-flow tree w (go p n band) band k run ws e
            ∙ on-way g (through band (with_margin g.run (margin_below tree w band k)) g.waiting) (go p n band k run ws) own next (again e) (λ h. refl) (λ h d i. absurd (cc)) (λ d h. refl)
            ∙ way-same (λ d. passed_box tree w band k (own d)) one (passed_kid tree w p band k g) (λ d h. sym (found-flow tree w (go (is_up_to d) n band) band k run ws e))
            ∙ sym (ap (way one) (kid-flow tree w p (lead_to tree w p n band) band k run ws e))

    -- a float ends no lead
    in-flow : (n : ℕ) (band : Band ℤ) (k : ℕ) (run : Run ℤ) (ws : List (Waiting ℤ)) (d : ℕ) → (lead_kid tree w p (lead_to tree w p n band) band run ws k).end ≡ of_end.Cleared d → is_floated_at tree k ≡ false
    in-flow n band k run ws d e = by (is_floated_at tree k) refl
      where
        by : (f : Bool) → is_floated_at tree k ≡ f → is_floated_at tree k ≡ false
        by true f = absurd (let h = ap (λ (g : Going). g.end) (kid-float tree w p (lead_to tree w p n band) band k run ws f) in cc)
        by false f = f

    kids-on : (n : ℕ) → Way n → (band : Band ℤ) (ks : List ℕ) (end : ℕ) (run : Run ℤ) (ws : List (Waiting ℤ)) → InOrder n tree ks end
        → go_kids p n band ks run ws ≡ way (λ d. go_kids (is_up_to d) n band ks run ws) (kids_lead tree w p n band ks run ws)
    kids-on n again band [] end run ws a = refl
    kids-on n again band (k ∷ ks) end run ws a =
        let g = lead_kid tree w p (lead_to tree w p n band) band run ws k in
        let rest = kids_lead tree w p n band ks g.run g.waiting in
        let one : ℕ → Found = λ d. kid_of tree w (go (is_up_to d) n band) band run ws k in
        on-way g rest (kid_of tree w (go p n band) band run ws k) one (λ q f. go_kids q n band ks f.run f.waiting)
        (kid-way n band k run ws (λ f. again band k (next_of ks end) run ws (a.0 f).before))
        (λ e. kids-on n again band ks end g.run g.waiting a.1)
        (λ e d h.
        let o = subst (EndsBefore p end) h (kids-ends tree w p n band (λ j low r v u. lead-ends tree w p n band j low r v u) ks end g.run g.waiting a.1) in
        kid-taken p (is_up_to d) (up-to p d prefix o.is_open) n band k run ws (taken p (is_up_to d) (up-to p d prefix o.is_open) n band k run ws) e)
        (λ d e.
        let first = a.0 (in-flow n band k run ws d e) in
        let o = subst (EndsBefore p (next_of ks end)) e (kid-ends tree w p n band k (next_of ks end) run ws (λ f. lead-ends tree w p n band k (next_of ks end) run ws first.before)) in
        let under = o.below in
        let x = one d in
        kids-agree p (is_up_to d) (suc d) (behind p d prefix o.is_open) n (agree p (is_up_to d) (suc d) (behind p d prefix o.is_open) n) band ks x.run x.waiting
        (All-implied (λ j. next_of ks end ≤ j) (λ j. suc d ≤ j) ks (λ j l. omega arith) first.later))

    way-step : (n : ℕ) → Way n → Way (suc n)
    way-step n again cb b end run ws t = by (stops tree p b) (enters tree b) refl refl
      where
        band : Band ℤ
        band = inner_band tree w cb b

        own : Run ℤ
        own = with_margin run (margin_above tree w cb b)

        inner : (ℕ → Bool) → Found
        inner q = inner_way tree w size base floats least q n cb b run ws

        whole : ℕ → Found
        whole d = go (is_up_to d) (suc n) cb b run ws

        lead : Going
        lead = lead_to tree w p (suc n) cb b run ws

        by : (s i : Bool) → stops tree p b ≡ s → enters tree b ≡ i → go p (suc n) cb b run ws ≡ way whole lead
        by true i e j =
            let unpassed = stops-open tree p b e in
            let itself : nat_le b b ≡ true = grind (arith, nat_tests) in
            way-stops tree w size base floats least p n cb b run ws e
            ∙ ap (λ (x : Found). decided_found b run ws (decide cb b run ws) (inside cb b run ws x (enters tree b)))
            (inner-agrees p (is_up_to b) (suc b) (behind p b prefix unpassed) n (agree p (is_up_to b) (suc b) (behind p b prefix unpassed) n) cb b run ws (omega arith))
            ∙ ap (decided_found b run ws (decide cb b run ws)) (sym (way-enters tree w size base floats least (is_up_to b) n cb b run ws (stops-not tree (is_up_to b) b itself)))
            ∙ sym (ap (way whole) (lead-stops tree w p n cb b run ws e))
        by false false e j =
            way-enters tree w size base floats least p n cb b run ws e ∙ ap (inside cb b run ws (inner p)) j
            ∙ sym (ap (way whole) (lead-solid tree w p n cb b run ws e j))
        by false true e j =
            let order = children-order n tree b end t in
            let g = inner_lead tree w p n cb b run ws in
            let again_kids : ℕ → Found = λ d. inner (is_up_to d) in
            let ends = ended-ends tree w p cb b end g (kids-ends tree w p n band (λ k low r v u. lead-ends tree w p n band k low r v u) (flow_children tree b) end own ws order) in
            way-enters tree w size base floats least p n cb b run ws e ∙ ap (inside cb b run ws (inner p)) j
            ∙ ap (closed_found tree b) (kids-on n again band (flow_children tree b) end own ws order)
            ∙ closed-way p cb b again_kids g
            ∙ way-same (λ d. closed_found tree b (inner (is_up_to d))) whole (ended_by tree w p cb b g) (λ d h.
            let o = subst (EndsBefore p end) h ends in
            sym (way-enters tree w size base floats least (is_up_to d) n cb b run ws (stops-passed tree p (is_up_to d) b (up-to p d prefix o.is_open b) e) ∙ ap (inside cb b run ws (inner (is_up_to d))) j))
            ∙ sym (ap (way whole) (lead-inside tree w p n cb b run ws e j))

    -- the way forward of a box is its lead, up to a box whose clearance is to be decided
    pub forward-way : (n : ℕ) → Way n
    unfolding lead_to forward_to
    forward-way zero cb b end run ws t = refl
    forward-way (suc n) cb b end run ws t = way-step n (λ cb b end r v t. forward-way n cb b end r v t) cb b end run ws t
