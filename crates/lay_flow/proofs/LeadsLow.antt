-- Where the margins of a lead are low, so is the run that they join.
use Rattle.std.proofs.Common.{◌≡◌, ℕ, zero, suc, ◌<◌, ◌^◌, ℤ, ◌+ℤ◌, Bool, true, false, List, [], ◌∷◌, length, slice_index_or, refl, sym, subst, arith}
use Rattle.std.proofs.lemmas.Int.{ints, clamps}
use Rattle.viz_base.specs.declared.layouts.Band.{Band}
use Rattle.viz_base.specs.declared.layouts.LeadEnd.{LeadEnd}
use Rattle.viz_base.specs.declared.layouts.LeadEnd.TheVariants as of_end
use Rattle.viz_base.specs.declared.layouts.Waiting.{Waiting}
use Rattle.viz_base.specs.declared.trees.BoxTree.{BoxTree}
use Rattle.viz_base.specs.declared.worlds.World.{World}
use Rattle.viz_calc.specs.State.{IsSmall, AllSmall}
use Rattle.layout_semantics.specs.FlowBoxes.{flow_children}
use Rattle.layout_semantics.specs.InlineContent.{is_floated_at}
use Rattle.layout_semantics.specs.Clearance.{Base, hangs, stands}
use Rattle.lay_margin.specs.declared.runs.Run.{Run}
use Rattle.lay_margin.specs.Fitting.{itself, inside}
use Rattle.lay_margin.specs.Runs.{with_margin, collapse}
use Rattle.lay_margin.specs.steps.Leads.{Going, going_on, kid_of, through, enters, stops, inner_band, margin_above, margin_below, lead_to}
use Rattle.lay_margin.proofs.Fitted.{kids-fit}
use Rattle.lay_steps.specs.Runs.{edge_at}
use Rattle.lay_steps.proofs.LeadCases.{kid-float, kid-flow, kids_lead, lead-stops, lead-solid, lead-inside}
use Rattle.page_limits.specs.Bounds.{all_around, IsLevelIn}
use Rattle.lay_flow.specs.Low.{IsLevelLow, IsAsideLow, IsRunLow, IsBaseLow}
use Rattle.lay_flow.specs.WayFits.{IsLeadLow, AreKidsLow}

-- ---- numbers

pub level-small : (y : ℤ) → IsLevelLow y → IsSmall y
level-small y l = let a = l.top in let b = l.bottom in omega (arith, ints, a, b)

pub with-low : (run : Run ℤ) (m : ℤ) → IsRunLow run → IsAsideLow m → IsRunLow (with_margin run m)
with-low run m r l = let a = r.most in let b = r.least in record { most = omega (arith, ints, clamps, a, l); least = omega (arith, ints, clamps, b, l) }

pub edge-small : (edge : ℤ) (run : Run ℤ) → IsLevelLow edge → IsRunLow run → AllSmall ((edge +ℤ collapse run) ∷ [])
edge-small edge run l r = let t = l.top in let u = l.bottom in let a = r.most in let b = r.least in (omega (arith, ints, t, u, a, b), tt)

-- where a run ends
pub edge-near : (base : Base) (run : Run ℤ) → IsBaseLow base → IsRunLow run → IsLevelIn (all_around (2 ^ 92)) (edge_at base run)
edge-near (hangs edge) run l r =
    let t = l.top in let u = l.bottom in let a = r.most in let b = r.least in
    record { top = omega (arith, ints, t, u, a, b); bottom = omega (arith, ints, t, u, a, b) }
edge-near (stands edge) run l r = let t = l.top in let u = l.bottom in record { top = omega (arith, ints, t, u); bottom = omega (arith, ints, t, u) }

-- ---- leads

module _ (tree : BoxTree) (w : World) where
  pub lead-inner : (cb : Band ℤ) (b : ℕ) → enters tree b ≡ true → IsLeadLow tree w cb b → AreKidsLow tree w (inner_band tree w cb b) (flow_children tree b)
  unfolding inner_band
  lead-inner cb b goes l = ((kids-fit tree w cb b goes (λ band k r. (l band k r).fits)).0, λ i h f band k r. l band k (inside goes h f r))

  module _ (p : ℕ → Bool) where
    on-low : (g rest : Going) → IsRunLow g.run → IsRunLow rest.run → IsRunLow (going_on g rest).run
    on-low g rest a b = by g.end
      where
        by : (end : LeadEnd) → IsRunLow (elim end as (λ _. Going) [ of_end.Through ↦ rest | of_end.Solid d ↦ g | of_end.Cleared d ↦ g ]).run
        by of_end.Through = b
        by (of_end.Solid d) = a
        by (of_end.Cleared d) = a

    abbrev IsLow : Going → Type 0
    IsLow g = IsRunLow g.run

    abbrev DoesLead : ℕ → Type 0
    DoesLead n = (cb : Band ℤ) (b : ℕ) (run : Run ℤ) (ws : List (Waiting ℤ)) → IsLeadLow tree w cb b → IsRunLow run → IsRunLow (lead_to tree w p n cb b run ws).run

    kid-low : (n : ℕ) → DoesLead n → (band : Band ℤ) (k : ℕ) (run : Run ℤ) (ws : List (Waiting ℤ)) → (is_floated_at tree k ≡ false → IsLeadLow tree w band k) → IsRunLow run
        → IsLow (kid_of tree w p (lead_to tree w p n band) band run ws k)
    kid-low n again band k run ws each r = by (is_floated_at tree k) refl
      where
        by : (f : Bool) → is_floated_at tree k ≡ f → IsLow (kid_of tree w p (lead_to tree w p n band) band run ws k)
        by true f = subst IsLow (sym (kid-float tree w p (lead_to tree w p n band) band k run ws f)) r
        by false f =
            let g = lead_to tree w p n band k run ws in
            let low = again band k run ws (each f) r in
            subst IsLow (sym (kid-flow tree w p (lead_to tree w p n band) band k run ws f))
            (on-low g (through band (with_margin g.run (margin_below tree w band k)) g.waiting) low (with-low g.run (margin_below tree w band k) low ((each f) band k (itself band k)).below))

    kids-low : (n : ℕ) → DoesLead n → (band : Band ℤ) (ks : List ℕ) (run : Run ℤ) (ws : List (Waiting ℤ))
        → ((i : ℕ) → i < length ks → is_floated_at tree (slice_index_or ks i 0) ≡ false → IsLeadLow tree w band (slice_index_or ks i 0)) → IsRunLow run
        → IsLow (kids_lead tree w p n band ks run ws)
    kids-low n again band [] run ws each r = r
    kids-low n again band (k ∷ ks) run ws each r =
        let g = kid_of tree w p (lead_to tree w p n band) band run ws k in
        let one = kid-low n again band k run ws (each 0 (omega arith)) r in
        on-low g (kids_lead tree w p n band ks g.run g.waiting) one (kids-low n again band ks g.run g.waiting (λ i l. each (suc i) (omega (arith, l))) one)

    -- the run with the margins of a lead
    pub lead-low : (n : ℕ) → DoesLead n
    unfolding lead_to
    lead-low zero cb b run ws l r = r
    lead-low (suc n) cb b run ws l r = by (lead-low n) (stops tree p b) (enters tree b) refl refl
      where
        own : Run ℤ
        own = with_margin run (margin_above tree w cb b)

        own_low : IsRunLow own
        own_low = with-low run (margin_above tree w cb b) r (l cb b (itself cb b)).above

        by : DoesLead n → (s i : Bool) → stops tree p b ≡ s → enters tree b ≡ i → IsLow (lead_to tree w p (suc n) cb b run ws)
        by again true i e f = subst IsLow (sym (lead-stops tree w p n cb b run ws e)) r
        by again false false e f = subst IsLow (sym (lead-solid tree w p n cb b run ws e f)) own_low
        by again false true e f = subst IsLow (sym (lead-inside tree w p n cb b run ws e f))
            (kids-low n again (inner_band tree w cb b) (flow_children tree b) own ws (lead-inner cb b f l).1 own_low)
