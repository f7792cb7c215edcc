-- Where the way forward goes through, its run is that of the whole lead.
use Rattle.std.proofs.Common.{◌≡◌, ℕ, zero, suc, ◌<◌, ℤ, Bool, true, false, List, [], ◌∷◌, ◌++◌, length, Option, None, Some, refl, sym, ap, ◌∙◌, subst}
use Rattle.std.specs.List.{AllByRecursion}
use Rattle.viz_base.specs.declared.layouts.Band.{Band}
use Rattle.viz_base.specs.declared.layouts.Extent.{Extent}
use Rattle.viz_base.specs.declared.layouts.LeadEnd.TheVariants as of_end
use Rattle.viz_base.specs.declared.layouts.Waiting.{Waiting}
use Rattle.viz_base.specs.declared.trees.BoxTree.{BoxTree}
use Rattle.viz_base.specs.declared.worlds.World.{World}
use Rattle.layout_semantics.specs.Floats.{FloatBox}
use Rattle.layout_semantics.specs.FlowBoxes.{may_collapse_through, flow_children}
use Rattle.layout_semantics.specs.InlineContent.{is_floated_at}
use Rattle.layout_semantics.specs.Clearance.{Base}
use Rattle.layout_laws.proofs.Levels.{IsFrom}
use Rattle.layout_laws.proofs.LeadLevels.{children-from}
use Rattle.lay_margin.specs.declared.runs.Run.{Run}
use Rattle.lay_margin.specs.Runs.{with_margin}
use Rattle.lay_margin.specs.steps.Leads.{Going, through, enters, stops, inner_band, margin_above, margin_below, lead_to}
use Rattle.lay_margin.specs.steps.Leads.{kid_of as lead_kid}
use Rattle.lay_steps.specs.Forward.{End, goes_on, solid, cleared, Found, found, then_on, decided_found, closed_found, passed_box, kid_of, forward_to}
use Rattle.lay_steps.proofs.LeadCases.{on-through, kid-float, kid-flow, ended-through, kids_lead, inner_lead, lead-inside, found-float, found-flow, closed-through, closed-stops, way_to, kids_way, inner_way, decision, entered, way-stops, way-enters}
use Rattle.lay_steps.proofs.Decided.{stops-not}

-- ---- what goes on has gone on from the first

pub on-parts : (run : Run ℤ) (ws : List (Waiting ℤ)) (end : End) (rest : Found) → (then_on (found run ws end) rest).end ≡ goes_on → (end ≡ goes_on) × (rest.end ≡ goes_on)
on-parts run ws goes_on rest h = (refl, h)
on-parts run ws solid rest h = absurd (cc)
on-parts run ws (cleared d y) rest h = absurd (cc)

pub on-rest : (f rest : Found) → f.end ≡ goes_on → then_on f rest ≡ rest
on-rest f rest e = ap (λ (end : End). elim end as (λ _. Found) [ goes_on ↦ rest | solid ↦ f | cleared b edge ↦ f ]) e

closed-parts : (tree : BoxTree) (w : World) (b : ℕ) (run : Run ℤ) (ws : List (Waiting ℤ)) (end : End) → (closed_found tree b (found run ws end)).end ≡ goes_on → (end ≡ goes_on) × (may_collapse_through tree b ≡ true)
closed-parts tree w b run ws solid h = absurd (cc)
closed-parts tree w b run ws (cleared d y) h = absurd (cc)
closed-parts tree w b run ws goes_on h = by (may_collapse_through tree b) refl
  where
    by : (m : Bool) → may_collapse_through tree b ≡ m → (goes_on ≡ goes_on) × (may_collapse_through tree b ≡ true)
    by true m = (refl, m)
    by false m = absurd (let e = sym (ap (λ (f : Found). f.end) (closed-stops tree w b run ws m)) ∙ h in cc)

-- a lead that goes through as the way forward does
pub record Goes (g : Going) (f : Found) : Type 0 where
  pub end : g.end ≡ of_end.Through
  pub run : g.run ≡ f.run
  pub waiting : g.waiting ≡ f.waiting

module _ (tree : BoxTree) (w : World) (size : Waiting ℤ → Extent ℤ) (base : Base) (floats : List FloatBox) (least : Option ℤ) (p q : ℕ → Bool)
    (all : (k : ℕ) → k < length tree.boxes → q k ≡ true) where
  abbrev go : ℕ → Band ℤ → ℕ → Run ℤ → List (Waiting ℤ) → Found
  go n cb b run ws = way_to tree w size base floats least p n cb b run ws

  abbrev go_kids : ℕ → Band ℤ → List ℕ → Run ℤ → List (Waiting ℤ) → Found
  go_kids n band ks run ws = kids_way tree w size base floats least p n band ks run ws

  abbrev IsOn : Going → Found → Type 0
  IsOn g f = f.end ≡ goes_on → Goes g f

  abbrev OnAll : ℕ → Type 0
  OnAll n = (cb : Band ℤ) (b : ℕ) (run : Run ℤ) (ws : List (Waiting ℤ)) → b < length tree.boxes → IsOn (lead_to tree w q n cb b run ws) (go n cb b run ws)

  kid-on : (n : ℕ) → OnAll n → (cb : Band ℤ) (k : ℕ) (run : Run ℤ) (ws : List (Waiting ℤ)) → k < length tree.boxes
      → IsOn (lead_kid tree w q (lead_to tree w q n cb) cb run ws k) (kid_of tree w (go n cb) cb run ws k)
  kid-on n again cb k run ws l h = by (is_floated_at tree k) refl
    where
      g : Going
      g = lead_to tree w q n cb k run ws

      f : Found
      f = go n cb k run ws

      by : (x : Bool) → is_floated_at tree k ≡ x → Goes (lead_kid tree w q (lead_to tree w q n cb) cb run ws k) (kid_of tree w (go n cb) cb run ws k)
      by true e =
          subst (Goes (lead_kid tree w q (lead_to tree w q n cb) cb run ws k)) (sym (found-float tree w (go n cb) cb k run ws e))
          (subst (λ (x : Going). Goes x (found run (ws ++ record { at = k; cb = cb } ∷ []) goes_on)) (sym (kid-float tree w q (lead_to tree w q n cb) cb k run ws e)) (record { end = refl; run = refl; waiting = refl }))
      by false e =
          let rest = found (with_margin f.run (margin_below tree w cb k)) f.waiting goes_on in
          let h2 : (passed_box tree w cb k f).end ≡ goes_on = sym (ap (λ (x : Found). x.end) (found-flow tree w (go n cb) cb k run ws e)) ∙ h in
          let parts = on-parts f.run f.waiting f.end rest h2 in
          let own = again cb k run ws l parts.0 in
          subst (Goes (lead_kid tree w q (lead_to tree w q n cb) cb run ws k)) (sym (found-flow tree w (go n cb) cb k run ws e ∙ on-rest f rest parts.0))
          (subst (λ (x : Going). Goes x rest) (sym (kid-flow tree w q (lead_to tree w q n cb) cb k run ws e ∙ on-through g (through cb (with_margin g.run (margin_below tree w cb k)) g.waiting) own.end))
          (record { end = refl; run = ap (λ (r : Run ℤ). with_margin r (margin_below tree w cb k)) own.run; waiting = own.waiting }))

  kids-on : (n : ℕ) → OnAll n → (band : Band ℤ) (b : ℕ) (ks : List ℕ) (run : Run ℤ) (ws : List (Waiting ℤ)) → AllByRecursion (IsFrom tree.boxes (suc b)) ks
      → IsOn (kids_lead tree w q n band ks run ws) (go_kids n band ks run ws)
  kids-on n again band b [] run ws a h = record { end = refl; run = refl; waiting = refl }
  kids-on n again band b (k ∷ ks) run ws a h =
      let g = lead_kid tree w q (lead_to tree w q n band) band run ws k in
      let f = kid_of tree w (go n band) band run ws k in
      let rest = go_kids n band ks f.run f.waiting in
      let parts = on-parts f.run f.waiting f.end rest h in
      let own = kid-on n again band k run ws a.0.within parts.0 in
      let last = kids-on n again band b ks f.run f.waiting a.1 parts.1 in
      subst (Goes (kids_lead tree w q n band (k ∷ ks) run ws)) (sym (on-rest f rest parts.0))
      (subst (λ (x : Going). Goes x rest)
      (sym (on-through g (kids_lead tree w q n band ks g.run g.waiting) own.end
      ∙ ap (λ (r : Run ℤ). kids_lead tree w q n band ks r g.waiting) own.run
      ∙ ap (kids_lead tree w q n band ks f.run) own.waiting)) last)

  -- a box whose way goes through counts as not cleared
  on-entered : (n : ℕ) (cb : Band ℤ) (b : ℕ) (run : Run ℤ) (ws : List (Waiting ℤ)) → (go (suc n) cb b run ws).end ≡ goes_on
      → go (suc n) cb b run ws ≡ entered tree w size base floats least cb b run ws (inner_way tree w size base floats least p n cb b run ws) (enters tree b)
  on-entered n cb b run ws h = by (stops tree p b) (decision tree w size base floats least cb b run ws) refl refl
    where
      x : Found
      x = entered tree w size base floats least cb b run ws (inner_way tree w size base floats least p n cb b run ws) (enters tree b)

      by : (s : Bool) (o : Option ℤ) → stops tree p b ≡ s → decision tree w size base floats least cb b run ws ≡ o → go (suc n) cb b run ws ≡ x
      by false o e d = way-enters tree w size base floats least p n cb b run ws e
      by true None e d = way-stops tree w size base floats least p n cb b run ws e ∙ ap (λ (o : Option ℤ). decided_found b run ws o x) d
      by true (Some y) e d = absurd (let t = sym (ap (λ (f : Found). f.end) (way-stops tree w size base floats least p n cb b run ws e ∙ ap (λ (o : Option ℤ). decided_found b run ws o x) d)) ∙ h in cc)

  on-step : (n : ℕ) → OnAll n → OnAll (suc n)
  on-step n again cb b run ws l h = by (enters tree b) refl
    where
      inner : Found
      inner = inner_way tree w size base floats least p n cb b run ws

      whole : go (suc n) cb b run ws ≡ entered tree w size base floats least cb b run ws inner (enters tree b)
      whole = on-entered n cb b run ws h

      g : Going
      g = inner_lead tree w q n cb b run ws

      by : (i : Bool) → enters tree b ≡ i → Goes (lead_to tree w q (suc n) cb b run ws) (go (suc n) cb b run ws)
      by false i = absurd (let t = sym (ap (λ (f : Found). f.end) (whole ∙ ap (entered tree w size base floats least cb b run ws inner) i)) ∙ h in cc)
      by true i =
          let same : go (suc n) cb b run ws ≡ closed_found tree b inner = whole ∙ ap (entered tree w size base floats least cb b run ws inner) i in
          let parts = closed-parts tree w b inner.run inner.waiting inner.end (sym (ap (λ (f : Found). f.end) same) ∙ h) in
          let own = kids-on n again (inner_band tree w cb b) b (flow_children tree b) (with_margin run (margin_above tree w cb b)) ws (children-from tree b) parts.0 in
          let closed : closed_found tree b inner ≡ found inner.run inner.waiting goes_on = ap (λ (end : End). closed_found tree b (found inner.run inner.waiting end)) parts.0 ∙ closed-through tree w b inner.run inner.waiting parts.1 in
          subst (Goes (lead_to tree w q (suc n) cb b run ws)) (sym (same ∙ closed))
          (subst (λ (x : Going). Goes x (found inner.run inner.waiting goes_on)) (sym (lead-inside tree w q n cb b run ws (stops-not tree q b (all b l)) i ∙ ended-through tree w q cb b g own.end parts.1))
          (record { end = refl; run = own.run; waiting = own.waiting }))

  pub way-on : (n : ℕ) → OnAll n
  unfolding lead_to forward_to
  way-on zero cb b run ws l h = record { end = refl; run = refl; waiting = refl }
  way-on (suc n) cb b run ws l h = on-step n (λ cb b run ws l h. way-on n cb b run ws l h) cb b run ws l h
