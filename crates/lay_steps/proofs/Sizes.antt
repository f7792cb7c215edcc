-- The way forward asks for sizes of those floats alone that it meets.
use Rattle.std.proofs.Common.{◌≡◌, ℕ, zero, suc, ℤ, Bool, true, false, List, [], ◌∷◌, Option, None, Some, refl, sym, ap, ◌∙◌, subst}
use Rattle.std.specs.Prelude.{unwrap_or}
use Rattle.std.specs.List.{AllByRecursion}
use Rattle.viz_base.specs.declared.layouts.Band.{Band}
use Rattle.viz_base.specs.declared.layouts.Extent.{Extent}
use Rattle.viz_base.specs.declared.layouts.Waiting.{Waiting}
use Rattle.viz_base.specs.declared.trees.BoxTree.{BoxTree}
use Rattle.viz_base.specs.declared.worlds.World.{World}
use Rattle.viz_base.proofs.ListLemmas.{all_append}
use Rattle.layout_semantics.specs.Floats.{FloatBox, floating, with_float, lowest_bottom}
use Rattle.layout_semantics.specs.FlowBoxes.{clear_of, may_collapse_through, flow_children}
use Rattle.layout_semantics.specs.InlineContent.{is_floated_at}
use Rattle.layout_semantics.specs.Clearance.{Base, on_ground, with_waiting}
use Rattle.lay_margin.specs.declared.runs.Run.{Run}
use Rattle.lay_margin.specs.Runs.{with_margin}
use Rattle.lay_margin.specs.steps.Leads.{enters, stops, inner_band, margin_above, margin_below}
use Rattle.lay_steps.specs.Runs.{edge_at}
use Rattle.lay_steps.specs.Forward.{End, goes_on, solid, cleared, Found, found, then_on, decided_found, closed_found, passed_box, kid_of, hypothetical_edge, bottom_to_clear, is_above, clear_edge, forward_to}
use Rattle.lay_steps.proofs.LeadCases.{found-float, found-flow, closed-through, closed-stops, way_to, kids_way, inner_way, decision, entered, way-stops, way-enters}

module _ (tree : BoxTree) (w : World) (base : Base) (floats : List FloatBox) (least : Option ℤ) (one other : Waiting ℤ → Extent ℤ) where
  abbrev Same : Waiting ℤ → Type 0
  Same f = one f ≡ other f

  with_waiting-same : (fs : List (Waiting ℤ)) (floats : List FloatBox) (y : ℤ) → AllByRecursion Same fs → with_waiting tree one fs floats least y ≡ with_waiting tree other fs floats least y
  with_waiting-same [] floats y a = refl
  with_waiting-same (f ∷ fs) floats y a =
      ap (λ (size : Extent ℤ). with_waiting tree one fs (with_float (floating tree f.at size f.cb) floats least y) least y) a.0
      ∙ with_waiting-same fs (with_float (floating tree f.at (other f) f.cb) floats least y) y a.1

  bottom-same : (b : ℕ) (ws : List (Waiting ℤ)) (y : ℤ) → AllByRecursion Same ws → bottom_to_clear (on_ground tree w one base floats least) b ws y ≡ bottom_to_clear (on_ground tree w other base floats least) b ws y
  unfolding bottom_to_clear
  bottom-same b ws y a = ap (lowest_bottom (clear_of tree b)) (with_waiting-same ws floats y a)

  edge-same : (cb : Band ℤ) (b : ℕ) (run : Run ℤ) → hypothetical_edge (on_ground tree w one base floats least) cb b run ≡ hypothetical_edge (on_ground tree w other base floats least) cb b run
  unfolding hypothetical_edge
  edge-same cb b run = refl

  decision-same : (cb : Band ℤ) (b : ℕ) (run : Run ℤ) (ws : List (Waiting ℤ)) → AllByRecursion Same ws → decision tree w one base floats least cb b run ws ≡ decision tree w other base floats least cb b run ws
  decision-same cb b run ws a =
      let y = hypothetical_edge (on_ground tree w other base floats least) cb b run in
      let z = edge_at base run in
      ap (λ (y : ℤ). elim (is_above y (bottom_to_clear (on_ground tree w one base floats least) b ws y)) as (λ _. Option ℤ) [ true ↦ Some (clear_edge (on_ground tree w one base floats least) b run ws) | false ↦ None ]) (edge-same cb b run)
      ∙ ap (λ (o : Option ℤ). elim (is_above y o) as (λ _. Option ℤ) [ true ↦ Some (clear_edge (on_ground tree w one base floats least) b run ws) | false ↦ None ]) (bottom-same b ws y a)
      ∙ ap (λ (o : Option ℤ). elim (is_above y (bottom_to_clear (on_ground tree w other base floats least) b ws y)) as (λ _. Option ℤ) [ true ↦ Some (unwrap_or o z) | false ↦ None ]) (bottom-same b ws z a)

  -- ---- what waits

  abbrev Waits : Found → Type 0
  Waits f = AllByRecursion Same f.waiting

  on-waits : (run : Run ℤ) (ws : List (Waiting ℤ)) (end : End) (rest : Found) → AllByRecursion Same ws → Waits rest → Waits (then_on (found run ws end) rest)
  on-waits run ws goes_on rest a b = b
  on-waits run ws solid rest a b = a
  on-waits run ws (cleared d y) rest a b = a

  closed-waits : (b : ℕ) (run : Run ℤ) (ws : List (Waiting ℤ)) (end : End) → AllByRecursion Same ws → Waits (closed_found tree b (found run ws end))
  closed-waits b run ws solid a = a
  closed-waits b run ws (cleared d y) a = a
  closed-waits b run ws goes_on a = by (may_collapse_through tree b) refl
    where
      by : (m : Bool) → may_collapse_through tree b ≡ m → Waits (closed_found tree b (found run ws goes_on))
      by true m = subst Waits (sym (closed-through tree w b run ws m)) a
      by false m = subst Waits (sym (closed-stops tree w b run ws m)) a

  decided-waits : (b : ℕ) (run : Run ℤ) (ws : List (Waiting ℤ)) (o : Option ℤ) (inner : Found) → AllByRecursion Same ws → Waits inner → Waits (decided_found b run ws o inner)
  decided-waits b run ws None inner a i = i
  decided-waits b run ws (Some y) inner a i = a

  entered-waits : (cb : Band ℤ) (b : ℕ) (run : Run ℤ) (ws : List (Waiting ℤ)) (inner : Found) (i : Bool) → AllByRecursion Same ws → (i ≡ true → Waits inner) → Waits (entered tree w one base floats least cb b run ws inner i)
  entered-waits cb b run ws inner true a h = closed-waits b inner.run inner.waiting inner.end (h refl)
  entered-waits cb b run ws inner false a h = a

  -- ---- boxes whose floats have the same size

  module _ (Fine : Band ℤ → ℕ → Type 0)
      (closes : (cb : Band ℤ) (b : ℕ) → Fine cb b → enters tree b ≡ true → AllByRecursion (λ k. (is_floated_at tree k ≡ true → Same (record { at = k; cb = inner_band tree w cb b })) × (is_floated_at tree k ≡ false → Fine (inner_band tree w cb b) k)) (flow_children tree b)) where
    pub record Alike (f g : Found) : Type 0 where
      pub same : f ≡ g
      pub waits : Waits f

    abbrev go : (Waiting ℤ → Extent ℤ) → (ℕ → Bool) → ℕ → Band ℤ → ℕ → Run ℤ → List (Waiting ℤ) → Found
    go size p n cb b run ws = way_to tree w size base floats least p n cb b run ws

    abbrev go_kids : (Waiting ℤ → Extent ℤ) → (ℕ → Bool) → ℕ → Band ℤ → List ℕ → Run ℤ → List (Waiting ℤ) → Found
    go_kids size p n band ks run ws = kids_way tree w size base floats least p n band ks run ws

    abbrev IsAlike : (ℕ → Bool) → ℕ → Type 0
    IsAlike p n = (cb : Band ℤ) (b : ℕ) (run : Run ℤ) (ws : List (Waiting ℤ)) → Fine cb b → AllByRecursion Same ws → Alike (go one p n cb b run ws) (go other p n cb b run ws)

    abbrev IsFineKid : Band ℤ → ℕ → Type 0
    IsFineKid band k = (is_floated_at tree k ≡ true → Same (record { at = k; cb = band })) × (is_floated_at tree k ≡ false → Fine band k)

    kid-alike : (p : ℕ → Bool) (n : ℕ) → IsAlike p n → (band : Band ℤ) (k : ℕ) (run : Run ℤ) (ws : List (Waiting ℤ)) → IsFineKid band k → AllByRecursion Same ws
        → Alike (kid_of tree w (go one p n band) band run ws k) (kid_of tree w (go other p n band) band run ws k)
    kid-alike p n again band k run ws fine a = by (is_floated_at tree k) refl
      where
        by : (f : Bool) → is_floated_at tree k ≡ f → Alike (kid_of tree w (go one p n band) band run ws k) (kid_of tree w (go other p n band) band run ws k)
        by true f = record {
          same = found-float tree w (go one p n band) band k run ws f ∙ sym (found-float tree w (go other p n band) band k run ws f);
          waits = subst Waits (sym (found-float tree w (go one p n band) band k run ws f)) (all_append Same ws (record { at = k; cb = band } ∷ []) a (fine.0 f, tt));
        }
        by false f =
            let own = again band k run ws (fine.1 f) a in
            let g = go one p n band k run ws in
            record {
              same = found-flow tree w (go one p n band) band k run ws f ∙ ap (passed_box tree w band k) own.same ∙ sym (found-flow tree w (go other p n band) band k run ws f);
              waits = subst Waits (sym (found-flow tree w (go one p n band) band k run ws f)) (on-waits g.run g.waiting g.end (found (with_margin g.run (margin_below tree w band k)) g.waiting goes_on) own.waits own.waits);
            }

    kids-alike : (p : ℕ → Bool) (n : ℕ) → IsAlike p n → (band : Band ℤ) (ks : List ℕ) (run : Run ℤ) (ws : List (Waiting ℤ)) → AllByRecursion (IsFineKid band) ks → AllByRecursion Same ws
        → Alike (go_kids one p n band ks run ws) (go_kids other p n band ks run ws)
    kids-alike p n again band [] run ws fine a = record { same = refl; waits = a }
    kids-alike p n again band (k ∷ ks) run ws fine a =
        let f = kid_of tree w (go one p n band) band run ws k in
        let g = kid_of tree w (go other p n band) band run ws k in
        let first = kid-alike p n again band k run ws fine.0 a in
        let rest = kids-alike p n again band ks f.run f.waiting fine.1 first.waits in
        record {
          same = ap (then_on f) rest.same ∙ ap (λ (x : Found). then_on x (go_kids other p n band ks x.run x.waiting)) first.same;
          waits = on-waits f.run f.waiting f.end (go_kids one p n band ks f.run f.waiting) first.waits rest.waits;
        }

    alike-step : (p : ℕ → Bool) (n : ℕ) → IsAlike p n → IsAlike p (suc n)
    alike-step p n again cb b run ws fine a = by (stops tree p b) (enters tree b) refl refl
      where
        inner : (Waiting ℤ → Extent ℤ) → Found
        inner size = inner_way tree w size base floats least p n cb b run ws

        kids : enters tree b ≡ true → Alike (inner one) (inner other)
        kids i = kids-alike p n again (inner_band tree w cb b) (flow_children tree b) (with_margin run (margin_above tree w cb b)) ws (closes cb b fine i) a

        ends : (i : Bool) → enters tree b ≡ i → Alike (entered tree w one base floats least cb b run ws (inner one) (enters tree b)) (entered tree w other base floats least cb b run ws (inner other) (enters tree b))
        ends true i = let k = kids i in record {
          same = ap (entered tree w one base floats least cb b run ws (inner one)) i ∙ ap (closed_found tree b) k.same ∙ sym (ap (entered tree w other base floats least cb b run ws (inner other)) i);
          waits = entered-waits cb b run ws (inner one) (enters tree b) a (λ e. k.waits);
        }
        ends false i = record {
          same = ap (entered tree w one base floats least cb b run ws (inner one)) i ∙ sym (ap (entered tree w other base floats least cb b run ws (inner other)) i);
          waits = subst Waits (sym (ap (entered tree w one base floats least cb b run ws (inner one)) i)) a;
        }

        by : (s i : Bool) → stops tree p b ≡ s → enters tree b ≡ i → Alike (go one p (suc n) cb b run ws) (go other p (suc n) cb b run ws)
        by true i e j =
            let own = ends i j in
            let x = entered tree w one base floats least cb b run ws (inner one) (enters tree b) in
            record {
              same = way-stops tree w one base floats least p n cb b run ws e
                  ∙ ap (λ (o : Option ℤ). decided_found b run ws o x) (decision-same cb b run ws a)
                  ∙ ap (decided_found b run ws (decision tree w other base floats least cb b run ws)) own.same
                  ∙ sym (way-stops tree w other base floats least p n cb b run ws e);
              waits = subst Waits (sym (way-stops tree w one base floats least p n cb b run ws e)) (decided-waits b run ws (decision tree w one base floats least cb b run ws) x a own.waits);
            }
        by false i e j =
            let own = ends i j in
            record {
              same = way-enters tree w one base floats least p n cb b run ws e ∙ own.same ∙ sym (way-enters tree w other base floats least p n cb b run ws e);
              waits = subst Waits (sym (way-enters tree w one base floats least p n cb b run ws e)) own.waits;
            }

    pub sizes-alike : (p : ℕ → Bool) (n : ℕ) → IsAlike p n
    unfolding forward_to
    sizes-alike p zero cb b run ws fine a = record { same = refl; waits = a }
    sizes-alike p (suc n) cb b run ws fine a = alike-step p n (λ cb b run ws fine a. sizes-alike p n cb b run ws fine a) cb b run ws fine a
