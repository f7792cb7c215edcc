-- The steps of a lead and of the way forward, case by case.
use Rattle.std.proofs.Common.{◌≡◌, ℕ, suc, ℤ, Bool, true, false, List, [], ◌∷◌, ◌++◌, Option, refl, ap, ◌∙◌}
use Rattle.viz_base.specs.declared.layouts.Band.{Band}
use Rattle.viz_base.specs.declared.layouts.Extent.{Extent}
use Rattle.viz_base.specs.declared.layouts.LeadEnd.{LeadEnd}
use Rattle.viz_base.specs.declared.layouts.LeadEnd.TheVariants as of_end
use Rattle.viz_base.specs.declared.layouts.Waiting.{Waiting}
use Rattle.viz_base.specs.declared.trees.BoxTree.{BoxTree}
use Rattle.viz_base.specs.declared.worlds.World.{World}
use Rattle.layout_semantics.specs.Floats.{FloatBox}
use Rattle.layout_semantics.specs.FlowBoxes.{may_collapse_through, flow_children}
use Rattle.layout_semantics.specs.InlineContent.{is_floated_at}
use Rattle.layout_semantics.specs.Clearance.{Base, Ground, on_ground}
use Rattle.lay_margin.specs.declared.runs.Run.{Run}
use Rattle.lay_margin.specs.Runs.{with_margin}
use Rattle.lay_margin.specs.steps.Leads.{Going, ending, through, going_on, passed_kid, kids_going, closed_end, ended_by, enters, stops, inner_band, margin_above, lead_to}
use Rattle.lay_margin.specs.steps.Leads.{kid_of as lead_kid}
use Rattle.lay_steps.specs.Forward.{goes_on, solid, Found, found, decided_found, closed_found, passed_box, kid_of, kids_found, decided, forward_to}

-- ---- what goes on

abbrev going_by : Going → Going → LeadEnd → Going
going_by g rest end = elim end as (λ _. Going) [ of_end.Through ↦ rest | of_end.Solid b ↦ g | of_end.Cleared b ↦ g ]

pub on-through : (g rest : Going) → g.end ≡ of_end.Through → going_on g rest ≡ rest
on-through g rest e = ap (going_by g rest) e

pub on-solid : (g rest : Going) (d : ℕ) → g.end ≡ of_end.Solid d → going_on g rest ≡ g
on-solid g rest d e = ap (going_by g rest) e

pub on-cleared : (g rest : Going) (d : ℕ) → g.end ≡ of_end.Cleared d → going_on g rest ≡ g
on-cleared g rest d e = ap (going_by g rest) e

module _ (tree : BoxTree) (w : World) (p : ℕ → Bool) where
  -- ---- a child of a lead

  abbrev kid_by : (ℕ → Run ℤ → List (Waiting ℤ) → Going) → Band ℤ → ℕ → Run ℤ → List (Waiting ℤ) → Bool → Going
  kid_by go cb k run ws f = elim f as (λ _. Going) [ true ↦ through cb run (ws ++ record { at = k; cb = cb } ∷ []) | false ↦ passed_kid tree w p cb k (go k run ws) ]

  pub kid-float : (go : ℕ → Run ℤ → List (Waiting ℤ) → Going) (cb : Band ℤ) (k : ℕ) (run : Run ℤ) (ws : List (Waiting ℤ)) → is_floated_at tree k ≡ true
      → lead_kid tree w p go cb run ws k ≡ through cb run (ws ++ record { at = k; cb = cb } ∷ [])
  unfolding lead_kid
  kid-float go cb k run ws e = ap (kid_by go cb k run ws) e

  pub kid-flow : (go : ℕ → Run ℤ → List (Waiting ℤ) → Going) (cb : Band ℤ) (k : ℕ) (run : Run ℤ) (ws : List (Waiting ℤ)) → is_floated_at tree k ≡ false
      → lead_kid tree w p go cb run ws k ≡ passed_kid tree w p cb k (go k run ws)
  unfolding lead_kid
  kid-flow go cb k run ws e = ap (kid_by go cb k run ws) e

  -- ---- the end of a box

  abbrev ended_at : Band ℤ → ℕ → Going → LeadEnd → Going
  ended_at cb b g end = ending g.run g.waiting (closed_end tree b cb (record { end = end; cb = g.cb })).end (closed_end tree b cb (record { end = end; cb = g.cb })).cb

  abbrev ended_through : Band ℤ → ℕ → Going → Bool → Going
  ended_through cb b g m = ending g.run g.waiting (elim m as (λ _. LeadEnd) [ true ↦ of_end.Through | false ↦ of_end.Solid b ]) cb

  pub ended-through : (cb : Band ℤ) (b : ℕ) (g : Going) → g.end ≡ of_end.Through → may_collapse_through tree b ≡ true → ended_by tree w p cb b g ≡ ending g.run g.waiting of_end.Through cb
  ended-through cb b g e m = ap (ended_at cb b g) e ∙ ap (ended_through cb b g) m

  pub ended-stops : (cb : Band ℤ) (b : ℕ) (g : Going) → g.end ≡ of_end.Through → may_collapse_through tree b ≡ false → ended_by tree w p cb b g ≡ ending g.run g.waiting (of_end.Solid b) cb
  ended-stops cb b g e m = ap (ended_at cb b g) e ∙ ap (ended_through cb b g) m

  pub ended-solid : (cb : Band ℤ) (b : ℕ) (g : Going) (d : ℕ) → g.end ≡ of_end.Solid d → ended_by tree w p cb b g ≡ ending g.run g.waiting (of_end.Solid d) g.cb
  ended-solid cb b g d e = ap (ended_at cb b g) e

  pub ended-cleared : (cb : Band ℤ) (b : ℕ) (g : Going) (d : ℕ) → g.end ≡ of_end.Cleared d → ended_by tree w p cb b g ≡ ending g.run g.waiting (of_end.Cleared d) g.cb
  ended-cleared cb b g d e = ap (ended_at cb b g) e

  -- ---- a box

  abbrev pub kids_lead : ℕ → Band ℤ → List ℕ → Run ℤ → List (Waiting ℤ) → Going
  kids_lead n band ks run ws = kids_going tree w p (lead_kid tree w p (lead_to tree w p n band) band) band ks run ws

  -- of what is in it
  abbrev pub inner_lead : ℕ → Band ℤ → ℕ → Run ℤ → List (Waiting ℤ) → Going
  inner_lead n cb b run ws = kids_lead n (inner_band tree w cb b) (flow_children tree b) (with_margin run (margin_above tree w cb b)) ws

  abbrev box_by : ℕ → Band ℤ → ℕ → Run ℤ → List (Waiting ℤ) → Bool → Bool → Going
  box_by n cb b run ws i s = elim s as (λ _. Going) [
    | true ↦ ending run ws (of_end.Cleared b) cb
    | false ↦ elim i as (λ _. Going) [ false ↦ ending (with_margin run (margin_above tree w cb b)) ws (of_end.Solid b) cb | true ↦ ended_by tree w p cb b (inner_lead n cb b run ws) ]
  ]

  pub lead-stops : (n : ℕ) (cb : Band ℤ) (b : ℕ) (run : Run ℤ) (ws : List (Waiting ℤ)) → stops tree p b ≡ true → lead_to tree w p (suc n) cb b run ws ≡ ending run ws (of_end.Cleared b) cb
  unfolding lead_to
  lead-stops n cb b run ws e = ap (box_by n cb b run ws (enters tree b)) e

  pub lead-solid : (n : ℕ) (cb : Band ℤ) (b : ℕ) (run : Run ℤ) (ws : List (Waiting ℤ)) → stops tree p b ≡ false → enters tree b ≡ false
      → lead_to tree w p (suc n) cb b run ws ≡ ending (with_margin run (margin_above tree w cb b)) ws (of_end.Solid b) cb
  unfolding lead_to
  lead-solid n cb b run ws e i = ap (box_by n cb b run ws (enters tree b)) e ∙ ap (λ (x : Bool). box_by n cb b run ws x false) i

  pub lead-inside : (n : ℕ) (cb : Band ℤ) (b : ℕ) (run : Run ℤ) (ws : List (Waiting ℤ)) → stops tree p b ≡ false → enters tree b ≡ true
      → lead_to tree w p (suc n) cb b run ws ≡ ended_by tree w p cb b (inner_lead n cb b run ws)
  unfolding lead_to
  lead-inside n cb b run ws e i = ap (box_by n cb b run ws (enters tree b)) e ∙ ap (λ (x : Bool). box_by n cb b run ws x false) i

-- ---- the way forward

module _ (tree : BoxTree) (w : World) where
  abbrev found_by : (ℕ → Run ℤ → List (Waiting ℤ) → Found) → Band ℤ → ℕ → Run ℤ → List (Waiting ℤ) → Bool → Found
  found_by go cb k run ws f = elim f as (λ _. Found) [ true ↦ found run (ws ++ record { at = k; cb = cb } ∷ []) goes_on | false ↦ passed_box tree w cb k (go k run ws) ]

  pub found-float : (go : ℕ → Run ℤ → List (Waiting ℤ) → Found) (cb : Band ℤ) (k : ℕ) (run : Run ℤ) (ws : List (Waiting ℤ)) → is_floated_at tree k ≡ true
      → kid_of tree w go cb run ws k ≡ found run (ws ++ record { at = k; cb = cb } ∷ []) goes_on
  unfolding kid_of
  found-float go cb k run ws e = ap (found_by go cb k run ws) e

  pub found-flow : (go : ℕ → Run ℤ → List (Waiting ℤ) → Found) (cb : Band ℤ) (k : ℕ) (run : Run ℤ) (ws : List (Waiting ℤ)) → is_floated_at tree k ≡ false
      → kid_of tree w go cb run ws k ≡ passed_box tree w cb k (go k run ws)
  unfolding kid_of
  found-flow go cb k run ws e = ap (found_by go cb k run ws) e

  abbrev closed_by : ℕ → Found → Bool → Found
  closed_by b f m = elim m as (λ _. Found) [ true ↦ f | false ↦ found f.run f.waiting solid ]

  pub closed-through : (b : ℕ) (run : Run ℤ) (ws : List (Waiting ℤ)) → may_collapse_through tree b ≡ true → closed_found tree b (found run ws goes_on) ≡ found run ws goes_on
  closed-through b run ws m = ap (closed_by b (found run ws goes_on)) m

  pub closed-stops : (b : ℕ) (run : Run ℤ) (ws : List (Waiting ℤ)) → may_collapse_through tree b ≡ false → closed_found tree b (found run ws goes_on) ≡ found run ws solid
  closed-stops b run ws m = ap (closed_by b (found run ws goes_on)) m

module _ (tree : BoxTree) (w : World) (size : Waiting ℤ → Extent ℤ) (base : Base) (floats : List FloatBox) (least : Option ℤ) where
  abbrev ground : Ground
  ground = on_ground tree w size base floats least

  abbrev pub way_to : (ℕ → Bool) → ℕ → Band ℤ → ℕ → Run ℤ → List (Waiting ℤ) → Found
  way_to p n cb b run ws = forward_to ground p n cb b run ws

  abbrev pub kids_way : (ℕ → Bool) → ℕ → Band ℤ → List ℕ → Run ℤ → List (Waiting ℤ) → Found
  kids_way p n band ks run ws = kids_found tree w (kid_of tree w (way_to p n band) band) ks run ws

  -- of what is in a box
  abbrev pub inner_way : (ℕ → Bool) → ℕ → Band ℤ → ℕ → Run ℤ → List (Waiting ℤ) → Found
  inner_way p n cb b run ws = kids_way p n (inner_band tree w cb b) (flow_children tree b) (with_margin run (margin_above tree w cb b)) ws

  abbrev pub decision : Band ℤ → ℕ → Run ℤ → List (Waiting ℤ) → Option ℤ
  decision cb d run ws = decided ground cb d run ws

  -- of a box that counts as not cleared, from the way of what is in it
  abbrev pub entered : Band ℤ → ℕ → Run ℤ → List (Waiting ℤ) → Found → Bool → Found
  entered cb b run ws inner i = elim i as (λ _. Found) [ true ↦ closed_found tree b inner | false ↦ found (with_margin run (margin_above tree w cb b)) ws solid ]

  abbrev way_by : Band ℤ → ℕ → Run ℤ → List (Waiting ℤ) → Found → Bool → Bool → Found
  way_by cb b run ws inner i s = elim s as (λ _. Found) [ true ↦ decided_found b run ws (decision cb b run ws) (entered cb b run ws inner i) | false ↦ entered cb b run ws inner i ]

  pub way-is : (p : ℕ → Bool) (n : ℕ) (cb : Band ℤ) (b : ℕ) (run : Run ℤ) (ws : List (Waiting ℤ))
      → way_to p (suc n) cb b run ws ≡ way_by cb b run ws (inner_way p n cb b run ws) (enters tree b) (stops tree p b)
  unfolding forward_to
  way-is p n cb b run ws = refl

  pub way-stops : (p : ℕ → Bool) (n : ℕ) (cb : Band ℤ) (b : ℕ) (run : Run ℤ) (ws : List (Waiting ℤ)) → stops tree p b ≡ true
      → way_to p (suc n) cb b run ws ≡ decided_found b run ws (decision cb b run ws) (entered cb b run ws (inner_way p n cb b run ws) (enters tree b))
  way-stops p n cb b run ws e = way-is p n cb b run ws ∙ ap (way_by cb b run ws (inner_way p n cb b run ws) (enters tree b)) e

  pub way-enters : (p : ℕ → Bool) (n : ℕ) (cb : Band ℤ) (b : ℕ) (run : Run ℤ) (ws : List (Waiting ℤ)) → stops tree p b ≡ false
      → way_to p (suc n) cb b run ws ≡ entered cb b run ws (inner_way p n cb b run ws) (enters tree b)
  way-enters p n cb b run ws e = way-is p n cb b run ws ∙ ap (way_by cb b run ws (inner_way p n cb b run ws) (enters tree b)) e
