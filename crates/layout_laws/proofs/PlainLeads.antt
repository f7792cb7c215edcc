-- Where no box is cleared, the margins that adjoin a box's top end at no cleared one, whichever boxes count as passed.
use Rattle.std.proofs.Common.{◌≡◌, ℕ, zero, suc, ℤ, Bool, true, false, not, ◌&&◌, List, [], ◌∷◌, length, arith, refl, sym, ap, ◌∙◌, Option, None}
use Rattle.viz_base.specs.declared.layouts.Band.{Band}
use Rattle.viz_base.specs.declared.layouts.Extent.{Extent}
use Rattle.viz_base.specs.declared.layouts.LeadEnd.{LeadEnd}
use Rattle.viz_base.specs.declared.layouts.LeadEnd.TheVariants as of_end
use Rattle.viz_base.specs.declared.layouts.Waiting.{Waiting}
use Rattle.viz_base.specs.declared.styles.Clear.TheVariants as of_clear
use Rattle.viz_base.specs.declared.trees.BoxTree.{BoxTree}
use Rattle.viz_base.specs.declared.worlds.World.{World}
use Rattle.layout_semantics.specs.Floats.{FloatBox}
use Rattle.layout_semantics.specs.FlowBoxes.{clear_of, is_open_above, may_collapse_through, flow_children, block_band}
use Rattle.layout_semantics.specs.InlineContent.{is_floated_at, has_line}
use Rattle.layout_semantics.specs.Leads.{Leading, top_margin, bottom_margin, followed_by, through, child_lead, children_lead, lead_step, lead_to, lead, all_passed}
use Rattle.layout_semantics.specs.Clearance.{Base, on_ground, Resolved, resolve, resolve_to}

abbrev pub ends_cleared : LeadEnd → Bool
ends_cleared (of_end.Cleared d) = true
ends_cleared _ = false

module _ (tree : BoxTree) (w : World) where
  different : true ≡ false → ⊥
  different e = grind arith

  followed-plain : (first rest : Leading) → ends_cleared first.end ≡ false → ends_cleared rest.end ≡ false → ends_cleared (followed_by tree w first rest).end ≡ false
  followed-plain first rest e f = by_end first.end refl
    where
      by_end : (end : LeadEnd) → first.end ≡ end → ends_cleared (followed_by tree w first rest).end ≡ false
      by_end of_end.Through g = rw g f
      by_end (of_end.Solid d) g = rw g refl
      by_end (of_end.Cleared d) g = absurd (different (sym (ap ends_cleared g) ∙ e))

  -- a child's lead from its own
  abbrev pub child_from : Band ℤ → ℕ → Leading → Bool → Leading
  child_from cb k own true = record { margins = []; waiting = record { at = k; cb = cb } ∷ []; end = of_end.Through; cb = cb }
  child_from cb k own false = followed_by tree w own (through tree w cb (bottom_margin tree w cb k ∷ []))

  module _ (go one : ℕ → Leading) (plain : (k : ℕ) → ends_cleared (go k).end ≡ false) (same : (k : ℕ) → go k ≡ one k) where
    child-plain : (cb : Band ℤ) (k : ℕ) → ends_cleared (child_lead tree w go cb k).end ≡ false
    child-plain cb k = by_sort (is_floated_at tree k)
      where
        by_sort : (f : Bool) → ends_cleared (child_from cb k (go k) f).end ≡ false
        by_sort true = refl
        by_sort false = followed-plain (go k) (through tree w cb (bottom_margin tree w cb k ∷ [])) (plain k) refl

    children-plain : (cb : Band ℤ) (ks : List ℕ) → ends_cleared (children_lead tree w go cb ks).end ≡ false
    children-plain cb [] = refl
    children-plain cb (k ∷ ks) = followed-plain (child_lead tree w go cb k) (children_lead tree w go cb ks) (child-plain cb k) (children-plain cb ks)

    child-same : (cb : Band ℤ) (k : ℕ) → child_lead tree w go cb k ≡ child_lead tree w one cb k
    child-same cb k = ap (λ (own : Leading). child_from cb k own (is_floated_at tree k)) (same k)

    children-same : (cb : Band ℤ) (ks : List ℕ) → children_lead tree w go cb ks ≡ children_lead tree w one cb ks
    children-same cb [] = refl
    children-same cb (k ∷ ks) =
        ap (λ (first : Leading). followed_by tree w first (children_lead tree w go cb ks)) (child-same cb k)
        ∙ ap (followed_by tree w (child_lead tree w one cb k)) (children-same cb ks)

  -- a lead from its children's, of a box that is not cleared
  abbrev pub last_of : Band ℤ → ℕ → Bool → Leading
  last_of cb b true = through tree w cb []
  last_of cb b false = record { margins = []; waiting = []; end = of_end.Solid b; cb = cb }

  abbrev pub box_from : Band ℤ → ℕ → Leading → Bool → Leading
  box_from cb b children false = record { margins = top_margin tree w cb b ∷ []; waiting = []; end = of_end.Solid b; cb = cb }
  box_from cb b children true = followed_by tree w (through tree w cb (top_margin tree w cb b ∷ [])) (followed_by tree w children (last_of cb b (may_collapse_through tree b)))

  box-plain : (cb : Band ℤ) (b : ℕ) (children : Leading) (opens : Bool) → ends_cleared children.end ≡ false → ends_cleared (box_from cb b children opens).end ≡ false
  box-plain cb b children false e = refl
  box-plain cb b children true e = followed-plain children (last_of cb b (may_collapse_through tree b)) e (by_last (may_collapse_through tree b))
    where
      by_last : (last : Bool) → ends_cleared (last_of cb b last).end ≡ false
      by_last true = refl
      by_last false = refl

  module _ (no_clear : (b : ℕ) → clear_of tree b ≡ of_clear.Nothing) where
    step-is : (go : Band ℤ → ℕ → Leading) (passed : ℕ → Bool) (cb : Band ℤ) (b : ℕ)
        → lead_step tree w go passed cb b ≡ box_from cb b (children_lead tree w (go (block_band tree w cb b)) (block_band tree w cb b) (flow_children tree b)) (is_open_above tree b && not (has_line tree b))
    step-is go passed cb b = rw (no_clear b)

    lead-plain : (levels : ℕ) (passed : ℕ → Bool) (cb : Band ℤ) (b : ℕ) → ends_cleared (lead_to tree w levels passed cb b).end ≡ false
    unfolding lead_to
    lead-plain zero passed cb b = refl
    lead-plain (suc levels) passed cb b =
        let band = block_band tree w cb b in
        let go = lead_to tree w levels passed band in
        ap (λ (l : Leading). ends_cleared l.end) (step-is (lead_to tree w levels passed) passed cb b)
        ∙ box-plain cb b (children_lead tree w go band (flow_children tree b)) (is_open_above tree b && not (has_line tree b))
        (children-plain go go (λ k. lead-plain levels passed band k) (λ k. refl) band (flow_children tree b))

    lead-same : (levels : ℕ) (passed : ℕ → Bool) (cb : Band ℤ) (b : ℕ) → lead_to tree w levels passed cb b ≡ lead_to tree w levels all_passed cb b
    unfolding lead_to
    lead-same zero passed cb b = refl
    lead-same (suc levels) passed cb b =
        let band = block_band tree w cb b in
        let go = lead_to tree w levels passed band in
        let one = lead_to tree w levels all_passed band in
        step-is (lead_to tree w levels passed) passed cb b
        ∙ (ap (λ (l : Leading). box_from cb b l (is_open_above tree b && not (has_line tree b)))
        (children-same go one (λ k. lead-plain levels passed band k) (λ k. lead-same levels passed band k) band (flow_children tree b))
        ∙ sym (step-is (lead_to tree w levels all_passed) all_passed cb b))

    pub resolve-plain : (size : Waiting ℤ → Extent ℤ) (base : Base) (floats : List FloatBox) (least : Option ℤ) (run : List ℤ) (cb : Band ℤ) (b : ℕ) (passed : ℕ → Bool)
        → resolve (on_ground tree w size base floats least) run cb b passed ≡ record { margins = (lead tree w all_passed cb b).margins; cleared = None }
    unfolding resolve_to
    resolve-plain size base floats least run cb b passed =
        by_end (lead tree w passed cb b).end refl ∙ ap (λ (l : Leading). from l.margins) (lead-same (length tree.boxes) passed cb b)
      where
        from : List ℤ → Resolved
        from margins = record { margins = margins; cleared = None }

        by_end : (end : LeadEnd) → (lead tree w passed cb b).end ≡ end → resolve (on_ground tree w size base floats least) run cb b passed ≡ from (lead tree w passed cb b).margins
        by_end of_end.Through g = rw g
        by_end (of_end.Solid d) g = rw g
        by_end (of_end.Cleared d) g = absurd (different (sym (ap ends_cleared g) ∙ lead-plain (length tree.boxes) passed cb b))
