-- More levels change no lead; where a lead ends and which floats wait in it.
use Rattle.std.proofs.Common.{◌≡◌, ℕ, zero, suc, ◌+◌, ◌<◌, ◌≤◌, ℤ, Bool, true, false, not, ◌&&◌, List, [], ◌∷◌, length, refl, sym, ap, ◌∙◌, subst, arith}
use Rattle.std.specs.List.{AllByRecursion}
use Rattle.viz_base.specs.declared.layouts.Band.{Band}
use Rattle.viz_base.specs.declared.layouts.LeadEnd.{LeadEnd}
use Rattle.viz_base.specs.declared.layouts.LeadEnd.TheVariants as of_end
use Rattle.viz_base.specs.declared.layouts.Waiting.{Waiting}
use Rattle.viz_base.specs.declared.trees.BoxTree.{BoxTree}
use Rattle.viz_base.specs.declared.worlds.World.{World}
use Rattle.viz_base.proofs.ListLemmas.{all_append}
use Rattle.layout_semantics.specs.FlowBoxes.{clear_of, is_open_above, may_collapse_through, flow_children, block_band}
use Rattle.layout_semantics.specs.InlineContent.{Item, start, finish, word, space, atomic, forced, float, content, float_boxes, box_of, holds_inline, is_floated_at, has_line}
use Rattle.layout_semantics.specs.Leads.{Leading, clears_something, top_margin, bottom_margin, followed_by, through, child_lead, children_lead, lead_step, lead_to, lead}
use Rattle.layout_semantics.proofs.Pages.{forest}
use Rattle.layout_laws.proofs.Levels.{IsFrom, All-implied, content-from, kids-within}
use Rattle.layout_laws.proofs.PlainLeads.{child_from, box_from, last_of}

-- ---- the children in the flow of a box come after it

floats-from : (tree : BoxTree) (low : ℕ) (items : List Item) → AllByRecursion (λ i. IsFrom tree.boxes low (box_of i)) items → AllByRecursion (IsFrom tree.boxes low) (float_boxes items)
floats-from tree low [] a = tt
floats-from tree low (start at ∷ items) a = floats-from tree low items a.1
floats-from tree low (finish at ∷ items) a = floats-from tree low items a.1
floats-from tree low (word at text ∷ items) a = floats-from tree low items a.1
floats-from tree low (space at ∷ items) a = floats-from tree low items a.1
floats-from tree low (atomic at ∷ items) a = floats-from tree low items a.1
floats-from tree low (forced at ∷ items) a = floats-from tree low items a.1
floats-from tree low (float at ∷ items) a = (a.0, floats-from tree low items a.1)

pub children-from : (tree : BoxTree) (b : ℕ) → AllByRecursion (IsFrom tree.boxes (suc b)) (flow_children tree b)
children-from tree b = by_sort (holds_inline tree b) refl
  where
    by_sort : (h : Bool) → holds_inline tree b ≡ h → AllByRecursion (IsFrom tree.boxes (suc b)) (flow_children tree b)
    by_sort true e = rw e (floats-from tree (suc b) (content tree b) (content-from tree b (forest tree)))
    by_sort false e = rw e (kids-within tree b (forest tree))

-- ---- enough levels

module _ (tree : BoxTree) (w : World) where
  -- a lead from its children's
  abbrev pub lead_from : Band ℤ → ℕ → Leading → Bool → (clears : Bool) → Leading
  lead_from cb b children opens true = record { margins = []; waiting = []; end = of_end.Cleared b; cb = cb }
  lead_from cb b children opens false = box_from tree w cb b children opens

  abbrev pub inner_lead : (Band ℤ → ℕ → Leading) → Band ℤ → ℕ → Leading
  inner_lead go cb b = children_lead tree w (go (block_band tree w cb b)) (block_band tree w cb b) (flow_children tree b)

  pub lead-from : (go : Band ℤ → ℕ → Leading) (passed : ℕ → Bool) (cb : Band ℤ) (b : ℕ)
      → lead_step tree w go passed cb b ≡ lead_from cb b (inner_lead go cb b) (is_open_above tree b && not (has_line tree b)) (clears_something (clear_of tree b) && not (passed b))
  lead-from go passed cb b = by (clears_something (clear_of tree b) && not (passed b)) (is_open_above tree b && not (has_line tree b)) refl refl
    where
      by : (clears opens : Bool) → (clears_something (clear_of tree b) && not (passed b)) ≡ clears → (is_open_above tree b && not (has_line tree b)) ≡ opens
          → lead_step tree w go passed cb b ≡ lead_from cb b (inner_lead go cb b) (is_open_above tree b && not (has_line tree b)) (clears_something (clear_of tree b) && not (passed b))
      by true opens e f = rw e refl
      by false true e f = rw (e, f) refl
      by false false e f = rw (e, f) refl

  children-same : (go one : ℕ → Leading) (P : ℕ → Type 0) (cb : Band ℤ) (ks : List ℕ) → AllByRecursion P ks → ((k : ℕ) → P k → go k ≡ one k) → children_lead tree w go cb ks ≡ children_lead tree w one cb ks
  children-same go one P cb [] a same = refl
  children-same go one P cb (k ∷ ks) a same =
      ap (λ (own : Leading). followed_by tree w (child_from tree w cb k own (is_floated_at tree k)) (children_lead tree w go cb ks)) (same k a.0)
      ∙ ap (followed_by tree w (child_lead tree w one cb k)) (children-same go one P cb ks a.1 same)

  pub lead-enough : (n m : ℕ) (passed : ℕ → Bool) (cb : Band ℤ) (b : ℕ) → b < length tree.boxes → length tree.boxes ≤ n + b → length tree.boxes ≤ m + b → lead_to tree w n passed cb b ≡ lead_to tree w m passed cb b
  unfolding lead_to
  lead-enough zero m passed cb b l p q = absurd (omega arith)
  lead-enough (suc n) zero passed cb b l p q = absurd (omega arith)
  lead-enough (suc n) (suc m) passed cb b l p q =
      let band = block_band tree w cb b in
      lead-from (lead_to tree w n passed) passed cb b
      ∙ (ap (λ (l : Leading). lead_from cb b l (is_open_above tree b && not (has_line tree b)) (clears_something (clear_of tree b) && not (passed b)))
      (children-same (lead_to tree w n passed band) (lead_to tree w m passed band) (IsFrom tree.boxes (suc b)) band (flow_children tree b) (children-from tree b)
      (λ k f. let after = f.from in lead-enough n m passed band k f.within (omega arith) (omega arith)))
      ∙ sym (lead-from (lead_to tree w m passed) passed cb b))

  pub lead-is : (passed : ℕ → Bool) (cb : Band ℤ) (b : ℕ) → b < length tree.boxes → lead tree w passed cb b ≡ lead_step tree w (lead tree w passed) passed cb b
  unfolding lead_to
  lead-is passed cb b l = lead-enough (length tree.boxes) (suc (length tree.boxes)) passed cb b l (omega arith) (omega arith)

  -- ---- where it ends, and what waits

  abbrev pub EndsWell : (ℕ → Bool) → LeadEnd → Type 0
  EndsWell passed (of_end.Cleared d) = (d < length tree.boxes) × (passed d ≡ false)
  EndsWell passed _ = Unit {0}

  pub record IsLeadFrom (passed : ℕ → Bool) (low : ℕ) (l : Leading) : Type 0 where
    pub ends : EndsWell passed l.end
    pub waits : AllByRecursion (λ (f : Waiting ℤ). IsFrom tree.boxes low f.at) l.waiting

  module _ (passed : ℕ → Bool) (low : ℕ) where
    followed-from : (first rest : Leading) → IsLeadFrom passed low first → IsLeadFrom passed low rest → IsLeadFrom passed low (followed_by tree w first rest)
    followed-from first rest a b = by_end first.end refl
      where
        by_end : (end : LeadEnd) → first.end ≡ end → IsLeadFrom passed low (followed_by tree w first rest)
        by_end of_end.Through g = rw g (record { ends = b.ends; waits = all_append (λ (f : Waiting ℤ). IsFrom tree.boxes low f.at) first.waiting rest.waiting a.waits b.waits })
        by_end (of_end.Solid d) g = rw g (record { ends = tt; waits = a.waits })
        by_end (of_end.Cleared d) g = let ends = subst (EndsWell passed) g a.ends in rw g (record { ends = ends; waits = a.waits })

    child-from : (cb : Band ℤ) (k : ℕ) (own : Leading) (floats : Bool) → IsFrom tree.boxes low k → IsLeadFrom passed low own → IsLeadFrom passed low (child_from tree w cb k own floats)
    child-from cb k own true f a = record { ends = tt; waits = (f, tt) }
    child-from cb k own false f a = followed-from own (through tree w cb (bottom_margin tree w cb k ∷ [])) a (record { ends = tt; waits = tt })

    all-from : (go : ℕ → Leading) (cb : Band ℤ) (ks : List ℕ) → AllByRecursion (IsFrom tree.boxes low) ks → ((k : ℕ) → IsFrom tree.boxes low k → IsLeadFrom passed low (go k)) → IsLeadFrom passed low (children_lead tree w go cb ks)
    all-from go cb [] a own = record { ends = tt; waits = tt }
    all-from go cb (k ∷ ks) a own =
        followed-from (child_lead tree w go cb k) (children_lead tree w go cb ks) (child-from cb k (go k) (is_floated_at tree k) a.0 (own k a.0)) (all-from go cb ks a.1 own)

    last-from : (cb : Band ℤ) (b : ℕ) (last : Bool) → IsLeadFrom passed low (last_of tree w cb b last)
    last-from cb b true = record { ends = tt; waits = tt }
    last-from cb b false = record { ends = tt; waits = tt }

  lower : (passed : ℕ → Bool) (low high : ℕ) (l : Leading) → low ≤ high → IsLeadFrom passed high l → IsLeadFrom passed low l
  lower passed low high l m a = record {
    ends = a.ends;
    waits = All-implied (λ (f : Waiting ℤ). IsFrom tree.boxes high f.at) (λ (f : Waiting ℤ). IsFrom tree.boxes low f.at) l.waiting (λ f h. record { from = let t = h.from in omega arith; within = h.within }) a.waits;
  }

  from-parts : (passed : ℕ → Bool) (cb : Band ℤ) (b : ℕ) (children : Leading) (opens clears : Bool) (is : Bool) → b < length tree.boxes → passed b ≡ is → (is ≡ true → clears ≡ false) → IsLeadFrom passed (suc b) children
      → IsLeadFrom passed (suc b) (lead_from cb b children opens clears)
  from-parts passed cb b children opens true true l p c a = absurd (let no = c refl in cc)
  from-parts passed cb b children opens true false l p c a = record { ends = (l, p); waits = tt }
  from-parts passed cb b children false false is l p c a = record { ends = tt; waits = tt }
  from-parts passed cb b children true false is l p c a =
      followed-from passed (suc b) (through tree w cb (top_margin tree w cb b ∷ [])) (followed_by tree w children (last_of tree w cb b (may_collapse_through tree b))) (record { ends = tt; waits = tt })
      (followed-from passed (suc b) children (last_of tree w cb b (may_collapse_through tree b)) a (last-from passed (suc b) cb b (may_collapse_through tree b)))

  not-cleared : (clears passed : Bool) → passed ≡ true → (clears && not passed) ≡ false
  not-cleared true true e = refl
  not-cleared false true e = refl
  not-cleared c false e = absurd (cc)

  levels-from : (n : ℕ) (passed : ℕ → Bool) (cb : Band ℤ) (b : ℕ) → b < length tree.boxes → IsLeadFrom passed (suc b) (lead_to tree w n passed cb b)
  unfolding lead_to
  levels-from zero passed cb b l = record { ends = tt; waits = tt }
  levels-from (suc n) passed cb b l =
      let band = block_band tree w cb b in
      let children = all-from passed (suc b) (lead_to tree w n passed band) band (flow_children tree b) (children-from tree b)
      (λ k f. let after = f.from in lower passed (suc b) (suc k) (lead_to tree w n passed band k) (omega arith) (levels-from n passed band k f.within)) in
      subst (IsLeadFrom passed (suc b)) (sym (lead-from (lead_to tree w n passed) passed cb b))
      (from-parts passed cb b (inner_lead (lead_to tree w n passed) cb b) (is_open_above tree b && not (has_line tree b)) (clears_something (clear_of tree b) && not (passed b)) (passed b) l refl (not-cleared (clears_something (clear_of tree b)) (passed b)) children)

  pub lead-leads : (passed : ℕ → Bool) (cb : Band ℤ) (b : ℕ) → b < length tree.boxes → IsLeadFrom passed (suc b) (lead tree w passed cb b)
  lead-leads passed cb b l = levels-from (length tree.boxes) passed cb b l
