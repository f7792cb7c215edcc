-- A lead that passes all boxes of the tree.
use Rattle.std.proofs.Common.{◌≡◌, ℕ, zero, suc, ◌<◌, ℤ, Bool, true, false, List, [], ◌∷◌, ◌++◌, length, refl, ap, ◌∙◌, arith}
use Rattle.std.specs.List.{AllByRecursion}
use Rattle.std.proofs.lemmas.Bool.Decides.{nat_tests}
use Rattle.viz_base.specs.declared.layouts.Band.{Band}
use Rattle.viz_base.specs.declared.layouts.LeadEnd.TheVariants as of_end
use Rattle.viz_base.specs.declared.layouts.Waiting.{Waiting}
use Rattle.viz_base.specs.declared.trees.BoxTree.{BoxTree}
use Rattle.viz_base.specs.declared.worlds.World.{World}
use Rattle.layout_semantics.specs.FlowBoxes.{flow_children}
use Rattle.layout_semantics.specs.InlineContent.{is_floated_at}
use Rattle.layout_semantics.specs.Leads.{all_passed, is_up_to}
use Rattle.layout_laws.proofs.Levels.{IsFrom}
use Rattle.layout_laws.proofs.LeadLevels.{children-from}
use Rattle.lay_margin.specs.declared.runs.Run.{Run}
use Rattle.lay_margin.specs.Runs.{with_margin}
use Rattle.lay_margin.specs.steps.Leads.{Going, ending, through, going_on, passed_kid, kid_of, inside_going, stops, inner_band, margin_above, lead_to, lead_of}
use Rattle.lay_steps.proofs.LeadCases.{kids_lead, inner_lead}
use Rattle.lay_steps.proofs.Decided.{stops-same}

module _ (tree : BoxTree) (w : World) (p q : ℕ → Bool) (same : (k : ℕ) → k < length tree.boxes → p k ≡ q k) where
  abbrev Agree : ℕ → Type 0
  Agree n = (cb : Band ℤ) (k : ℕ) (r : Run ℤ) (v : List (Waiting ℤ)) → k < length tree.boxes → lead_to tree w p n cb k r v ≡ lead_to tree w q n cb k r v

  kid-agrees : (n : ℕ) → Agree n → (band : Band ℤ) (k : ℕ) (run : Run ℤ) (ws : List (Waiting ℤ)) → k < length tree.boxes
      → kid_of tree w p (lead_to tree w p n band) band run ws k ≡ kid_of tree w q (lead_to tree w q n band) band run ws k
  unfolding kid_of
  kid-agrees n again band k run ws l =
      ap (λ (g : Going). elim (is_floated_at tree k) as (λ _. Going) [ true ↦ through band run (ws ++ record { at = k; cb = band } ∷ []) | false ↦ passed_kid tree w p band k g ]) (again band k run ws l)

  kids-agree : (n : ℕ) → Agree n → (band : Band ℤ) (ks : List ℕ) (run : Run ℤ) (ws : List (Waiting ℤ)) → AllByRecursion (λ k. k < length tree.boxes) ks
      → kids_lead tree w p n band ks run ws ≡ kids_lead tree w q n band ks run ws
  kids-agree n again band [] run ws a = refl
  kids-agree n again band (k ∷ ks) run ws a =
      let g = kid_of tree w q (lead_to tree w q n band) band run ws k in
      ap (λ (g : Going). going_on g (kids_lead tree w p n band ks g.run g.waiting)) (kid-agrees n again band k run ws a.0)
      ∙ ap (going_on g) (kids-agree n again band ks g.run g.waiting a.1)

  inside : (b : ℕ) (ks : List ℕ) → AllByRecursion (IsFrom tree.boxes (suc b)) ks → AllByRecursion (λ k. k < length tree.boxes) ks
  inside b [] a = tt
  inside b (k ∷ ks) a = (a.0.within, inside b ks a.1)

  agree : (n : ℕ) → Agree n
  unfolding lead_to
  agree zero cb b run ws l = refl
  agree (suc n) cb b run ws l =
      let own = with_margin run (margin_above tree w cb b) in
      let ks = flow_children tree b in
      let below = kids-agree n (λ cb k r v l. agree n cb k r v l) (inner_band tree w cb b) ks own ws (inside b ks (children-from tree b)) in
      ap (λ (s : Bool). elim s as (λ _. Going) [ true ↦ ending run ws (of_end.Cleared b) cb | false ↦ inside_going tree w p cb b own ws (inner_lead tree w p n cb b run ws) ]) (stops-same tree p q b (same b l))
      ∙ ap (λ (g : Going). elim (stops tree q b) as (λ _. Going) [ true ↦ ending run ws (of_end.Cleared b) cb | false ↦ inside_going tree w p cb b own ws g ]) below

pub all-passed : (tree : BoxTree) (w : World) (cb : Band ℤ) (b : ℕ) (run : Run ℤ) → b < length tree.boxes
    → lead_of tree w (is_up_to (length tree.boxes)) cb b run [] ≡ lead_of tree w all_passed cb b run []
all-passed tree w cb b run l = agree tree w (is_up_to (length tree.boxes)) all_passed (λ k m. grind (arith, nat_tests)) (length tree.boxes) cb b run [] l
