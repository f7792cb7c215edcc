-- More levels change no lead.
use Rattle.std.proofs.Common.{◌≡◌, ℕ, zero, suc, ◌+◌, ◌<◌, ◌≤◌, ℤ, true, false, List, [], ◌∷◌, ◌++◌, length, refl, ap, ◌∙◌, arith}
use Rattle.std.specs.Prelude.{Bool}
use Rattle.std.specs.List.{AllByRecursion}
use Rattle.viz_base.specs.declared.layouts.Band.{Band}
use Rattle.viz_base.specs.declared.layouts.Waiting.{Waiting}
use Rattle.viz_base.specs.declared.trees.BoxTree.{BoxTree}
use Rattle.viz_base.specs.declared.worlds.World.{World}
use Rattle.layout_semantics.specs.FlowBoxes.{flow_children}
use Rattle.layout_semantics.specs.InlineContent.{is_floated_at}
use Rattle.layout_laws.proofs.Levels.{IsFrom}
use Rattle.layout_laws.proofs.LeadLevels.{children-from}
use Rattle.lay_margin.specs.declared.runs.Run.{Run}
use Rattle.lay_margin.specs.Runs.{with_margin}
use Rattle.lay_margin.specs.steps.Leads.{Going, through, going_on, passed_kid, kid_of, kids_going, inside_going, box_going, inner_band, margin_above, lead_step, lead_to, lead_of}

module _ (tree : BoxTree) (w : World) (passed : ℕ → Bool) where
  kids-same : (f g : Run ℤ → List (Waiting ℤ) → ℕ → Going) (P : ℕ → Type 0) (cb : Band ℤ) (ks : List ℕ) (run : Run ℤ) (ws : List (Waiting ℤ)) → AllByRecursion P ks
      → ((k : ℕ) (r : Run ℤ) (v : List (Waiting ℤ)) → P k → f r v k ≡ g r v k) → kids_going tree w passed f cb ks run ws ≡ kids_going tree w passed g cb ks run ws
  kids-same f g P cb [] run ws a same = refl
  kids-same f g P cb (k ∷ ks) run ws a same =
      ap (λ (t : Going). going_on t (kids_going tree w passed f cb ks t.run t.waiting)) (same k run ws a.0)
      ∙ ap (going_on (g run ws k)) (kids-same f g P cb ks (g run ws k).run (g run ws k).waiting a.1 same)

  lead-enough : (n m b : ℕ) (cb : Band ℤ) (run : Run ℤ) (ws : List (Waiting ℤ)) → b < length tree.boxes → length tree.boxes ≤ n + b → length tree.boxes ≤ m + b
      → lead_to tree w passed n cb b run ws ≡ lead_to tree w passed m cb b run ws
  unfolding lead_to kid_of
  lead-enough zero m b cb run ws l p q = absurd (omega arith)
  lead-enough (suc n) zero b cb run ws l p q = absurd (omega arith)
  lead-enough (suc n) (suc m) b cb run ws l p q =
      let band = inner_band tree w cb b in
      let own = with_margin run (margin_above tree w cb b) in
      let below = kids-same (kid_of tree w passed (lead_to tree w passed n band) band) (kid_of tree w passed (lead_to tree w passed m band) band) (IsFrom tree.boxes (suc b)) band (flow_children tree b) own ws (children-from tree b)
      (λ k r v i. let after = i.from in
      ap (λ (t : Going). elim (is_floated_at tree k) as (λ _. Going) [ true ↦ through band r (v ++ record { at = k; cb = band } ∷ []) | false ↦ passed_kid tree w passed band k t ])
      (lead-enough n m k band r v i.within (omega arith) (omega arith))) in
      ap (λ (t : Going). box_going tree w passed cb b run ws (inside_going tree w passed cb b own ws t)) below

  pub lead-is : (b : ℕ) (cb : Band ℤ) (run : Run ℤ) (ws : List (Waiting ℤ)) → b < length tree.boxes
      → lead_of tree w passed cb b run ws ≡ lead_step tree w passed (lead_of tree w passed) cb b run ws
  unfolding lead_to
  lead-is b cb run ws l = lead-enough (length tree.boxes) (suc (length tree.boxes)) b cb run ws l (omega arith) (omega arith)
