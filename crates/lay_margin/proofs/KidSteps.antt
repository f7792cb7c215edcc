-- A child whose lead goes through, with its bottom margin.
use Rattle.std.proofs.Common.{◌≡◌, ℕ, ℤ, Bool, true, false, List, [], ◌∷◌, ◌++◌, ap, sym, ◌∙◌}
use Rattle.viz_base.specs.declared.layouts.Band.{Band}
use Rattle.viz_base.specs.declared.layouts.LeadEnd.{LeadEnd}
use Rattle.viz_base.specs.declared.layouts.LeadEnd.TheVariants as of_end
use Rattle.viz_base.specs.declared.layouts.Waiting.{Waiting}
use Rattle.viz_base.specs.declared.trees.BoxTree.{BoxTree}
use Rattle.viz_base.specs.declared.worlds.World.{World}
use Rattle.layout_semantics.specs.InlineContent.{is_floated_at}
use Rattle.lay_margin.specs.declared.runs.Run.{Run}
use Rattle.lay_margin.specs.Runs.{with_margin}
use Rattle.lay_margin.specs.steps.Leads.{Going, ending, through, passed_kid, kid_going, margin_below}

pub kid-through : (tree : BoxTree) (w : World) (passed : ℕ → Bool) (go : ℕ → Run ℤ → List (Waiting ℤ) → Going) (cb : Band ℤ) (k : ℕ) (run : Run ℤ) (ws : List (Waiting ℤ))
    (g : Going) (next : Run ℤ) (end : LeadEnd) (band : Band ℤ)
    → is_floated_at tree k ≡ false → go k run ws ≡ g → g.end ≡ of_end.Through → next ≡ with_margin g.run (margin_below tree w cb k) → end ≡ of_end.Through → band ≡ cb
    → ending next g.waiting end band ≡ kid_going tree w passed go cb k run ws
kid-through tree w passed go cb k run ws g next end band f e h p q s =
    ap (λ r. ending r g.waiting end band) p
    ∙ ap (λ x. ending after g.waiting x band) q
    ∙ ap (λ x. ending after g.waiting of_end.Through x) s
    ∙ sym (
    ap (λ (x : Bool). elim x as (λ _. Going) [ true ↦ through cb run (ws ++ record { at = k; cb = cb } ∷ []) | false ↦ passed_kid tree w passed cb k (go k run ws) ]) f
    ∙ ap (passed_kid tree w passed cb k) e
    ∙ ap (λ (x : LeadEnd). elim x as (λ _. Going) [ of_end.Through ↦ through cb after g.waiting | of_end.Solid b ↦ g | of_end.Cleared b ↦ g ]) h)
  where
    after : Run ℤ
    after = with_margin g.run (margin_below tree w cb k)
