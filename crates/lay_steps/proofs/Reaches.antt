-- Where a box is reached, from the way forward.
use Rattle.std.proofs.Common.{◌≡◌, ℕ, ℤ, Bool, true, Some, ap, sym, ◌∙◌, eq-eqb}
use Rattle.std.specs.Prelude.{◌+ℤ◌}
use Rattle.viz_base.specs.declared.layouts.Band.{Band}
use Rattle.viz_base.specs.declared.trees.BoxTree.{BoxTree}
use Rattle.viz_base.specs.declared.worlds.World.{World}
use Rattle.layout_semantics.specs.Flow.{Independent, Cleared}
use Rattle.layout_semantics.specs.Leads.{is_up_to, none_passed}
use Rattle.layout_semantics.specs.Clearance.{hangs, stands}
use Rattle.lay_margin.specs.declared.runs.Run.{Run}
use Rattle.lay_margin.specs.Runs.{no_run, collapse}
use Rattle.lay_steps.specs.Forward.{Found, cleared_of}
use Rattle.lay_steps.specs.Flow.{below, Context, met, forward_of, reached_from, reached_of}
use Rattle.lay_steps.proofs.StepCases.{met-itself, met-below}

module _ (tree : BoxTree) (w : World) (apart : ℕ → Independent) (cb : Band ℤ) (s : Context) (b : ℕ) where
  -- the cleared box itself, from what was found on its way
  pub itself-found : (y : ℤ) (o : Cleared) (c : ℕ × ℤ) (own start : Run ℤ) (f : Found) (top : ℤ) (cleared : Cleared) → o ≡ Some c → c.0 ≡ b → top ≡ c.1 → start ≡ no_run
      → f ≡ forward_of tree w apart (stands c.1) (is_up_to b) cb s b start → cleared ≡ cleared_of f.end
      → met (record { top = top; clears = true; cleared = cleared }) f.run ≡ reached_from tree w apart cb s b y o own
  itself-found y o c own start f top cleared some same edge none is ahead =
      ap (λ (x : ℤ). met (record { top = x; clears = true; cleared = cleared }) f.run) edge
      ∙ ap (λ (x : Cleared). met (record { top = c.1; clears = true; cleared = x }) f.run) ahead
      ∙ ap (λ (g : Found). met (record { top = c.1; clears = true; cleared = cleared_of g.end }) g.run) (is ∙ ap (λ r. forward_of tree w apart (stands c.1) (is_up_to b) cb s b r) none)
      ∙ sym (met-itself tree w apart cb s b y c own (eq-eqb c.0 b same))
      ∙ sym (ap (λ x. reached_from tree w apart cb s b y x own) some)

  -- below an edge
  pub below-found : (edge from : ℤ) (run start : Run ℤ) (stuck : Bool) (f : Found) (y margin : ℤ) (cleared : Cleared) → s.standing ≡ below edge run stuck → from ≡ edge → start ≡ run
      → f ≡ forward_of tree w apart (hangs from) none_passed cb s b start → y ≡ edge +ℤ margin → margin ≡ collapse f.run → cleared ≡ cleared_of f.end
      → reached_from tree w apart cb s b y cleared f.run ≡ reached_of tree w apart cb s b
  below-found edge from run start stuck f y margin cleared standing same begun is place collapsed ahead =
      ap (λ x. reached_from tree w apart cb s b x cleared f.run) (place ∙ ap (λ m. edge +ℤ m) collapsed)
      ∙ ap (λ x. reached_from tree w apart cb s b (edge +ℤ collapse f.run) x f.run) ahead
      ∙ ap (λ (g : Found). reached_from tree w apart cb s b (edge +ℤ collapse g.run) (cleared_of g.end) g.run)
      (is ∙ ap (λ x. forward_of tree w apart (hangs x) none_passed cb s b start) same ∙ ap (λ r. forward_of tree w apart (hangs edge) none_passed cb s b r) begun)
      ∙ sym (met-below tree w apart cb s b edge run stuck standing)
