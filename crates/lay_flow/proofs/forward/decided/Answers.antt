use Rattle.std.proofs.Common.{◌≡◌, ℕ, ℤ, true, List, [], ◌∷◌, length, None, ap, refl, sym, ◌∙◌, arith}
use Rattle.std.proofs.lemmas.Grind.{common_steps}
use Rattle.std.specs.Prelude.{◌==◌}
use Rattle.viz_base.specs.declared.layouts.Band.{Band}
use Rattle.viz_base.specs.declared.layouts.Waiting.{Waiting}
use Rattle.viz_calc.specs.Renderings.{band_at}
use Rattle.lay_float.specs.Readings.{boxes_at}
use Rattle.lay_margin.specs.Readings.{floats_at}
use Rattle.lay_margin.specs.Runs.{run_at}
use Rattle.lay_margin.specs.declared.runs.Run.{Run}
use Rattle.layout_semantics.specs.Clearance.{Ground}
use Rattle.lay_steps.specs.Forward.{decided, bottom_to_clear}
use Rattle.lay_flow.specs.Ways.{ground_at}
use Rattle.lay_flow.proofs.forward.decided.Goals as goal

no-items : {A : Type 0} (xs : List A) → true ≡ (length xs == 0) → xs ≡ []
no-items [] e = refl
no-items (x ∷ xs) e = absurd (grind arith)

-- without floats nothing is cleared
none-decided : (g : Ground) (cb : Band ℤ) (b : ℕ) (run : Run ℤ) (ws : List (Waiting ℤ)) → g.floats ≡ [] → ws ≡ [] → None ≡ decided g cb b run ws
unfolding bottom_to_clear
none-decided g cb b run ws e f = rw (e, f) refl

pub returns-then-is_empty-2-clause-forward : goal.returns-then-is_empty-2-clause-forward
returns-then-is_empty-2-clause-forward g c = record {
  goes = grind (arith, common_steps);
  value = λ e o.
      let at = g.S.Steady.at in
      let way = c.args.way.now in
      let no_floats = no-items way.floats.now (sym c.if-is_empty.true ∙ c.is_empty.ensures) in
      let none_wait : c.args.going.now.waiting ≡ [] = grind arith in
      none-decided (ground_at at way e) (band_at at c.args.cb.now e) c.args.b (run_at at c.args.going.now.run e) (floats_at at c.args.going.now.waiting e)
      (ap (λ fs. boxes_at at fs e) no_floats) (ap (λ ws. floats_at at ws e) none_wait);
  keeps = c.requires.keeps;
  cause = grind (arith, common_steps);
}
