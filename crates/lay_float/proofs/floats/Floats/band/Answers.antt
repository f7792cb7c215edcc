use Rattle.std.proofs.Common.{◌≡◌, ◌∷◌, [], sym, subst, ap, ◌∙◌}
use Rattle.viz_calc.specs.Renderings.{band_at as stretch_at}
use Rattle.layout_semantics.specs.Floats.{band_at}
use Rattle.lay_float.specs.Limits.{AreHalf}
use Rattle.lay_float.specs.Readings.{boxes_at, floats_at}
use Rattle.viz_calc.proofs.Latched.{IsLent, grows, keeps, opened, told, caused}
use Rattle.lay_float.proofs.floats.Floats.band.Goals as goal

pub returns : goal.returns
returns g c =
    let state = g.C.Calc.state in
    let at = g.C.Calc.at in
    let inner = c.band-band.ensures in
    let last : c.calc-1.given.0 ≡ c.band-band.new.calc.calc.now = c.calc-1.given.1 (sym (inner.goes.lender ∙ c.new-latch.ensures.lender)) ∙ c.finish.ensures.now in
    let lent : IsLent (state c.args.calc.now) (state c.calc-1.given.0) (state c.new-latch.result.calc.now) (state c.band-band.new.calc.calc.now) c.new-latch.result.halt =
    record { at_start = ap state c.new-latch.ensures.now; running = c.new-latch.ensures.halt; at_end = ap state last } in
    record {
      grows = grows _ _ _ _ _ _ _ _ lent inner.goes;
      value = told (λ r e. stretch_at at r e ≡ band_at (floats_at at c.args.self.now e) (stretch_at at c.args.cb.now e) (at c.args.y.now e) (at c.args.h.now e)) c.finish.result
          _ _ _ _ _ _ _ lent c.finish.ensures.ok c.finish.ensures.running
          (λ e o. inner.value e o ∙ ap (λ l. band_at (boxes_at at l e) (stretch_at at c.args.cb.now e) (at c.args.y.now e) (at c.args.h.now e)) c.as_slice.ensures);
      cause = caused c.finish.result _ _ _ _ _ _ _ _ _ _ lent
          (λ f e o. subst (λ l. AreHalf (boxes_at at l e) (at c.args.cb.now.left e ∷ at c.args.cb.now.right e ∷ at c.args.y.now e ∷ at c.args.h.now e ∷ [])) (sym c.as_slice.ensures)
          (f e (opened _ _ _ _ _ lent e o)))
          inner.cause c.finish.ensures.halt;
      kept = keeps _ _ _ _ _ _ _ _ lent inner.goes (g.met.C.Calc.keeps _);
    }
