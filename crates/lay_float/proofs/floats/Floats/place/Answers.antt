use Rattle.std.proofs.Common.{◌≡◌, ◌∷◌, [], ◌++◌, sym, ap, ◌∙◌}
use Rattle.viz_calc.specs.Renderings.{spot_at, band_at as stretch_at}
use Rattle.layout_semantics.specs.Floats.{placed_float, float_at}
use Rattle.lay_float.specs.Agreement.{IsKept}
use Rattle.lay_float.specs.Places.{IsHighest}
use Rattle.lay_float.specs.Readings.{floats_at, extent_at}
use Rattle.viz_calc.proofs.Latched.{IsLent, grows, keeps, opened, told, halted, caused_but_mem}
use Rattle.lay_float.proofs.Agreeing.{agreed, lent-agree}
use Rattle.lay_float.proofs.floats.Floats.place.Goals as goal

pub place-spot-requires : goal.place-spot-requires
place-spot-requires g c =
    lent-agree g.C.Calc.at (g.C.Calc.state c.args.calc.now) (g.C.Calc.state c.new-latch.result.calc.now) c.new-latch.result.halt c.args.self.now (ap g.C.Calc.state c.new-latch.ensures.now) c.new-latch.ensures.halt c.requires

pub returns : goal.returns
returns g c =
    let state = g.C.Calc.state in
    let at = g.C.Calc.at in
    let inner = c.place-spot.ensures in
    let last : c.calc-1.given.0 ≡ c.place-spot.new.calc.calc.now = c.calc-1.given.1 (sym (inner.goes.lender ∙ c.new-latch.ensures.lender)) ∙ c.finish.ensures.now in
    let lent : IsLent (state c.args.calc.now) (state c.calc-1.given.0) (state c.new-latch.result.calc.now) (state c.place-spot.new.calc.calc.now) c.new-latch.result.halt =
    record { at_start = ap state c.new-latch.ensures.now; running = c.new-latch.ensures.halt; at_end = ap state last } in
    record {
      grows = grows _ _ _ _ _ _ _ _ lent inner.goes;
      value = told (λ r e. spot_at at r e ≡ float_at (floats_at at c.args.self.now e) c.args.side (extent_at at c.args.size.now e) (stretch_at at c.args.cb.now e) (at c.args.top.now e))
          c.finish.result _ _ _ _ _ _ _ lent c.finish.ensures.ok c.finish.ensures.running inner.value;
      highest = told (λ r e. IsHighest (floats_at at c.args.self.now e) c.args.side (at c.args.size.now.width e) (stretch_at at c.args.cb.now e) (at c.args.top.now e) (spot_at at r e))
          c.finish.result _ _ _ _ _ _ _ lent c.finish.ensures.ok c.finish.ensures.running inner.highest;
      appended = told (λ r e. floats_at at c.place-spot.new.floats e ≡ floats_at at c.args.self.now e ++ placed_float c.args.side (extent_at at c.args.size.now e) (spot_at at r e) ∷ [])
          c.finish.result _ _ _ _ _ _ _ lent c.finish.ensures.ok c.finish.ensures.running inner.appended;
      halted = halted (c.place-spot.new.floats ≡ c.args.self.now) c.finish.result _ c.finish.ensures.halt inner.halted;
      cause = caused_but_mem c.finish.result _ _ _ _ _ _ _ _ _ _ lent (λ f e o. f e (opened _ _ _ _ _ lent e o)) inner.cause c.finish.ensures.halt;
      kept = keeps _ _ _ _ _ _ _ _ lent inner.goes (g.met.C.Calc.keeps _);
      agrees = agreed at c.finish.result (state c.args.calc.now) (state c.calc-1.given.0) c.args.self.now c.place-spot.new.floats
          (told (λ r e. IsKept (floats_at at c.place-spot.new.floats e) c.place-spot.new.floats.ended) c.finish.result _ _ _ _ _ _ _ lent c.finish.ensures.ok c.finish.ensures.running inner.agrees)
          (halted (c.place-spot.new.floats ≡ c.args.self.now) c.finish.result _ c.finish.ensures.halt inner.halted)
          (grows _ _ _ _ _ _ _ _ lent inner.goes) c.requires;
    }
