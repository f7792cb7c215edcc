use Rattle.std.proofs.Common.{◌≡◌, IsTrue, sym, subst, arith}
use Rattle.std.proofs.lemmas.Grind.{common_steps}
use Rattle.viz_calc.specs.World.{Reading}
use Rattle.lay_float.specs.Readings.{option_at}
use Rattle.lay_line.proofs.Chains.{Chain, start, next}
use Rattle.lay_flow.specs.Low.{IsIndependentLow, IsLevelLow, AreLevelsLow}
use Rattle.lay_flow.specs.Readings.{independent_at, apart_at}
use Rattle.lay_flow.proofs.Sizes.{aside-fits, level-fits, level-near, near-difference}
use Rattle.lay_flow.proofs.lines.inner_of.Goals.{in-Some, in_default-baseline}
use Rattle.lay_steps.specs.Flow.{inner_size}
use Rattle.lay_flow.proofs.lines.inner_of.Goals as goal

pub returns-after-independent : goal.returns-after-independent
unfolding apart_at inner_size
returns-after-independent g c = record {
  goes = grind (arith, common_steps);
  value = grind (arith, common_steps);
  cause =
      let at = g.S.Steady.at in
      let run = g.S.Steady.run in
      let independent = c.in-Some-Some.independent in
      let asks = (λ (e : Reading). IsIndependentLow (apart_at at c.args.page.now.apart.now e c.args.at)) in
      let same : (e : Reading) → apart_at at c.args.page.now.apart.now e c.args.at ≡ independent_at at independent e = λ e. grind (arith, common_steps) in
      let low = (λ (e : Reading) (a : asks e). subst IsIndependentLow (same e) a) in
      let lines = (λ (e : Reading) (a : asks e). (low e a).baseline) in
      let tall = (λ (e : Reading) (a : asks e). (low e a).size.height) in
      let one = start {asks = asks} c.copy-width.ensures.goes c.copy-width.ensures.cause (λ f e o. aside-fits (at independent.size.width e) (low e (f e o)).size.width) in
      let two : Chain (run c.args.calc.now) (run c.match-independent.calc) asks = elim c.match-independent.branch [
        | in-Some w ↦
            rw w.calc-is (next one w.copy-above.ensures.goes w.copy-above.ensures.cause (λ f e o.
            level-fits (at w.in-Some.baseline e) (subst (λ r. AreLevelsLow (option_at at r e)) w.in-Some.is (lines e (f e o))).0))
        | in_default-baseline w ↦
            rw w.calc-is (next one w.copy-above-in_default-baseline.ensures.goes w.copy-above-in_default-baseline.ensures.cause (λ f e o. level-fits (at independent.size.height e) (tall e (f e o))))
      ] in
      let above : (e : Reading) → IsTrue ((run c.match-independent.calc).is_open e) → asks e → IsLevelLow (at c.match-independent.above e) = λ e o a. elim c.match-independent.branch [
        | in-Some w ↦
            rw w.above-is (subst IsLevelLow (sym (w.copy-above.ensures.value e (rw w.calc-is at o))) (subst (λ r. AreLevelsLow (option_at at r e)) w.in-Some.is (lines e a)).0)
        | in_default-baseline w ↦
            rw w.above-is (subst IsLevelLow (sym (w.copy-above-in_default-baseline.ensures.value e (rw w.calc-is at o))) (tall e a))
      ] in
      (next two c.sub-below.ensures.goes c.sub-below.ensures.cause (λ f e o.
      near-difference (at independent.size.height e) (at c.match-independent.above e) (level-near (at independent.size.height e) (tall e (f e o))) (level-near (at c.match-independent.above e) (above e o (f e o))))).cause;
}
