use Rattle.std.proofs.Common.{◌≡◌, is_some, ◌∙◌, arith}
use Rattle.viz_base.specs.declared.styles.Clear.TheVariants as of_clear
use Rattle.std.specs.Prelude.{⊤}
use Rattle.viz_calc.proofs.Runs.{Goes-then, Blames-then}
use Rattle.lay_float.specs.Readings.{box_at, boxes_at}
use Rattle.lay_float.specs.steps.Bands.{is_relevant_side, lowest_from}
use Rattle.lay_float.specs.steps.Lent.{lent_at}
use Rattle.lay_float.proofs.Loops.{goes-on, ends, lowest-step, lowest-end, nothing-lower, nothing-relevant, some-more}
use Rattle.lay_float.proofs.bands.lowest_bottom.Goals as goal
use Rattle.lay_float.proofs.bands.lowest_bottom.Goals.{in-Nothing, in_default}

pub loop-f-preserved : goal.loop-f-preserved
loop-f-preserved g c =
    let at = g.S.Steady.at in
    let run = g.S.Steady.run in
    record {
      goes = Goes-then _ _ _ c.loop-f.invariant.goes c.lower-best.ensures.goes;
      value = λ e o.
          goes-on (λ fs s. lowest_from c.args.clear (boxes_at at fs e) s) c.args.floats.now c.loop-f.f-index c.f-item.result
          (lent_at at c.loop-f.best e) (lent_at at c.lower-best.result e) c.loop-f-test.true c.f-item.is
          (lowest-step c.args.clear (box_at at c.f-item.result e) _ _ _ (c.lower-best.ensures.value e o))
          ∙ c.loop-f.invariant.value e (c.lower-best.ensures.goes.closes e o);
      some =
          some-more (λ f. is_relevant_side c.args.clear f.side) c.args.floats.now c.loop-f.f-index c.f-item.result (is_some c.loop-f.best) (is_some c.lower-best.result)
          c.loop-f-test.true c.f-item.is c.lower-best.ensures.some
          ∙ c.loop-f.invariant.some;
      cause = Blames-then (run c.args.calc.now) (run c.loop-f.calc) (run c.lower-best.new.calc) ⊤ ⊤ c.loop-f.invariant.goes c.lower-best.ensures.goes c.loop-f.invariant.cause (λ t. t) c.lower-best.ensures.cause;
    }

pub returns-clause-value : goal.returns-clause-value
returns-clause-value g c = λ e o.
    let at = g.S.Steady.at in
    lowest-end c.args.clear (lent_at at c.loop-f.best e)
    ∙ ends (λ fs s. lowest_from c.args.clear (boxes_at at fs e) s) c.args.floats.now c.loop-f.f-index (lent_at at c.loop-f.best e) (omega arith)
    ∙ c.loop-f.invariant.value e o

pub returns-then-matches-clause-value : goal.returns-then-matches-clause-value
returns-then-matches-clause-value g c = λ e o.
    let nothing : c.args.clear ≡ of_clear.Nothing = elim c.match-matches.branch [ in-Nothing w ↦ w.in-Nothing.is | in_default w ↦ let t = c.if-matches.true in let f = w.matches-is in absurd (cc) ] in
    nothing-lower c.args.clear (boxes_at g.S.Steady.at c.args.floats.now e) nothing

pub returns-then-matches-clause-some : goal.returns-then-matches-clause-some
returns-then-matches-clause-some g c =
    let nothing : c.args.clear ≡ of_clear.Nothing = elim c.match-matches.branch [ in-Nothing w ↦ w.in-Nothing.is | in_default w ↦ let t = c.if-matches.true in let f = w.matches-is in absurd (cc) ] in
    nothing-relevant c.args.clear (λ f. f.side) c.args.floats.now nothing
