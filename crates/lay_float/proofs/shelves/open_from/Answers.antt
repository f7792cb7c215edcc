use Rattle.std.proofs.Common.{◌≡◌, [], ◌∷◌, ap, sym, ◌∙◌, arith}
use Rattle.std.specs.Prelude.{⊤}
use Rattle.std.proofs.lemmas.List.{nil_from_length}
use Rattle.viz_calc.proofs.Blamed.{Blames-given}
use Rattle.viz_calc.proofs.Runs.{Goes-then, Blames-then}
use Rattle.lay_float.specs.Readings.{box_at, boxes_at}
use Rattle.lay_float.specs.steps.Shelves.{open_from}
use Rattle.lay_float.proofs.Skipped.{open-stops, open-goes, open-end}
use Rattle.lay_float.proofs.shelves.open_from.Goals as goal

pub returns-then-not-le : goal.returns-then-not-le
returns-then-not-le g c = record {
  goes = Goes-then _ _ _ c.loop-first.invariant.goes c.le.ensures.goes;
  value = λ e o.
      let at = g.S.Steady.at in
      let list : c.loop-first.rest.now ≡ c.in-Some.first.now ∷ c.in-Some.others.now = let h = c.in-Some.ensures.cases in grind arith in
      ap (λ l. boxes_at at l e) list
      ∙ open-stops (at c.args.y.now e) (box_at at c.in-Some.first.now e) (boxes_at at c.in-Some.others.now e) (c.if-not-le.ensures.value e o)
      ∙ ap (λ l. open_from (at c.args.y.now e) (boxes_at at l e)) (sym list)
      ∙ c.loop-first.invariant.value e (c.le.ensures.goes.closes e o);
  cause =
      let run = g.S.Steady.run in
      Blames-then (run c.args.calc.now) (run c.loop-first.calc) (run c.le.new.self) ⊤ _ c.loop-first.invariant.goes c.le.ensures.goes
      (Blames-given _ _ _ _ (λ f. tt) c.loop-first.invariant.cause) (λ f. tt) c.le.ensures.cause;
}

pub loop-first-preserved : goal.loop-first-preserved
loop-first-preserved g c =
    let at = g.S.Steady.at in
    let run = g.S.Steady.run in
    let list : c.loop-first.rest.now ≡ c.in-Some.first.now ∷ c.in-Some.others.now = let h = c.in-Some.ensures.cases in grind arith in
    record {
      goes = Goes-then _ _ _ c.loop-first.invariant.goes c.le.ensures.goes;
      value = λ e o.
          open-goes (at c.args.y.now e) (box_at at c.in-Some.first.now e) (boxes_at at c.in-Some.others.now e) (c.if-not-le.ensures.value e o)
          ∙ ap (λ l. open_from (at c.args.y.now e) (boxes_at at l e)) (sym list)
          ∙ c.loop-first.invariant.value e (c.le.ensures.goes.closes e o);
      cause = Blames-then (run c.args.calc.now) (run c.loop-first.calc) (run c.le.new.self) ⊤ ⊤ c.loop-first.invariant.goes c.le.ensures.goes c.loop-first.invariant.cause (λ t. t) c.le.ensures.cause;
    }

pub returns : goal.returns
returns g c = record {
  goes = c.loop-first.invariant.goes;
  value = λ e o.
      let at = g.S.Steady.at in
      let none : c.loop-first.rest.now ≡ [] = nil_from_length c.loop-first.rest.now (let h = c.in_default.ensures.cases in omega arith) in
      ap (λ l. boxes_at at l e) none
      ∙ open-end (at c.args.y.now e)
      ∙ ap (λ l. open_from (at c.args.y.now e) (boxes_at at l e)) (sym none)
      ∙ c.loop-first.invariant.value e o;
  cause = Blames-given _ _ _ _ (λ f. tt) c.loop-first.invariant.cause;
}
