use Rattle.std.specs.Prelude.{int_lt}
use Rattle.std.proofs.Common.{◌≡◌, ◌+◌, ℤ, Bool, true, false, filter, List, [], ◌∷◌, ◌++◌, drop, refl, ap, sym, arith, ◌∙◌, rules}
use Rattle.std.proofs.lemmas.List.{drop_more, at_drop_all, append_assoc, append-nil}
use Rattle.viz_calc.proofs.Runs.{Goes-then, BlamesButMem-then}
use Rattle.layout_semantics.specs.Floats.{FloatBox}
use Rattle.layout_laws.proofs.Members.{to_map}
use Rattle.lay_float.specs.Readings.{box_at, boxes_at, floats_at}
use Rattle.lay_float.proofs.Spots.{edges_fit}
use Rattle.lay_float.specs.Trials.{reaching}
use Rattle.lay_float.proofs.trial.still_open.Goals as goal

-- a chosen first one stands before the other chosen ones
first-chosen : {A : Type 0} (test : A → Bool) (x : A) (xs : List A) → filter test (x ∷ []) ++ filter test xs ≡ filter test (x ∷ xs)
first-chosen test x xs = by (test x) refl
  where
    by : (b : Bool) → test x ≡ b → filter test (x ∷ []) ++ filter test xs ≡ filter test (x ∷ xs)
    by true e = rw e refl
    by false e = rw e refl

one-more : (level : ℤ) (out next rest : List FloatBox) (f : FloatBox) → next ≡ out ++ reaching level (f ∷ []) → next ++ reaching level rest ≡ out ++ reaching level (f ∷ rest)
one-more level out next rest f e =
    ap (λ l. l ++ reaching level rest) e
    ∙ append_assoc out (reaching level (f ∷ [])) (reaching level rest)
    ∙ ap (λ l. out ++ l) (first-chosen (λ (f : FloatBox). int_lt level f.box.bottom) f rest)

pub loop-f-preserved : goal.loop-f-preserved
loop-f-preserved g c =
    let at = g.S.Steady.at in
    let run = g.S.Steady.run in
    let kept = c.keep.ensures in
    let inv = c.loop-f.invariant in
    let all = c.args.floats.now in
    let k = c.loop-f.f-index in
    let f = c.f-item.result in
    let is : drop k all ≡ f ∷ drop (k + 1) all = drop_more all k f c.loop-f-test.true ∙ ap (λ x. x ∷ drop (k + 1) all) (sym c.f-item.is) in
    record {
      goes = Goes-then _ _ _ inv.goes kept.goes;
      value = λ e o.
          one-more (at c.args.level.now e) (floats_at at c.loop-f.out e) (floats_at at c.keep.new.out e) (boxes_at at (drop (k + 1) all) e) (box_at at f e) (kept.value e o)
          ∙ ap (λ l. floats_at at c.loop-f.out e ++ reaching (at c.args.level.now e) (boxes_at at l e)) (sym is)
          ∙ inv.value e (kept.goes.closes e o);
      cause = BlamesButMem-then (run c.args.calc.now) (run c.loop-f.calc) (run c.keep.new.calc) _ _ inv.goes kept.goes inv.cause
          (λ h e o. edges_fit (boxes_at at all e) (box_at at f e) (h e (inv.goes.closes e o)) (to_map (λ f. box_at at f e) all f (k, c.loop-f-test.true, sym c.f-item.is)))
          kept.cause;
    }

pub returns : goal.returns
returns g c = record {
  goes = search rules;
  value = λ e o.
      let at = g.S.Steady.at in
      let all = c.args.floats.now in
      let out = floats_at at c.loop-f.out e in
      sym (append-nil out)
      ∙ sym (at_drop_all (λ l. out ++ reaching (at c.args.level.now e) (boxes_at at l e)) all c.loop-f.f-index (omega arith))
      ∙ c.loop-f.invariant.value e o;
  cause = search rules;
}
