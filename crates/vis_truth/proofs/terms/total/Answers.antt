use Rattle.std.proofs.Common.{◌≡◌, ◌<◌, ℕ, ℤ, ◌+ℤ◌, ◌+◌, [], ◌∷◌, List, ap, sym, ◌∙◌, subst, fold, map, drop, get_or, length}
use Rattle.std.proofs.lemmas.List.{at_drop_more}
use Rattle.viz_base.specs.declared.formulas.Summand.{Summand}
use Rattle.viz_calc.specs.State.{AllSmall}
use Rattle.logic_semantics.specs.Scenes.{Scene}
use Rattle.logic_semantics.specs.Terms.{summand_value, edge_value}
use Rattle.vis_truth.specs.Names.{places_of}
use Rattle.vis_truth.specs.Scenes.{scene_at, sum_parts}
use Rattle.viz_calc.proofs.Runs.{Goes-then, Blames-then}
use Rattle.vis_truth.proofs.terms.total.Goals as goal

-- the sum that goes on with one more summand
sum-more : (v : Summand → ℤ) (parts : List Summand) (k : ℕ) (d : Summand) (sum next : ℤ) → k < length parts → next ≡ sum +ℤ v (get_or parts k d)
    → fold ◌+ℤ◌ next (map v (drop (k + 1) parts)) ≡ fold ◌+ℤ◌ sum (map v (drop k parts))
sum-more v parts k d sum next lt is =
    ap (λ z. fold ◌+ℤ◌ z (map v (drop (k + 1) parts))) is ∙ sym (at_drop_more (λ l. fold ◌+ℤ◌ sum (map v l)) parts k d lt)

-- what fits of the next summand, and of those after it
left-more : (scene : Scene) (names : List ℕ) (parts : List Summand) (k : ℕ) (d : Summand) (sum : ℤ) → k < length parts → AllSmall (sum_parts scene names sum (drop k parts))
    → AllSmall (edge_value scene names (get_or parts k d).edge ∷ summand_value scene names (get_or parts k d) ∷ (sum +ℤ summand_value scene names (get_or parts k d))
    ∷ sum_parts scene names (sum +ℤ summand_value scene names (get_or parts k d)) (drop (k + 1) parts))
left-more scene names parts k d sum lt small = subst (λ l. AllSmall l) (at_drop_more (λ l. sum_parts scene names sum l) parts k d lt) small

pub loop-s-preserved : goal.loop-s-preserved
loop-s-preserved g c =
    let at = g.S.Steady.at in
    let run = g.S.Steady.run in
    let names = places_of c.args.names.now in
    record {
      goes = Goes-then _ _ _ c.loop-s.invariant.goes (Goes-then _ _ _ c.summand-value.ensures.goes c.add-sum.ensures.goes);
      sum = λ e o.
          let o1 = c.add-sum.ensures.goes.closes e o in
          let o0 = c.summand-value.ensures.goes.closes e o1 in
          sum-more (summand_value (scene_at at c.args.r.now e) names) c.args.parts.now c.loop-s.s-index _ (at c.loop-s.sum e) (at c.add-sum.result e) c.loop-s-test.true
          (c.add-sum.ensures.value e o ∙ ap (λ z. at c.loop-s.sum e +ℤ z) (c.summand-value.ensures.value e o1))
          ∙ c.loop-s.invariant.sum e o0;
      left = λ f e o.
          let o1 = c.add-sum.ensures.goes.closes e o in
          let o0 = c.summand-value.ensures.goes.closes e o1 in
          let rest = (left-more (scene_at at c.args.r.now e) names c.args.parts.now c.loop-s.s-index _ (at c.loop-s.sum e) c.loop-s-test.true (c.loop-s.invariant.left f e o0)).1.1.1 in
          subst (λ z. AllSmall (sum_parts (scene_at at c.args.r.now e) names z (drop (c.loop-s.s-index + 1) c.args.parts.now)))
          (sym (c.add-sum.ensures.value e o ∙ ap (λ z. at c.loop-s.sum e +ℤ z) (c.summand-value.ensures.value e o1))) rest;
      cause =
          let before = Goes-then _ _ _ c.zero-sum.ensures.goes c.loop-s.invariant.goes in
          let after = Blames-then (run c.args.calc.now) (run c.loop-s.calc) (run c.summand-value.new.calc) _ _ before c.summand-value.ensures.goes c.loop-s.invariant.cause
          (λ f e o.
          let small = left-more (scene_at at c.args.r.now e) names c.args.parts.now c.loop-s.s-index _ (at c.loop-s.sum e) c.loop-s-test.true (c.loop-s.invariant.left f e o) in
          (small.0, (small.1.0, tt)))
          c.summand-value.ensures.cause in
          Blames-then (run c.args.calc.now) (run c.summand-value.new.calc) (run c.add-sum.new.self) _ _ (Goes-then _ _ _ before c.summand-value.ensures.goes) c.add-sum.ensures.goes after
          (λ f e o.
          let o0 = c.summand-value.ensures.goes.closes e o in
          let small = left-more (scene_at at c.args.r.now e) names c.args.parts.now c.loop-s.s-index _ (at c.loop-s.sum e) c.loop-s-test.true (c.loop-s.invariant.left f e o0) in
          (subst (λ z. AllSmall ((at c.loop-s.sum e +ℤ z) ∷ [])) (sym (c.summand-value.ensures.value e o)) (small.1.1.0, tt)))
          c.add-sum.ensures.cause;
    }
