use Rattle.std.proofs.Common.{[], ap, sym, subst, ◌∙◌}
use Rattle.viz_calc.specs.World.{Reading}
use Rattle.layout_semantics.specs.Floats.{lowest_bottom}
use Rattle.lay_float.specs.Limits.{AreHalf}
use Rattle.lay_float.specs.Readings.{boxes_at}
use Rattle.lay_line.proofs.Chains.{start}
use Rattle.lay_flow.specs.Tries.{floats_with}
use Rattle.lay_flow.specs.Ways.{ground_at, trials_at}
use Rattle.lay_flow.proofs.forward.lowest.Goals as goal

pub returns-in-Some : goal.returns-in-Some
returns-in-Some g c =
    let at = g.S.Steady.at in
    let way = c.args.way.now in
    let clear = c.clear_in_flow-clear.result in
    let stood = (λ (e : Reading). floats_with (ground_at at way e) (trials_at at c.args.trial.now e)) in
    let found = c.bottom-in-Some.ensures in
    let is = (λ (e : Reading). ap (λ l. boxes_at at l e) c.as_slice.ensures ∙ ap (λ t. floats_with (ground_at at way e) (trials_at at t e)) (sym c.in-Some.is)) in
    let chain = start {asks = λ (e : Reading). AreHalf (stood e) []} found.goes found.cause (λ f e o. subst (λ fs. AreHalf fs []) (sym (is e)) (f e o)) in
    record {
      goes = chain.goes;
      value = λ e o.
          found.value e o
          ∙ ap (lowest_bottom clear) (is e)
          ∙ ap (λ k. lowest_bottom k (stood e)) c.clear_in_flow-clear.ensures;
      cause = chain.cause;
    }
