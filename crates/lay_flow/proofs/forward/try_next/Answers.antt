use Rattle.std.proofs.Common.{ℤ, [], ◌∷◌, ap, sym, subst, ◌∙◌}
use Rattle.viz_base.specs.declared.layouts.Extent.{Extent}
use Rattle.viz_calc.specs.World.{Reading}
use Rattle.viz_calc.specs.Renderings.{band_at}
use Rattle.layout_semantics.specs.Floats.{Floating, floating}
use Rattle.lay_float.specs.Limits.{AreHalf}
use Rattle.lay_float.specs.Readings.{floats_at, option_at}
use Rattle.lay_line.proofs.Chains.{but_mem, start_but_mem, next_but_mem}
use Rattle.lay_margin.specs.Readings.{waiting_at as waiting_in}
use Rattle.page_limits.specs.Bounds.{levels_of}
use Rattle.lay_steps.specs.Flow.{size_in}
use Rattle.lay_float.specs.TrialReadings.{coming_at, trial_at}
use Rattle.lay_float.specs.Trials.{next_tried}
use Rattle.lay_flow.specs.Readings.{apart_at}
use Rattle.lay_flow.specs.WayFits.{WaitingFits}
use Rattle.lay_flow.proofs.Spots.{lent-is, half-lent}
use Rattle.lay_flow.proofs.WaitingLow.{first-size, first-half}
use Rattle.lay_flow.proofs.forward.try_next.Goals as goal

pub returns : goal.returns
unfolding size_in
returns g c =
    let at = g.S.Steady.at in
    let way = c.args.way.now in
    let tree = way.page.now.tree.now in
    let float = c.args.float.now in
    let sizes = (λ (e : Reading). size_in (apart_at at way.page.now.apart.now e)) in
    let floats = (λ (e : Reading). floats_at at c.args.before.near e) in
    let least = (λ (e : Reading). option_at at way.least.now e) in
    let y = (λ (e : Reading). at c.args.before.level e) in
    let one = (λ (e : Reading). waiting_in at float e) in
    let asks = (λ (e : Reading). WaitingFits (sizes e) (floats e) (least e) (y e) (one e ∷ [])) in
    let size = c.size_of-size.ensures in
    let first = start_but_mem {asks = asks} size.goes (but_mem size.cause) (λ f e o. first-size tree (sizes e) (least e) (y e) (floats e) (one e) [] (f e o)) in
    let chain = next_but_mem first c.go_on.ensures.goes c.go_on.ensures.cause (λ f e o.
    half-lent at e c.as_ref.result way.least.now c.as_ref.ensures.value (floats e) _ _ (y e)
    (subst (λ (k : Floating). AreHalf (floats e) (k.size.width ∷ k.size.height ∷ k.cb.left ∷ k.cb.right ∷ levels_of (least e) (y e))) (sym (c.coming-next.ensures at e))
    (subst (λ (s : Extent ℤ). AreHalf (floats e) (s.width ∷ s.height ∷ at float.cb.left e ∷ at float.cb.right e ∷ levels_of (least e) (y e))) (sym (size.value e o))
    (first-half tree (sizes e) (least e) (y e) (floats e) (one e) [] (f e o))))) in
    record {
      goes = chain.goes;
      value = λ e o.
          let before = trial_at at c.args.before e in
          let cb = band_at at float.cb e in
          c.go_on.ensures.value e o
          ∙ ap (λ l. next_tried (coming_at at c.coming-next.result e) l before) (lent-is at e c.as_ref.result way.least.now c.as_ref.ensures.value)
          ∙ ap (λ k. next_tried k (option_at at way.least.now e) before) (c.coming-next.ensures at e)
          ∙ ap (λ s. next_tried (floating tree float.at s cb) (option_at at way.least.now e) before) (c.size_of-size.ensures.value e (c.go_on.ensures.goes.closes e o));
      cause = chain.cause;
    }
