use Rattle.std.proofs.Common.{rules}
use Rattle.viz_calc.proofs.Runs.{Goes-then}
use Rattle.viz_calc.specs.World.{Reading}
use Rattle.lay_float.specs.Limits.{IsHalf}
use Rattle.lay_float.specs.Readings.{floats_at}
use Rattle.lay_line.specs.Contexts.{context_at}
use Rattle.lay_line.specs.Limits.{BoxesReach, PlacesFit}
use Rattle.lay_line.proofs.Chains.{start_but_mem, next_but_mem, but_mem}
use Rattle.lay_line.specs.steps.Loading.{loaded}
use Rattle.lay_line.proofs.loads.with_segment.Goals as goal

pub returns : goal.returns
unfolding context_at loaded
returns g c = record {
  goes = Goes-then _ _ _ (Goes-then _ _ _ c.meet_each.ensures.goes c.extended-extent.ensures.goes) c.opened_behind-opened.ensures.goes;
  value = λ e o.
      let o1 = c.opened_behind-opened.ensures.goes.closes e o in
      let o2 = c.extended-extent.ensures.goes.closes e o1 in
      let opened = c.opened_behind-opened.ensures.value e o in
      let extent = c.extended-extent.ensures.value e o1 in
      let met = c.meet_each.ensures.value e o2 in
      search rules;
  cause =
      let at = g.S.Steady.at in
      let ctx = (λ (e : Reading). context_at at c.args.container.now e) in
      let slot = c.args.slot.now in
      let met = c.meet_each.ensures in
      let extent = c.extended-extent.ensures in
      let opened = c.opened_behind-opened.ensures in
      let asks = (λ (e : Reading). (PlacesFit (ctx e) (floats_at at c.args.load.met.floats e) (at slot.least e) (at slot.top e) c.args.taken.floats.now × IsHalf (at slot.tall e)) × BoxesReach (ctx e)) in
      let first = start_but_mem {asks = asks} met.goes met.cause (λ f e o. (f e o).0) in
      let second = next_but_mem first extent.goes (but_mem extent.cause) (λ f e o. (f e o).1) in
      (next_but_mem second opened.goes opened.cause (λ f e o. tt)).cause;
}
