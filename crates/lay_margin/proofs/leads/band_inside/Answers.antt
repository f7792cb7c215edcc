use Rattle.std.proofs.Common.{◌∙◌, ap, sym, subst}
use Rattle.viz_calc.specs.State.{AllSmall}
use Rattle.viz_calc.proofs.Runs.{Goes-then, Blames-then}
use Rattle.layout_semantics.specs.FlowBoxes.{content_from}
use Rattle.layout_semantics.specs.Horizontal.{flow_widths}
use Rattle.lay_width.specs.Fitting.{BlockFits}
use Rattle.lay_margin.specs.Fitting.{content_way}
use Rattle.lay_margin.specs.steps.Leads.{inner_band}
use Rattle.viz_calc.proofs.Blamed.{Blames-given}
use Rattle.lay_margin.proofs.leads.band_inside.Goals as goal

pub returns : goal.returns
unfolding inner_band
returns g c = record {
  goes = Goes-then _ _ _ (Goes-then _ _ _ c.inline_size-room.ensures.goes c.block-terms.ensures.goes) c.content_between.ensures.goes;
  value = λ e o.
      let later = c.content_between.ensures.goes.closes e o in
      let terms = c.block-terms.ensures.value e later in
      let room = c.inline_size-room.ensures.value e (c.block-terms.ensures.goes.closes e later) in
      c.content_between.ensures.value e o
      ∙ ap (content_from (g.S.Steady.at c.args.cb.now.left e)) (terms ∙ ap (flow_widths c.args.tree.now e.world c.args.b) room);
  cause =
      let run = g.S.Steady.run in
      let at = g.S.Steady.at in
      let tree = c.args.tree.now in
      let room = c.inline_size-room.ensures in
      let terms = c.block-terms.ensures in
      let first = Blames-given (run c.args.calc.now) (run c.inline_size-room.new.calc) _ _ (λ f e o. (f e o).0) room.cause in
      let second = Blames-then (run c.args.calc.now) (run c.inline_size-room.new.calc) (run c.block-terms.new.calc) _ _ room.goes terms.goes first
      (λ f e o. subst (BlockFits tree e.world c.args.b) (sym (room.value e o)) (f e (room.goes.closes e o)).1.0)
      terms.cause in
      let goes = Goes-then (run c.args.calc.now) (run c.inline_size-room.new.calc) (run c.block-terms.new.calc) room.goes terms.goes in
      Blames-then (run c.args.calc.now) (run c.block-terms.new.calc) (run c.content_between.new.calc) _ _ goes c.content_between.ensures.goes second
      (λ f e o.
      let is = terms.value e o ∙ ap (flow_widths tree e.world c.args.b) (room.value e (terms.goes.closes e o)) in
      subst (λ t. AllSmall (content_way (at c.args.cb.now.left e) t)) (sym is) (f e (goes.closes e o)).1.1)
      c.content_between.ensures.cause;
}
