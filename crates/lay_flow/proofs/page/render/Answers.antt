use Rattle.std.proofs.Common.{ℤ, List, map, ap, sym, ◌∙◌}
use Rattle.viz_base.specs.declared.renderings.Placed.{Placed}
use Rattle.viz_base.specs.declared.renderings.Rendering.{Rendering}
use Rattle.viz_calc.specs.Renderings.{placed_at}
use Rattle.lay_frame.specs.Readings.{boxes_at}
use Rattle.viz_calc.proofs.Blamed.{ButMem-given}
use Rattle.lay_steps.proofs.Tables.{page-same}
use Rattle.lay_flow.proofs.PageLimits.{within-limits-fits}
use Rattle.lay_flow.proofs.page.render.Goals as goal

pub returns-clause-value : goal.returns-clause-value
unfolding boxes_at
returns-clause-value g c = λ e o.
    let at = g.S.Steady.at in
    ap (λ (l : List (Placed ℤ)). let r : Rendering ℤ = record { boxes = l } in r)
    (ap (map (λ p. placed_at at p e)) c.from-boxes.ensures
    ∙ c.boxes.ensures.value e o
    ∙ sym (page-same c.args.tree.now e.world))

pub returns-clause-cause : goal.returns-clause-cause
returns-clause-cause g c =
    let run = g.S.Steady.run in
    let start = run c.args.calc.now in
    ButMem-given start (run c.boxes.new.calc) _ _ (within-limits-fits c.args.tree.now start.is_open) c.boxes.ensures.cause
