use Rattle.std.proofs.Common.{◌∙◌}
use Rattle.lay_line.proofs.Chains.{but_mem}
use Rattle.lay_flow.specs.Readings.{apart_at}
use Rattle.lay_flow.proofs.InLines.{table-is}
use Rattle.lay_flow.proofs.lines.inner_table.Goals as goal

pub returns-in-Ok : goal.returns-in-Ok
returns-in-Ok g c = record {
  goes = c.fill.ensures.goes;
  value = λ e o.
      let at = g.S.Steady.at in
      c.fill.ensures.value e o
      ∙ table-is c.args.page.now.tree.now e.world (apart_at at c.args.page.now.apart.now e) at e c.args.b c.in-Ok.table.items c.as_slice.result.now
      c.in-Ok.ensures.places (c.as_slice.ensures.value ∙ c.in-Ok.ensures.boxes);
  cause = but_mem c.fill.ensures.cause;
}
