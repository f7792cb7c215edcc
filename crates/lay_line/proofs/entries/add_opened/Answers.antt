use Rattle.std.proofs.Common.{arith}
use Rattle.std.proofs.lemmas.Grind.{common_steps}
use Rattle.viz_calc.specs.World.{Reading}
use Rattle.lay_line.specs.Contexts.{context_at}
use Rattle.lay_line.specs.LineFits.{BoxesFit, SetFits}
use Rattle.lay_line.specs.Readings.{set_line_at}
use Rattle.lay_line.proofs.Chains.{ChainButMem, next_but_mem, but_mem}
use Rattle.lay_line.proofs.entries.add_opened.Goals as goal

pub loop-at-preserved : goal.loop-at-preserved
loop-at-preserved g c =
    let at = g.S.Steady.at in
    let run = g.S.Steady.run in
    let so_far : ChainButMem (run c.args.calc.now) (run c.loop-at.calc) (λ (e : Reading). BoxesFit (context_at at c.args.container.now e) × SetFits (set_line_at at c.args.line.now e)) =
    record { goes = c.loop-at.invariant.goes; cause = c.loop-at.invariant.cause } in
    let piece = next_but_mem so_far c.inline_fragment-entry.ensures.goes (but_mem c.inline_fragment-entry.ensures.cause) (λ f e o.
    let n = (f e o).1.numbers in
    ((f e o).0 _, ((n.0, (n.1.0, (n.1.1.0, tt))), (f e o).1.places))) in
    let then = next_but_mem piece c.add_entry.ensures.goes c.add_entry.ensures.cause (λ f e o. tt) in
    record {
      goes = then.goes;
      value = λ e o. grind (arith, common_steps);
      cause = then.cause;
    }
