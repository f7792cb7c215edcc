use Rattle.std.proofs.Common.{sym, subst, arith}
use Rattle.std.proofs.lemmas.Grind.{common_steps}
use Rattle.viz_calc.specs.World.{Reading}
use Rattle.lay_line.specs.Limits.{StandFits}
use Rattle.lay_line.specs.Readings.{pieces_at}
use Rattle.lay_line.proofs.Chains.{start_but_mem, next_but_mem, but_mem}
use Rattle.lay_line.proofs.OnLines.{stand_small}
use Rattle.lay_line.specs.steps.Lining.{places_of}
use Rattle.viz_calc.proofs.Runs.{Goes-then}
use Rattle.lay_line.proofs.line_content.places.Goals as goal

pub returns : goal.returns
unfolding places_of
returns g c = record {
  goes = Goes-then _ _ _ c.copy-from.ensures.goes c.stand.ensures.goes;
  value = grind (arith, common_steps);
  cause =
      let at = g.S.Steady.at in
      let pieces = (λ (e : Reading). pieces_at at c.args.pieces.now e) in
      let from = c.copy-from.ensures in
      let first = start_but_mem {asks = λ (e : Reading). StandFits (at c.args.x.now e) (pieces e)} from.goes (but_mem from.cause) (λ f e o. (stand_small (at c.args.x.now e) (pieces e) (f e o), tt)) in
      (next_but_mem first c.stand.ensures.goes c.stand.ensures.cause (λ f e o. subst (λ x. StandFits x (pieces e)) (sym (from.value e o)) (f e o))).cause;
}
