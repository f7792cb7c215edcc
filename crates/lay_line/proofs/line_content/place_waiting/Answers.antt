use Rattle.std.proofs.Common.{ℕ, List, sym, subst, arith}
use Rattle.std.proofs.lemmas.Grind.{common_steps}
use Rattle.viz_calc.specs.World.{Reading}
use Rattle.lay_float.specs.Readings.{floats_at}
use Rattle.lay_line.specs.Contexts.{context_at}
use Rattle.lay_line.specs.Limits.{PlacesFit}
use Rattle.lay_line.proofs.Chains.{start_but_mem}
use Rattle.lay_line.proofs.line_content.place_waiting.Goals as goal

pub returns : goal.returns
returns g c = record {
  goes = c.place_each.ensures.goes;
  value = grind (arith, common_steps);
  cause =
      let at = g.S.Steady.at in
      let places = (λ (e : Reading) (l : List ℕ). PlacesFit (context_at at c.args.container.now e) (floats_at at c.args.met.floats e) (at c.args.least.now e) (at c.args.bottom.now e) l) in
      (start_but_mem {asks = λ (e : Reading). places e c.args.met.waiting.items} c.place_each.ensures.goes c.place_each.ensures.cause
      (λ f e o. subst (places e) (sym c.as_slice.ensures.value) (f e o))).cause;
}
