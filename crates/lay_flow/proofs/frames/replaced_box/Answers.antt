use Rattle.std.proofs.Common.{◌^◌, ℤ, sym, subst, arith}
use Rattle.std.proofs.lemmas.Grind.{common_steps}
use Rattle.viz_calc.specs.World.{Reading}
use Rattle.layout_semantics.specs.Replaced.{replaced_size}
use Rattle.lay_frame.specs.Fitting.{PlaceFits}
use Rattle.lay_frame.specs.Readings.{frame_at}
use Rattle.lay_line.proofs.Chains.{start, next}
use Rattle.lay_flow.specs.Low.{IsFrameLow}
use Rattle.lay_flow.specs.Fits.{IsReplacedFit}
use Rattle.lay_flow.proofs.Framed.{place-fits}
use Rattle.lay_flow.proofs.Sizes.{wider}
use Rattle.lay_steps.specs.Flow.{replaced_of}
use Rattle.lay_flow.proofs.frames.replaced_box.Goals as goal

pub returns : goal.returns
unfolding replaced_of
returns g c =
    let at = g.S.Steady.at in
    let tree = c.args.page.now.tree.now in
    let frame = (λ (e : Reading). frame_at at c.args.shape.now e) in
    let room = (λ (e : Reading). at c.args.room.now e) in
    let tall = (λ (e : Reading). (replaced_size tree e.world c.args.b (room e)).height) in
    let height = c.replaced_height-height.ensures in
    let one = start {asks = λ (e : Reading). IsReplacedFit tree e.world c.args.b (room e) × IsFrameLow (frame e)} height.goes height.cause (λ f e o. (f e o).0) in
    let chain = next one c.place.ensures.goes c.place.ensures.cause (λ f e o.
    let a = f e o in
    subst (λ (h : ℤ). PlaceFits (frame e) h) (sym (height.value e o)) (place-fits (frame e) (tall e) a.1 (wider (2 ^ 90) (2 ^ 94) (tall e) a.0.tall (omega arith)))) in
    record {
      goes = chain.goes;
      value = grind (arith, common_steps);
      cause = chain.cause;
    }
