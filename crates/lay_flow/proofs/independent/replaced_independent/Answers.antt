use Rattle.std.proofs.Common.{◌^◌, ℤ, sym, subst, arith}
use Rattle.std.proofs.lemmas.Grind.{common_steps}
use Rattle.viz_base.specs.declared.renderings.Placed.{Placed}
use Rattle.viz_calc.specs.World.{Reading}
use Rattle.layout_semantics.specs.Replaced.{replaced_size}
use Rattle.lay_frame.specs.Readings.{frame_at}
use Rattle.lay_line.proofs.Chains.{start_but_mem, next_but_mem, but_mem}
use Rattle.page_limits.specs.Bounds.{IsQuadIn}
use Rattle.lay_flow.specs.Low.{IsFrameLow}
use Rattle.lay_flow.specs.Fits.{IsReplacedFit, near}
use Rattle.lay_steps.specs.Flow.{replaced_of}
use Rattle.lay_flow.proofs.Framed.{margin-near}
use Rattle.lay_flow.proofs.Sizes.{wider}
use Rattle.lay_frame.proofs.Slots.{no_boxes}
use Rattle.lay_steps.specs.Flow.{replaced_independent}
use Rattle.lay_flow.proofs.independent.replaced_independent.Goals as goal

pub returns : goal.returns
unfolding replaced_of replaced_independent
returns g c =
    let at = g.S.Steady.at in
    let tree = c.args.page.now.tree.now in
    let b = c.args.b in
    let frame = (λ (e : Reading). frame_at at c.args.shape.now e) in
    let room = (λ (e : Reading). at c.args.room.now e) in
    let tall = (λ (e : Reading). (replaced_size tree e.world b (room e)).height) in
    let placed = c.replaced_box-placed.ensures in
    let size = c.outer_extent-size.ensures in
    let one = start_but_mem {asks = λ (e : Reading). IsReplacedFit tree e.world b (room e) × IsFrameLow (frame e)} placed.goes (but_mem placed.cause) (λ f. f) in
    let two = next_but_mem one size.goes (but_mem size.cause) (λ f e o.
    let a = f e o in
    subst (λ (p : Placed ℤ). IsQuadIn near p.margin) (sym (placed.value e o)) (margin-near (frame e) (tall e) a.1 (wider (2 ^ 90) (2 ^ 94) (tall e) a.0.tall (omega arith)) tree b)) in
    let chain = next_but_mem two c.append.ensures.goes c.append.ensures.cause (λ f e o. tt) in
    record {
      goes = chain.goes;
      value = grind (arith, common_steps, no_boxes);
      cause = chain.cause;
    }
