use Rattle.std.proofs.Common.{◌≡◌, IsTrue, sym, subst, arith}
use Rattle.viz_calc.specs.World.{Reading}
use Rattle.layout_semantics.specs.Horizontal.{placing_of, block_flow, shrunk, replaced_block, replaced_shrunk}
use Rattle.layout_semantics.specs.Preferred.{preferred}
use Rattle.lay_preferred.specs.Fitting.{BoxesFit}
use Rattle.lay_preferred.proofs.Causes.{fits-later}
use Rattle.lay_width.specs.Fitting.{in_block, WidthsFit, ShrunkFits}
use Rattle.lay_line.proofs.Chains.{but_mem}
use Rattle.lay_flow.specs.Fits.{IsShapeFit}
use Rattle.lay_flow.proofs.Following.{first, then}
use Rattle.lay_flow.proofs.frames.widths.Goals as goal

pub returns-in-Block-clause-cause : goal.returns-in-Block-clause-cause
returns-in-Block-clause-cause g c =
    let at = g.S.Steady.at in
    let tree = c.args.page.now.tree.now in
    let b = c.args.b in
    let placed : placing_of tree b ≡ block_flow = grind arith in
    let cause = c.block.ensures.cause in
    record {
      coeff = λ f. cause.coeff (λ e o. subst (λ p. WidthsFit (in_block tree e.world b (at c.args.room.now e)) p (preferred tree e.world b)) placed (f.1 e o).inline_size);
      opens = cause.opens;
    }

pub returns-in-ReplacedBlock-clause-cause : goal.returns-in-ReplacedBlock-clause-cause
returns-in-ReplacedBlock-clause-cause g c =
    let at = g.S.Steady.at in
    let tree = c.args.page.now.tree.now in
    let b = c.args.b in
    let placed : placing_of tree b ≡ replaced_block = grind arith in
    let cause = c.replaced_block.ensures.cause in
    record {
      coeff = λ f. cause.coeff (λ e o. subst (λ p. WidthsFit (in_block tree e.world b (at c.args.room.now e)) p (preferred tree e.world b)) placed (f.1 e o).inline_size);
      opens = cause.opens;
    }

pub returns-in-ReplacedShrunk-clause-cause : goal.returns-in-ReplacedShrunk-clause-cause
returns-in-ReplacedShrunk-clause-cause g c =
    let at = g.S.Steady.at in
    let tree = c.args.page.now.tree.now in
    let b = c.args.b in
    let placed : placing_of tree b ≡ replaced_shrunk = grind arith in
    let cause = c.replaced_shrunk.ensures.cause in
    record {
      coeff = λ f. cause.coeff (λ e o. subst (λ p. WidthsFit (in_block tree e.world b (at c.args.room.now e)) p (preferred tree e.world b)) placed (f.1 e o).inline_size);
      opens = cause.opens;
    }

pub returns-in-Shrunk-clause-cause : goal.returns-in-Shrunk-clause-cause
returns-in-Shrunk-clause-cause g c =
    let at = g.S.Steady.at in
    let run = g.S.Steady.run in
    let tree = c.args.page.now.tree.now in
    let b = c.args.b in
    let placed : placing_of tree b ≡ shrunk = grind arith in
    let nothing = c.nothing_found-found.ensures in
    let both = c.preferred-both.ensures in
    let All = BoxesFit tree (run c.args.calc.now).is_open × ((e : Reading) → IsTrue ((run c.args.calc.now).is_open e) → IsShapeFit tree e.world b (at c.args.room.now e)) in
    let one = first {more = All} nothing.goes nothing.cause (λ f. tt) in
    let two = then one both.goes both.cause (λ so_far f. fits-later tree (run c.args.calc.now) (run c.nothing_found-found.new.calc) so_far f.0) in
    (then two c.shrunk.ensures.goes (but_mem c.shrunk.ensures.cause) (λ so_far f e o.
    subst (λ p. ShrunkFits tree e.world b (at c.args.room.now e) p) (sym (both.value e o))
    (subst (λ p. WidthsFit (in_block tree e.world b (at c.args.room.now e)) p (preferred tree e.world b)) placed (f.1 e (so_far.closes e o)).inline_size))).cause
