use Rattle.std.proofs.Common.{◌≡◌, IsTrue, sym, subst, arith}
use Rattle.viz_calc.specs.World.{Reading}
use Rattle.layout_semantics.specs.Horizontal.{placing_of, block_flow, shrunk, replaced_block, replaced_shrunk}
use Rattle.layout_semantics.specs.Preferred.{preferred}
use Rattle.lay_preferred.specs.Fitting.{BoxesFit}
use Rattle.lay_width.specs.Fitting.{in_block, WidthsFit, ShrunkFits}
use Rattle.lay_line.proofs.Chains.{but_mem}
use Rattle.lay_flow.specs.Fits.{IsShapeFit}
use Rattle.lay_flow.proofs.Following.{first, then}
use Rattle.lay_preferred.proofs.Founds.{found-later}
use Rattle.lay_flow.proofs.independent.widths.Goals as goal

pub returns-in-Block-clause-found : goal.returns-in-Block-clause-found
returns-in-Block-clause-found g c = found-later g.S.Steady.at c.args.tree.now (g.S.Steady.run c.args.calc.now) (g.S.Steady.run c.block.new.calc) _ c.block.ensures.goes c.requires

pub returns-in-ReplacedBlock-clause-found : goal.returns-in-ReplacedBlock-clause-found
returns-in-ReplacedBlock-clause-found g c =
    found-later g.S.Steady.at c.args.tree.now (g.S.Steady.run c.args.calc.now) (g.S.Steady.run c.replaced_block.new.calc) _ c.replaced_block.ensures.goes c.requires

pub returns-in-ReplacedShrunk-clause-found : goal.returns-in-ReplacedShrunk-clause-found
returns-in-ReplacedShrunk-clause-found g c =
    found-later g.S.Steady.at c.args.tree.now (g.S.Steady.run c.args.calc.now) (g.S.Steady.run c.replaced_shrunk.new.calc) _ c.replaced_shrunk.ensures.goes c.requires

pub returns-in-Shrunk-clause-found : goal.returns-in-Shrunk-clause-found
returns-in-Shrunk-clause-found g c =
    found-later g.S.Steady.at c.args.tree.now (g.S.Steady.run c.preferred-both.new.calc) (g.S.Steady.run c.shrunk.new.calc) _ c.shrunk.ensures.goes c.preferred-both.ensures.found

pub returns-in-Block-clause-cause : goal.returns-in-Block-clause-cause
returns-in-Block-clause-cause g c =
    let at = g.S.Steady.at in
    let tree = c.args.tree.now in
    let b = c.args.b in
    let placed : placing_of tree b ≡ block_flow = grind arith in
    let cause = c.block.ensures.cause in
    record {
      coeff = λ f. cause.coeff (λ e o. subst (λ p. WidthsFit (in_block tree e.world b (at c.args.room.now e)) p (preferred tree e.world b)) placed (f.1 e o).inline_size);
      opens = cause.opens;
    }

pub returns-in-ReplacedBlock-clause-cause : goal.returns-in-ReplacedBlock-clause-cause
returns-in-ReplacedBlock-clause-cause g c =
    let at = g.S.Steady.at in
    let tree = c.args.tree.now in
    let b = c.args.b in
    let placed : placing_of tree b ≡ replaced_block = grind arith in
    let cause = c.replaced_block.ensures.cause in
    record {
      coeff = λ f. cause.coeff (λ e o. subst (λ p. WidthsFit (in_block tree e.world b (at c.args.room.now e)) p (preferred tree e.world b)) placed (f.1 e o).inline_size);
      opens = cause.opens;
    }

pub returns-in-ReplacedShrunk-clause-cause : goal.returns-in-ReplacedShrunk-clause-cause
returns-in-ReplacedShrunk-clause-cause g c =
    let at = g.S.Steady.at in
    let tree = c.args.tree.now in
    let b = c.args.b in
    let placed : placing_of tree b ≡ replaced_shrunk = grind arith in
    let cause = c.replaced_shrunk.ensures.cause in
    record {
      coeff = λ f. cause.coeff (λ e o. subst (λ p. WidthsFit (in_block tree e.world b (at c.args.room.now e)) p (preferred tree e.world b)) placed (f.1 e o).inline_size);
      opens = cause.opens;
    }

pub returns-in-Shrunk-clause-cause : goal.returns-in-Shrunk-clause-cause
returns-in-Shrunk-clause-cause g c =
    let at = g.S.Steady.at in
    let run = g.S.Steady.run in
    let tree = c.args.tree.now in
    let b = c.args.b in
    let placed : placing_of tree b ≡ shrunk = grind arith in
    let both = c.preferred-both.ensures in
    let All = BoxesFit tree (run c.args.calc.now).is_open × ((e : Reading) → IsTrue ((run c.args.calc.now).is_open e) → IsShapeFit tree e.world b (at c.args.room.now e)) in
    let one = first {more = All} both.goes both.cause (λ f. f.0) in
    (then one c.shrunk.ensures.goes (but_mem c.shrunk.ensures.cause) (λ so_far f e o.
    subst (λ p. ShrunkFits tree e.world b (at c.args.room.now e) p) (sym (both.value e o))
    (subst (λ p. WidthsFit (in_block tree e.world b (at c.args.room.now e)) p (preferred tree e.world b)) placed (f.1 e (so_far.closes e o)).inline_size))).cause
