use Rattle.std.proofs.Common.{◌≡◌, arith, subst}
use Rattle.layout_semantics.specs.Horizontal.{block_flow, shrunk, replaced_block, replaced_shrunk, placing_of}
use Rattle.layout_laws.proofs.HorizontalTerms.{widths-placed}
use Rattle.lay_width.specs.Readings.{preferred_at}
use Rattle.lay_width.specs.Fitting.{in_block, WidthsFit}
use Rattle.lay_width.proofs.engine.widths.Goals as goal

pub returns-in-Block-clause-value : goal.returns-in-Block-clause-value
returns-in-Block-clause-value g c = λ e o p.
    let placed : placing_of c.args.tree.now c.args.b ≡ block_flow = grind arith in
    let is = widths-placed c.args.tree.now e.world c.args.b (g.S.Steady.at c.args.cb.now e) block_flow placed in
    grind arith

pub returns-in-Shrunk-clause-value : goal.returns-in-Shrunk-clause-value
returns-in-Shrunk-clause-value g c = λ e o p.
    let placed : placing_of c.args.tree.now c.args.b ≡ shrunk = grind arith in
    let is = widths-placed c.args.tree.now e.world c.args.b (g.S.Steady.at c.args.cb.now e) shrunk placed in
    let own = p placed in
    grind arith

pub returns-in-ReplacedBlock-clause-value : goal.returns-in-ReplacedBlock-clause-value
returns-in-ReplacedBlock-clause-value g c = λ e o p.
    let placed : placing_of c.args.tree.now c.args.b ≡ replaced_block = grind arith in
    let is = widths-placed c.args.tree.now e.world c.args.b (g.S.Steady.at c.args.cb.now e) replaced_block placed in
    grind arith

pub returns-in-ReplacedShrunk-clause-value : goal.returns-in-ReplacedShrunk-clause-value
returns-in-ReplacedShrunk-clause-value g c = λ e o p.
    let placed : placing_of c.args.tree.now c.args.b ≡ replaced_shrunk = grind arith in
    let is = widths-placed c.args.tree.now e.world c.args.b (g.S.Steady.at c.args.cb.now e) replaced_shrunk placed in
    grind arith

pub returns-in-ReplacedBlock-clause-cause : goal.returns-in-ReplacedBlock-clause-cause
returns-in-ReplacedBlock-clause-cause g c =
    let placed : placing_of c.args.tree.now c.args.b ≡ replaced_block = grind arith in
    let cause = c.replaced_block.ensures.cause in
    record {
      mem = cause.mem;
      coeff = λ f. cause.coeff (λ e o. subst (λ p. WidthsFit (in_block c.args.tree.now e.world c.args.b (g.S.Steady.at c.args.cb.now e)) p (preferred_at g.S.Steady.at c.args.preferred.now e)) placed (f e o));
      opens = cause.opens;
    }
