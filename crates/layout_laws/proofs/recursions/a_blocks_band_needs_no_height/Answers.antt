use Rattle.std.proofs.Common.{sym, ap, ◌∙◌}
use Rattle.layout_semantics.specs.FlowBoxes.{inline_size, content_from}
use Rattle.layout_semantics.specs.Horizontal.{block_flow}
use Rattle.layout_laws.proofs.HorizontalTerms.{widths-placed}
use Rattle.layout_laws.proofs.recursions.a_blocks_band_needs_no_height.Goals as goal

pub returns-clause-band : goal.returns-clause-band
returns-clause-band c cb = ap (content_from cb.left) (sym (widths-placed c.args.tree.now c.args.world c.args.at (inline_size cb) block_flow c.requires.block))

pub returns-clause-height : goal.returns-clause-height
returns-clause-height c h cb =
    let here = widths-placed c.args.tree.now c.args.world c.args.at (inline_size cb) block_flow c.requires.block in
    let there = widths-placed c.args.tree.now (record c.args.world { h = h }) c.args.at (inline_size cb) block_flow c.requires.block in
    ap (content_from cb.left) (there ∙ sym here)
