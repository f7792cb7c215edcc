use Rattle.layout_laws.proofs.HorizontalTerms.{block-clamped, shrunk-clamped}
use Rattle.layout_laws.proofs.widths.used_widths_are_clamped.Goals as goal

pub returns-clause-block : goal.returns-clause-block
returns-clause-block c cb is = block-clamped c.args.tree.now c.args.world c.args.at cb is

pub returns-clause-shrunk : goal.returns-clause-shrunk
returns-clause-shrunk c cb is = shrunk-clamped c.args.tree.now c.args.world c.args.at cb is
