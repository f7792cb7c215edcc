use Rattle.page_limits.proofs.WidthsSmall.{far-page, whole-bounded, inline-bounded}
use Rattle.page_limits.proofs.widths.widths_of_a_page_are_small.Goals as goal

pub returns-clause-whole : goal.returns-clause-whole
returns-clause-whole c k on whole = whole-bounded c.args.tree.now (far-page c.args.tree.now c.requires.small c.requires.few_characters) c.args.world c.requires.sized c.requires.narrow c.requires.low k on whole

pub returns-clause-inline : goal.returns-clause-inline
returns-clause-inline c k on is = inline-bounded c.args.tree.now (far-page c.args.tree.now c.requires.small c.requires.few_characters) c.args.world c.requires.sized c.requires.narrow c.requires.low k on is
