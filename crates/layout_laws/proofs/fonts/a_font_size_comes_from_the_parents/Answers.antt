use Rattle.layout_laws.proofs.FontSizes.{font-of-style}
use Rattle.layout_laws.proofs.fonts.a_font_size_comes_from_the_parents.Goals as goal

pub returns : goal.returns
returns c style is = let tree = c.args.tree.now in font-of-style tree.styles tree.parents c.args.world.s c.args.node style tree.ok.parents_before is
