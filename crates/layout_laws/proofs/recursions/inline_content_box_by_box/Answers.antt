use Rattle.layout_semantics.proofs.Forest.{IsForest-from}
use Rattle.layout_laws.proofs.Levels.{content-by-boxes}
use Rattle.layout_laws.proofs.recursions.inline_content_box_by_box.Goals as goal

pub returns : goal.returns
returns c = let tree = c.args.tree.now in content-by-boxes tree c.args.at (IsForest-from tree.boxes tree.styles tree.fonts tree.parents tree.ok)
