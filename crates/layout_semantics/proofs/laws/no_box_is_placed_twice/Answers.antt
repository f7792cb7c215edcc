use Rattle.layout_semantics.proofs.Pages.{forest, page-distinct}
use Rattle.layout_semantics.proofs.laws.no_box_is_placed_twice.Goals as goal

pub returns : goal.returns
returns c =
    let tree = c.args.tree.now in
    page-distinct tree.boxes c.args.first c.args.second (forest tree) c.requires.differ c.requires.within
