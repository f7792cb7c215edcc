use Rattle.layout_semantics.proofs.Pages.{forest, placed_on_page, page_placed}
use Rattle.layout_semantics.proofs.laws.each_box_of_the_page_is_placed.Goals as goal

pub returns : goal.returns
returns c =
    let tree = c.args.tree.now in
    (λ placed. placed_on_page tree.boxes c.args.at placed, λ on. page_placed tree.boxes c.args.at (forest tree) on)
