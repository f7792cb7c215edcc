use Rattle.std.proofs.Common.{None, map, sym, subst}
use Rattle.css_semantics.specs.Winners.{AreWinners}
use Rattle.page_pseudo.specs.Grown.{Written, children, node_of}
use Rattle.page_pseudo.proofs.GrownPages.{grown_page, grown_winners}
use Rattle.page_pseudo.proofs.growing.grow.Goals as goal

pub split-requires : goal.split-requires
split-requires c =
    let w : Written = record { nodes = c.args.page.now.nodes; own = c.args.own.now.winners; before = c.args.before.now.winners; after = c.args.after.now.winners } in
    grown_page w c.args.page.now.ok c.in_ok-grown.grown.items c.in_ok-grown.ensures c.in_ok-check_room.ensures

pub returns-clause-lists : goal.returns-clause-lists
returns-clause-lists c = λ own before after.
    let w : Written = record { nodes = c.args.page.now.nodes; own = c.args.own.now.winners; before = c.args.before.now.winners; after = c.args.after.now.winners } in
    let all = c.in_ok-grown.grown.items in
    subst (λ ns. AreWinners ns c.in_ok-split.field-0.cascaded.winners) (sym (c.in_ok-split.ensures).nodes)
    (subst (AreWinners (map node_of all)) (sym (c.in_ok-split.ensures).winners) (grown_winners w (children w.nodes None) all c.in_ok-grown.ensures own before after))
