use Rattle.std.proofs.Common.{◌∙◌, ap}
use Rattle.viz_base.specs.Pages.{is_element}
use Rattle.page_pseudo.specs.steps.Seeds.{written}
use Rattle.page_pseudo.proofs.Nesting.{element_added, text_added, with_first}
use Rattle.page_pseudo.proofs.walking.Growing.add.Goals as goal

pub returns-in-Element-clause-growing : goal.returns-in-Element-clause-growing
returns-in-Element-clause-growing c =
    element_added (written c.args.seeds) c.args.seeds.page.now.ok c.args.self.now.numbers.items c.push.new.self.items c.args.at c.args.node.now c.args.self.now.grown.items c.add_content.new.grown.items c.args.self.now.going c.in_ok-new.new
    c.requires.next c.requires.found c.requires.going c.requires.growing (c.in_ok-new.ensures ∙ c.len.ensures ∙ c.args.self.now.grown.ok.0) c.in_ok-push.ensures.items
    (with_first (written c.args.seeds) c.args.self.now.numbers.items c.args.at c.args.node.now c.args.self.now.grown.items c.add_own.new.grown.items c.add_content.new.grown.items c.parent_of-parent.result c.in_ok-new.new c.winners_at-winners.result.now
    c.parent_of-parent.ensures (c.in_ok-new.ensures ∙ c.len.ensures ∙ c.args.self.now.grown.ok.0) c.winners_at-winners.ensures c.in_ok-add_own.ensures c.in_ok-add_content.ensures)

pub returns-in_default-clause-growing : goal.returns-in_default-clause-growing
returns-in_default-clause-growing c =
    text_added (written c.args.seeds) c.args.seeds.page.now.ok c.args.self.now.numbers.items c.push.new.self.items c.args.at c.args.node.now c.args.self.now.grown.items c.add_content.new.grown.items c.args.self.now.going c.in_ok-new.new
    c.requires.next c.requires.found (ap is_element c.in_default.is) c.requires.going c.requires.growing (c.in_ok-new.ensures ∙ c.len.ensures ∙ c.args.self.now.grown.ok.0) c.in_ok-push.ensures.items
    (with_first (written c.args.seeds) c.args.self.now.numbers.items c.args.at c.args.node.now c.args.self.now.grown.items c.add_own.new.grown.items c.add_content.new.grown.items c.parent_of-parent.result c.in_ok-new.new c.winners_at-winners.result.now
    c.parent_of-parent.ensures (c.in_ok-new.ensures ∙ c.len.ensures ∙ c.args.self.now.grown.ok.0) c.winners_at-winners.ensures c.in_ok-add_own.ensures c.in_ok-add_content.ensures)
