use Rattle.std.proofs.Common.{◌++◌, length, get_or, refl, ◌∙◌, sym, ap, subst}
use Rattle.viz_base.specs.declared.selectors.Pseudo.TheVariants.{After}
use Rattle.page_pseudo.specs.Grown.{content}
use Rattle.page_pseudo.specs.steps.Seeds.{written}
use Rattle.page_pseudo.specs.steps.Upto.{Upto}
use Rattle.page_pseudo.proofs.Nesting.{closed}
use Rattle.page_pseudo.proofs.walking.Growing.close.Goals as goal

pub returns-clause-growing : goal.returns-clause-growing
returns-clause-growing c =
    let w = written c.args.seeds in
    let all = c.args.self.now.grown.items in
    let body = c.args.node.now.body in
    let whole = c.in_ok-add_content.ensures
    ∙ ap (λ k. all ++ content After (length all) k body c.winners_at-winners.result.now) c.number_of-number.ensures
    ∙ ap (λ ws. all ++ content After (length all) (get_or c.args.self.now.numbers.items c.args.at 0) body ws) c.winners_at-winners.ensures in
    subst (Upto w c.args.self.now.numbers.items (length c.args.self.now.numbers.items) c.args.node.now.parent) (sym whole)
    (closed w c.args.seeds.page.now.ok c.args.self.now.numbers.items c.args.at c.args.node.now _ c.requires.few c.requires.growing c.requires.going c.requires.found c.requires.whole refl)
