use Rattle.std.proofs.Common.{sym, ◌∙◌, ap}
use Rattle.std.specs.Option.{option_copied}
use Rattle.css_select.proofs.Nodes.{parent_before}
use Rattle.css_select.proofs.tree.parent_of.Goals as goal

pub returns-clause-before : goal.returns-clause-before
returns-clause-before c = parent_before c.args.page.now.nodes c.args.page.now.ok c.args.node c.in_ok-get.field-0.now (sym c.get.ensures.value ∙ ap option_copied c.in_ok-get.was)
