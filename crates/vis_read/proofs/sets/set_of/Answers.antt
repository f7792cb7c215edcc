use Rattle.std.proofs.Common.{sym, ◌∙◌}
use Rattle.vis_read.specs.Tokens.{IsSet}
use Rattle.vis_read.proofs.sets.set_of.Goals as goal

pub returns-then-names_pseudo : goal.returns-then-names_pseudo
returns-then-names_pseudo c text group = IsSet.of_pseudo _ group (sym c.names_pseudo.ensures ∙ c.if-names_pseudo.true)

pub returns : goal.returns
returns c text group = IsSet.set _ _ group (sym c.names_pseudo.ensures ∙ c.if-names_pseudo.false) c.in_ok-matched.ensures
