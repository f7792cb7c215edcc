use Rattle.std.proofs.Common.{sym, ap, ◌∙◌}
use Rattle.std.specs.Option.{option_copied}
use Rattle.page_pseudo.proofs.Members.{none_past}
use Rattle.page_pseudo.proofs.seeds.winners_at.Goals as goal

pub returns-in-None : goal.returns-in-None
returns-in-None c = sym (none_past c.args.cascaded.now.winners c.args.at (sym c.get.ensures.value ∙ ap option_copied c.in-None.is))
