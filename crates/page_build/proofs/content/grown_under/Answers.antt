use Rattle.std.proofs.Common.{refl}
use Rattle.page_build.specs.Seen.{written_on}
use Rattle.page_build.proofs.Stages.{grown_from}
use Rattle.page_build.proofs.content.grown_under.Goals as goal

pub returns-clause-given : goal.returns-clause-given
returns-clause-given c =
    grown_from c.args.page.now.nodes c.args.texts.now c.args.sheets.now (written_on c.args.page.now.nodes c.in_ok-winning.winning) c.grown.result
    refl c.in_ok-winning.ensures.given c.grown.ensures.given
