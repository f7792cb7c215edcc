use Rattle.std.proofs.Common.{◌≡◌, IfOk, subst}
use Rattle.css_syntax.proofs.MediaSteps.{entry_named}
use Rattle.css_syntax.proofs.media.entry_of.Goals as goal

pub returns-in-Some : goal.returns-in-Some
returns-in-Some c =
    subst (λ x. IfOk c.medium_entry.result (λ e. e ≡ x)) (entry_named c.args.pieces.now (c.in-Some.negated, c.in-Some.name, c.in-Some.rest.now) c.in-Some.ensures) c.medium_entry.ensures
