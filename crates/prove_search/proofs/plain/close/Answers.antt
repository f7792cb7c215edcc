use Rattle.std.proofs.Common.{MatchOption, subst}
use Rattle.cert_check.specs.Truths.{IsTrueIn, IsFirstUntrueIn}
use Rattle.prove_search.proofs.Closing.{closes_grid, violates}
use Rattle.prove_search.proofs.plain.close.Goals as goal

pub returns-in-Some : goal.returns-in-Some
returns-in-Some c =
    let job = c.args.job.now in
    let r = c.args.rect in
    (c.requires.turn, violates job r c.in-Some.world (subst (λ o. MatchOption o (IsTrueIn job r) (IsFirstUntrueIn job r)) c.in-Some.is c.in_ok-world.ensures))

pub returns-in-None : goal.returns-in-None
returns-in-None c =
    let job = c.args.job.now in
    let r = c.args.rect in
    closes_grid job r c.args.turns c.requires.proper c.requires.small c.requires.turn
    (subst (λ o. MatchOption o (IsTrueIn job r) (IsFirstUntrueIn job r)) c.in-None.is c.in_ok-world.ensures)
