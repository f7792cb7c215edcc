use Rattle.std.proofs.Common.{◌<◌, ◌^◌, rules}
use Rattle.viz_run.proofs.WordLemmas.{sections_within}
use Rattle.viz_run.proofs.words.sections_of.Goals as goal

pub returns-in-Some : goal.returns-in-Some
returns-in-Some c =
    let small : c.in-Some.number < 2 ^ 64 = search rules in
    sections_within c.args.word.now c.in-Some.number c.within.result small c.in-Some.ensures c.within.ensures
