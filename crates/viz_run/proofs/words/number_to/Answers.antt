use Rattle.std.proofs.Common.{◌<◌, ◌^◌, rules}
use Rattle.viz_run.proofs.WordLemmas.{number_within}
use Rattle.viz_run.proofs.words.number_to.Goals as goal

pub returns-in-Some : goal.returns-in-Some
returns-in-Some c =
    let small : c.in-Some.number < 2 ^ 64 = search rules in
    let few : c.args.most < 2 ^ 32 = search rules in
    number_within c.args.word.now c.in-Some.number c.args.most c.within.result small few c.in-Some.ensures c.within.ensures
