use Rattle.std.proofs.Common.{string_bytes, arith, Global}
use Rattle.viz_run.proofs.WordLemmas.{words_4}
use Rattle.viz_survey_run.proofs.words.command_of.Goals as goal

pub returns-in-len4 : goal.returns-in-len4
returns-in-len4 c =
    let same = words_4 (string_bytes {Z = Global}) c.args.words.now c.verb-item-then-words-lt5.result c.job-item-then-words-lt5.result c.other-item.result c.turns-item.result (omega arith) c.verb-item-then-words-lt5.is c.job-item-then-words-lt5.is c.other-item.is c.turns-item.is in
    let a = c.as_str-in-len4.ensures.value in
    let b = c.as_str-in-len4-2.ensures.value in
    let d = c.as_str-in-len4-3.ensures.value in
    let e = c.as_str-in-len4-4.ensures.value in
    let answer = rw (a, b, d, e) at c.table_or_renew_of.ensures in
    rw same answer
