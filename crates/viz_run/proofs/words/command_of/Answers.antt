use Rattle.std.proofs.Common.{string_bytes, arith, Global}
use Rattle.viz_run.proofs.WordLemmas.{words_4, words_5}
use Rattle.viz_run.proofs.words.command_of.Goals as goal

pub returns-in-len5 : goal.returns-in-len5
returns-in-len5 c =
    let same = words_5 (string_bytes {Z = Global}) c.args.words.now c.verb-item-then-words-lt6.result c.job-item.result c.width-item.result c.size-item.result c.height-item.result (omega arith) c.verb-item-then-words-lt6.is c.job-item.is c.width-item.is c.size-item.is c.height-item.is in
    let a = c.as_str-in-len5.ensures.value in
    let b = c.as_str-in-len5-2.ensures.value in
    let d = c.as_str-in-len5-3.ensures.value in
    let e = c.as_str-in-len5-4.ensures.value in
    let f = c.as_str-in-len5-5.ensures.value in
    let answer = rw (a, b, d, e, f) at c.tall_lay_or_none.ensures in
    rw same answer

pub returns-in-len4 : goal.returns-in-len4
returns-in-len4 c =
    let same = words_4 (string_bytes {Z = Global}) c.args.words.now c.verb-item-then-words-lt5.result c.second-item-then-words-lt5.result c.third-item-then-words-lt5.result c.fourth-item.result (omega arith) c.verb-item-then-words-lt5.is c.second-item-then-words-lt5.is c.third-item-then-words-lt5.is c.fourth-item.is in
    let a = c.as_str-in-len4.ensures.value in
    let b = c.as_str-in-len4-2.ensures.value in
    let d = c.as_str-in-len4-3.ensures.value in
    let e = c.as_str-in-len4-4.ensures.value in
    let answer = rw (a, b, d, e) at c.lay_or_trial_of.ensures in
    rw same answer
