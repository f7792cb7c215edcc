use Rattle.std.proofs.Common.{◌≡◌, decimal, sym, ◌∙◌, ap}
use Rattle.std.proofs.lemmas.Slice.Eq.{bytes_eq-Decides}
use Rattle.std.proofs.lemmas.Bool.{false≢true}
use Rattle.viz_run.proofs.WordLemmas.{parsed}
use Rattle.viz_run.proofs.words.number_of.Goals as goal

pub returns-else-eq : goal.returns-else-eq
returns-else-eq c = λ n small e.
    let p = parsed c.args.word.now n c.parse.result small e c.parse.ensures.value.0 in
    let same : c.in-Ok.number ≡ n = cc in
    let text : c.format.result.now ≡ c.args.word.now = c.format.ensures.text ∙ ap decimal same ∙ sym e in
    let equal = (bytes_eq-Decides c.format.result.now c.args.word.now).1 text in
    false≢true (sym c.if-eq.false ∙ c.eq.ensures ∙ equal)

pub returns-in-Err : goal.returns-in-Err
returns-in-Err c = λ n small e. let p = parsed c.args.word.now n c.parse.result small e c.parse.ensures.value.0 in absurd (cc)
