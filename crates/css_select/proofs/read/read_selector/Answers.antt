use Rattle.std.proofs.Common.{◌<◌, ◌^◌, subst}
use Rattle.css_select.proofs.Answers.{answers, countable}
use Rattle.css_select.proofs.read.read_selector.Goals as goal

pub returns : goal.returns
returns c =
    let given = answers c.args.text.now _ _ _ _ c.in_ok-tokens.ensures c.in_ok-end.ensures.is c.as_slice.ensures c.read_tokens.ensures in
    record { answer = given; countable = countable c.args.text.now _ c.utf8.text (subst (λ n. n < 2 ^ 32) c.in_ok-end.ensures.is c.in_ok-end.ensures.small) given }
