use Rattle.std.proofs.Common.{◌∙◌, length, refl}
use Rattle.std.proofs.lemmas.Result.{err_from_is_err_and}
use Rattle.std.proofs.lemmas.List.{append-nil}
use Rattle.cert_text.specs.steps.Parts.{alike}
use Rattle.cert_text.specs.steps.Whole.{read_answer}
use Rattle.cert_text.proofs.CursorLemmas.{gives_err}
use Rattle.cert_text.proofs.LoopLemmas.{loop_more, loop_last, loop_refused, loop_ended}
use Rattle.cert_text.proofs.read.read_answers.Goals as goal

pub returns-in_err-answer : goal.returns-in_err-answer
returns-in_err-answer c =
    let p = err_from_is_err_and c.from_residual.result c.from_residual.ensures.1 in
    let size = length c.args.cursor.now.rest.now in
    rw (p.1, p.2) (gives_err _ (read_answer c.loop-turn.cursor.rest.now) _ _ (λ e h. rw (c.loop-turn.invariant ∙ loop_refused alike (λ _. read_answer) c.loop-turn.answers size c.loop-turn._turn 0 c.loop-turn.cursor.rest.now e c.loop-turn-test.true h) refl) c.in_err-answer.ensures)

pub returns : goal.returns
returns c = rw (c.loop-turn.invariant ∙ loop_ended alike (λ _. read_answer) c.loop-turn.answers (length c.args.cursor.now.rest.now) c.loop-turn._turn 0 c.loop-turn.cursor.rest.now c.loop-turn-test.false) refl

pub loop-turn-preserved : goal.loop-turn-preserved
loop-turn-preserved c =
    let given = rw c.in-More.is at c.in_ok-answer.ensures in
    rw (c.in_ok-push-in-More.ensures.ok) (c.loop-turn.invariant ∙ loop_more alike (λ _. read_answer) c.loop-turn.answers (length c.args.cursor.now.rest.now) c.loop-turn._turn 0 c.loop-turn.cursor.rest.now _ _ c.loop-turn-test.true given)

pub returns-in-Last : goal.returns-in-Last
returns-in-Last c =
    let given = rw c.in-Last.is at c.in_ok-answer.ensures in
    rw (c.loop-turn.invariant ∙ loop_last alike (λ _. read_answer) c.loop-turn.answers (length c.args.cursor.now.rest.now) c.loop-turn._turn 0 c.loop-turn.cursor.rest.now _ _ c.loop-turn-test.true given) (rw (append-nil c.loop-turn.answers) refl)
