use Rattle.std.proofs.Common.{◌∙◌, length, refl}
use Rattle.std.proofs.lemmas.Result.{err_from_is_err_and}
use Rattle.std.proofs.lemmas.List.{append-nil}
use Rattle.cert_text.specs.steps.Parts.{next_variable, read_term}
use Rattle.cert_text.proofs.CursorLemmas.{gives_err}
use Rattle.cert_text.proofs.LoopLemmas.{loop_more, loop_last, loop_refused, loop_ended}
use Rattle.cert_text.proofs.read.read_terms.Goals as goal

pub returns-in_err-term : goal.returns-in_err-term
returns-in_err-term c =
    let p = err_from_is_err_and c.from_residual.result c.from_residual.ensures.1 in
    let size = length c.args.cursor.now.rest.now in
    rw (p.1, p.2) (gives_err _ (read_term c.args.is_def c.loop-turn.least c.loop-turn.cursor.rest.now) _ _ (λ e h. rw (c.loop-turn.invariant ∙ loop_refused next_variable (read_term c.args.is_def) c.loop-turn.terms size c.loop-turn._turn c.loop-turn.least c.loop-turn.cursor.rest.now e c.loop-turn-test.true h) refl) c.in_err-term.ensures)

pub returns : goal.returns
returns c = rw (c.loop-turn.invariant ∙ loop_ended next_variable (read_term c.args.is_def) c.loop-turn.terms (length c.args.cursor.now.rest.now) c.loop-turn._turn c.loop-turn.least c.loop-turn.cursor.rest.now c.loop-turn-test.false) refl

pub loop-turn-preserved : goal.loop-turn-preserved
loop-turn-preserved c =
    let given = rw c.in-More.is at c.in_ok-term.ensures in
    rw (c.in_ok-terms-in-More.ensures, c.from-least.ensures) (c.loop-turn.invariant ∙ loop_more next_variable (read_term c.args.is_def) c.loop-turn.terms (length c.args.cursor.now.rest.now) c.loop-turn._turn c.loop-turn.least c.loop-turn.cursor.rest.now _ _ c.loop-turn-test.true given)

pub returns-in-Last : goal.returns-in-Last
returns-in-Last c =
    let given = rw c.in-Last.is at c.in_ok-term.ensures in
    rw (c.loop-turn.invariant ∙ loop_last next_variable (read_term c.args.is_def) c.loop-turn.terms (length c.args.cursor.now.rest.now) c.loop-turn._turn c.loop-turn.least c.loop-turn.cursor.rest.now _ _ c.loop-turn-test.true given) (rw (append-nil c.loop-turn.terms, c.in_ok-with_last-in-Last.ensures) refl)
