use Rattle.std.proofs.Common.{◌≡◌, ◌-◌, length}
use Rattle.cert_text.specs.steps.Readers.{loop}
use Rattle.cert_text.specs.steps.Parts.{next_variable, read_term}
use Rattle.cert_text.proofs.LoopLemmas.{put_items}
use Rattle.cert_text.proofs.read.read_terms.Given as goal

abbrev pub invariant-loop-turn : goal.invariant-loop-turn
invariant-loop-turn l =
    let size = length l.initial.cursor.rest.now in
    loop next_variable (read_term l.is_def) size 0 l.initial.cursor.rest.now ≡ put_items l.terms (loop next_variable (read_term l.is_def) (size - l._turn) l.least l.cursor.rest.now)
