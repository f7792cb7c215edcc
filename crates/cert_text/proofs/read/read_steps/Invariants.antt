use Rattle.std.proofs.Common.{◌≡◌, ◌-◌, length}
use Rattle.cert_text.specs.steps.Readers.{loop}
use Rattle.cert_text.specs.steps.Parts.{alike, read_step}
use Rattle.cert_text.proofs.LoopLemmas.{put_items}
use Rattle.cert_text.proofs.read.read_steps.Given as goal

abbrev pub invariant-loop-turn : goal.invariant-loop-turn
invariant-loop-turn l =
    let size = length l.initial.cursor.rest.now in
    loop alike (λ _. read_step l.cases) size 0 l.initial.cursor.rest.now ≡ put_items l.steps (loop alike (λ _. read_step l.cases) (size - l._turn) 0 l.cursor.rest.now)
