use Rattle.std.proofs.Common.{◌≡◌, ◌-◌, length}
use Rattle.cert_text.specs.steps.Readers.{loop}
use Rattle.cert_text.specs.steps.Parts.{alike, read_one_part}
use Rattle.cert_text.proofs.LoopLemmas.{put_items}
use Rattle.cert_text.proofs.read.read_parts.Given as goal

abbrev pub invariant-loop-turn : goal.invariant-loop-turn
invariant-loop-turn l =
    let size = length l.initial.cursor.rest.now in
    loop alike (λ _. read_one_part) size 0 l.initial.cursor.rest.now ≡ put_items l.parts (loop alike (λ _. read_one_part) (size - l._turn) 0 l.cursor.rest.now)
