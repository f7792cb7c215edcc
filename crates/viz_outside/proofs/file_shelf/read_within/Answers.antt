use Rattle.std.proofs.Common.{◌<◌, ◌^◌, length, arith, ◌∙◌}
use Rattle.viz_outside.proofs.ByteLemmas.{loads_front}
use Rattle.viz_outside.proofs.file_shelf.read_within.Goals as goal

pub returns-in-Ok-clause-told : goal.returns-in-Ok-clause-told
returns-in-Ok-clause-told g c =
    let bytes = c.read_to_end.new.buf.items in
    let small : length bytes < 2 ^ 63 = omega (arith, c.read_to_end.new.buf.ok.0, c.read_to_end.new.buf.ok.1, c.read_to_end.new.buf.small) in
    let read = rw (c.take-front.ensures.inner, c.new-bytes.ensures.items) at c.in-Ok.ensures.bytes in
    rw c.within.ensures (loads_front (g.F.Read.remaining c.args.file) c.take-front.result.limit c.args.cap bytes (c.take-front.ensures.limit ∙ c.saturating_add.ensures) small read)
