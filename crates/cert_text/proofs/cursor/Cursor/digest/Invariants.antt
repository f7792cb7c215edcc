use Rattle.std.proofs.Common.{◌≡◌, ◌-◌, length, take}
use Rattle.cert_text.specs.steps.Read.{read_bytes}
use Rattle.cert_text.proofs.CursorLemmas.{put_front}
use Rattle.cert_text.proofs.cursor.Cursor.digest.Given as goal

abbrev pub invariant-loop-i : goal.invariant-loop-i
invariant-loop-i l = record {
  sized : length l.digest ≡ 32;
  same : read_bytes 32 l.initial.self.rest.now ≡ put_front (take l.i l.digest) (read_bytes (32 - l.i) l.self.rest.now);
}
