use Rattle.std.proofs.Common.{◌≡◌, length}
use Rattle.cert_text.specs.Pieces.{bytes_of}
use Rattle.cert_file.proofs.checking.text_length.Given as goal

abbrev pub invariant-rest : goal.invariant-rest
invariant-rest l = bytes_of l.reader ≡ l.bytes

abbrev pub decreases-rest : goal.decreases-rest
decreases-rest l = length l.reader.rest
