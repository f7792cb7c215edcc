use Rattle.std.proofs.Common.{◌≡◌, ◌<◌, ◌++◌, drop}
use Rattle.css_cascade.specs.steps.Buckets.{buckets_from}
use Rattle.css_cascade.proofs.names.add_pieces.Given as goal

abbrev pub invariant-loop-byte : goal.invariant-loop-byte
invariant-loop-byte l = (l.at < 8191) × (l.buckets.items ++ buckets_from l.at (drop l.byte-index l.text) ≡ l.initial.buckets.items ++ buckets_from 0 l.text)
