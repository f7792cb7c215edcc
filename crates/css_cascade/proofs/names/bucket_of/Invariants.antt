use Rattle.std.proofs.Common.{◌≡◌, ◌<◌, drop}
use Rattle.css_cascade.specs.steps.Buckets.{bucket_from, bucket_of}
use Rattle.css_cascade.proofs.names.bucket_of.Given as goal

abbrev pub invariant-loop-byte : goal.invariant-loop-byte
invariant-loop-byte l = (l.at < 8191) × (bucket_from l.at (drop l.byte-index l.word) ≡ bucket_of l.word)
