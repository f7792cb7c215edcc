use Rattle.std.proofs.Common.{◌≡◌, ◌++◌, drop}
use Rattle.std.specs.Prelude.{flat_map}
use Rattle.css_cascade.proofs.Standing.{bucket_in}
use Rattle.css_cascade.proofs.trying.gathered.Given as goal

abbrev pub invariant-loop-word : goal.invariant-loop-word
invariant-loop-word l = l.numbers.items ++ flat_map (bucket_in l.buckets.named.items) (drop l.word-index l.word-items) ≡ l.buckets.others ++ flat_map (bucket_in l.buckets.named.items) l.word-items
