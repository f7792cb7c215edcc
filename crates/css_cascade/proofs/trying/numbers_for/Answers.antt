use Rattle.std.proofs.Common.{arith}
use Rattle.std.proofs.lemmas.List.Filters.{dedup_is}
use Rattle.std.proofs.lemmas.List.Kept.{Contains-dedup_nat}
use Rattle.std.proofs.lemmas.List.Sorted.{Contains-permutation}
use Rattle.std.proofs.lemmas.Map.Keys.{IsStrictlyIncreasing-dedup}
use Rattle.css_cascade.proofs.Tries.{rises}
use Rattle.css_cascade.proofs.trying.numbers_for.Goals as goal

pub returns-clause-rise : goal.returns-clause-rise
returns-clause-rise c =
    let is = dedup_is _ _ _ c.dedup.ensures.filtered in
    rises 0 _ (λ l. omega arith) (rw is (IsStrictlyIncreasing-dedup _ c.in_ok-sort.ensures.sorted))

pub returns-clause-all : goal.returns-clause-all
returns-clause-all c =
    let is = dedup_is _ _ _ c.dedup.ensures.filtered in
    λ at h. rw is (Contains-dedup_nat _ at (Contains-permutation _ _ at c.in_ok-sort.ensures.permutation (c.in_ok-numbers.ensures at h)))
