use Rattle.std.proofs.lemmas.List.Filters.{dedup_is}
use Rattle.std.proofs.lemmas.List.Kept.{Contains-dedup_nat}
use Rattle.std.proofs.lemmas.List.Sorted.{Contains-permutation}
use Rattle.std.proofs.Common.{sym, subst}
use Rattle.std.specs.List.{Contains}
use Rattle.css_cascade.proofs.names.element_buckets.Goals as goal

pub returns : goal.returns
returns c =
    let is = dedup_is _ _ _ c.dedup.ensures.filtered in
    λ at h. rw is (Contains-dedup_nat _ at (Contains-permutation _ _ at c.in_ok-sort.ensures.permutation (subst (λ xs. Contains xs at) (sym c.in_ok-buckets.ensures) h)))
