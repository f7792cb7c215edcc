-- Counts of a selector's tests are within its size.
use Rattle.std.proofs.Common.{◌≡◌, ℕ, ◌+◌, ◌<◌, ◌^◌, Bool, List, length, take, get_or, ◌∙◌, ap, arith, Fits, w32}
use Rattle.std.specs.List.{count_by, sum_by}
use Rattle.std.proofs.lemmas.List.Sums.{count_by-le-length, sum_by_more_le, sum_by-le-sum_by}
use Rattle.viz_base.specs.declared.selectors.Compound.{Compound}
use Rattle.viz_base.specs.declared.selectors.Join.{Join}
use Rattle.viz_base.specs.declared.selectors.Test.{Test}
use Rattle.css_semantics.specs.Specificity.{parts_size}

pub sum_fits : (p : Test → Bool) (parts : List (Join × Compound)) (k : ℕ) (item : Join × Compound) (tests : List Test) (count more : ℕ) → parts_size parts < 2 ^ 32 → k < length parts → item ≡ get_or parts k item
    → count ≡ sum_by (λ (q : Join × Compound). count_by p q.1.tests) (take k parts) → tests ≡ item.1.tests → more ≡ count_by p tests → Fits w32 (count + more)
sum_fits p parts k item tests count more small within is so_far same found =
    let each = sum_by_more_le (λ (q : Join × Compound). count_by p q.1.tests) parts k item within in
    let all = sum_by-le-sum_by (λ (q : Join × Compound). count_by p q.1.tests) (λ (q : Join × Compound). length q.1.tests) parts (λ q. count_by-le-length p q.1.tests) in
    let last : more ≡ count_by p (get_or parts k item).1.tests = found ∙ ap (count_by p) same ∙ ap (λ (q : Join × Compound). count_by p q.1.tests) is in
    omega (arith, each, all, last, so_far, small)
