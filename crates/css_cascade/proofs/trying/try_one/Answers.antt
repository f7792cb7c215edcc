use Rattle.std.proofs.Common.{◌≡◌, ◌∷◌, true, false, refl}
use Rattle.css_cascade.specs.steps.Buckets.{numbered}
use Rattle.css_cascade.specs.steps.Trying.{Matched, found}
use Rattle.css_cascade.proofs.trying.try_one.Goals as goal

pub returns-then-matches_beside-clause-tried : goal.returns-then-matches_beside-clause-tried
returns-then-matches_beside-clause-tried c = λ rest behind m. (found (numbered c.args.candidate.now) ∷ behind, Matched.matches (c.matches_beside.ensures.0 c.if-matches_beside.true) m, c.join.ensures.goes behind)

pub returns-else-matches_beside-clause-tried : goal.returns-else-matches_beside-clause-tried
returns-else-matches_beside-clause-tried c = λ rest behind m.
    (behind, Matched.passes_by (λ h. let yes : c.matches_beside.result ≡ true = c.matches_beside.ensures.1 h in let no : c.matches_beside.result ≡ false = c.if-matches_beside.false in cc) m, refl)
