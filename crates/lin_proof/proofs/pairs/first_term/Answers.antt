use Rattle.std.proofs.Common.{◌≡◌, ◌∙◌, Option, ℕ, ℤ, [], MatchOption, ap, subst, sym}
use Rattle.std.specs.Prelude.{slice_get}
use Rattle.lin_proof.specs.Pairs.{IsFirst}
use Rattle.lin_proof.proofs.ClosingSums.{first_is}
use Rattle.lin_proof.proofs.pairs.first_term.Goals as goal

pub returns-clause-first : goal.returns-clause-first
returns-clause-first c =
    let terms = c.row.inside.terms in
    let P : Option (ℕ × ℤ) → Type 0 = λ o. MatchOption o (terms ≡ []) (IsFirst terms) in
    let whole : P c.copied.result = subst P (sym (c.copied.ensures ∙ c.first.ensures.value ∙ ap (λ ts. slice_get ts 0) c.as_slice.ensures)) (first_is terms) in
    subst (λ f. MatchOption c.copied.result (f.terms ≡ []) (IsFirst f.terms)) c.row.view_is whole
