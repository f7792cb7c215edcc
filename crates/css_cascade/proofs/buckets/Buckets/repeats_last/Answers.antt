use Rattle.std.proofs.Common.{◌≡◌, ◌++◌, ◌∷◌, ◌∙◌, [], map, sym, subst}
use Rattle.css_cascade.specs.steps.Buckets.{numbered}
use Rattle.css_cascade.proofs.Standing.{one_more}
use Rattle.css_cascade.proofs.buckets.Buckets.repeats_last.Goals as goal

pub returns-then-last-rules : goal.returns-then-last-rules
returns-then-last-rules c = λ yes.
    let before = c.in-Some.field-0-1.now in
    let last = c.in-Some.last.now in (
      map numbered before,
      last.ranked.now,
      subst (λ i. map numbered c.args.self.now.candidates.items ≡ map numbered before ++ (i, last.ranked.now) ∷ []) c.if-last-rules.true
          (one_more before c.args.self.now.candidates.items last (sym c.as_slice.ensures.value ∙ c.in-Some.ensures.cases.0)),
      c.repeats.ensures.parts yes,
      c.repeats.ensures.spec yes,
    )
