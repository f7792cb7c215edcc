use Rattle.std.proofs.Common.{◌≡◌, [], sym, ◌∙◌, true≢false}
use Rattle.css_semantics.specs.Spelled.{spelled}
use Rattle.css_cascade.proofs.Firsts.{first_of}
use Rattle.css_cascade.proofs.reading.ruleset_of.Goals as goal

pub returns : goal.returns
returns c =
    let some : c.args.selectors ≡ [] → ⊥ = λ none. true≢false (sym (c.is_empty.ensures.1 none) ∙ c.if-is_empty.false) in
    let first = first_of spelled c.args.selectors some in
    (first.0, first.1, first.2, c.in_ok-ruleset_by.ensures.0, c.in_ok-ruleset_by.ensures.1)
