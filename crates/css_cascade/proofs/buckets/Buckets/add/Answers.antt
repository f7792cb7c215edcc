use Rattle.std.proofs.Common.{◌≡◌, ◌++◌, ◌∷◌, ◌∙◌, [], map, reverse, true, sym, ap, subst}
use Rattle.css_cascade.specs.steps.Buckets.{numbered}
use Rattle.css_cascade.specs.steps.Present.{lacks_some}
use Rattle.css_cascade.specs.steps.Trying.{StandFor}
use Rattle.css_cascade.proofs.Lacking.{lacks_all}
use Rattle.css_cascade.proofs.Repeating.{stand_for_lacking, stand_for_more, stand_for_repeated}
use Rattle.css_cascade.proofs.buckets.Buckets.add.Goals as goal

pub returns-then-repeats_last-clause-added : goal.returns-then-repeats_last-clause-added
returns-then-repeats_last-clause-added c = λ nodes all of_page h.
    stand_for_repeated nodes (map numbered c.args.self.now.candidates.items) all c.args.rules c.args.ranked.now (c.repeats_last.ensures c.if-repeats_last.true) h

pub returns-then-lacks_some-clause-added : goal.returns-then-lacks_some-clause-added
returns-then-lacks_some-clause-added c = λ nodes all of_page h.
    let parts = c.args.ranked.now.selector.parts in
    let lacks : lacks_some c.args.present.now (reverse parts) ≡ true = ap (λ ps. lacks_some c.args.present.now (reverse ps)) (sym c.as_slice.ensures) ∙ sym c.lacks_some.ensures ∙ c.if-lacks_some.true in
    stand_for_lacking nodes (map numbered c.args.self.now.candidates.items) all (c.args.rules, c.args.ranked.now) (lacks_all nodes c.args.present.now parts of_page lacks) h

pub returns-clause-added : goal.returns-clause-added
returns-clause-added c = λ nodes all of_page h.
    subst (λ xs. StandFor nodes xs (all ++ (c.args.rules, c.args.ranked.now) ∷ [])) (sym c.in_ok-put.ensures.added)
    (stand_for_more nodes (map numbered c.args.self.now.candidates.items) all (c.args.rules, c.args.ranked.now) h)
