use Rattle.std.proofs.Common.{arith, ◌∙◌, ap}
use Rattle.std.proofs.lemmas.Result.{IfOk-weaker}
use Rattle.viz_tables.specs.Joins.{both_words}
use Rattle.viz_tables.proofs.Widths.{more_count, more_words, none_left, none_words, same_count}
use Rattle.viz_tables.proofs.joining.+all_words.Goals as goal

pub overflow_add-range : goal.overflow_add-range
overflow_add-range t c =
    let most = c.requires.range.width_most in
    omega (arith, most)

pub both_words-requires : goal.both_words-requires
both_words-requires t c =
    let others = c.in_ok-others-in-Some in
    let own = c.in_ok-own-in-Some in
    let same = same_count c.args.range c.args.turns c.args.jobs.items c.pop.new.self.items c.in-Some.job others.others own.own c.in-Some.ensures.items c.requires.ranges others.ensures.count own.ensures.count in
    let a = c.as_slice.ensures in
    let b = c.as_slice-in-Some.ensures in
    cc

pub returns-in-None-clause-right : goal.returns-in-None-clause-right
returns-in-None-clause-right t c =
    let popped = c.in-None.ensures in
    let none = none_left c.args.jobs.items c.pop.new.self.items _ popped.cases.0 popped.items popped.rest in
    IfOk-weaker c.true_words.result _ _ (λ words e. none_words c.args.range c.args.turns _ c.args.jobs.items words none e) c.true_words.ensures

pub returns-in_ok-others-in-Some-clause-count : goal.returns-in_ok-others-in-Some-clause-count
returns-in_ok-others-in-Some-clause-count t c =
    let others = c.in_ok-others-in-Some in
    let own = c.in_ok-own-in-Some in
    let a = c.as_slice.ensures in
    let b = c.as_slice-in-Some.ensures in
    IfOk-weaker c.both_words.result _ _
    (λ words e. more_count c.args.range c.args.turns c.args.jobs.items c.pop.new.self.items c.in-Some.job others.others own.own c.in-Some.ensures.items c.requires.ranges others.ensures.count own.ensures.count words
    (e ∙ (ap (λ xs. both_words xs c.as_slice-in-Some.result.now) a ∙ ap (both_words others.others) b)))
    c.both_words.ensures

pub returns-in_ok-others-in-Some-clause-right : goal.returns-in_ok-others-in-Some-clause-right
returns-in_ok-others-in-Some-clause-right t c =
    let others = c.in_ok-others-in-Some in
    let own = c.in_ok-own-in-Some in
    let a = c.as_slice.ensures in
    let b = c.as_slice-in-Some.ensures in
    IfOk-weaker c.both_words.result _ _
    (λ words e. more_words c.args.range c.args.turns c.args.jobs.items c.pop.new.self.items c.in-Some.job others.others own.own c.in-Some.ensures.items c.requires.ranges others.ensures.count own.ensures.count words
    others.ensures.right own.ensures.right (e ∙ (ap (λ xs. both_words xs c.as_slice-in-Some.result.now) a ∙ ap (both_words others.others) b)))
    c.both_words.ensures
