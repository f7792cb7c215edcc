use Rattle.std.proofs.Common.{ap, sym, ◌∙◌, length, ◌-◌, drop}
use Rattle.css_semantics.specs.steps.Sheets.{after_statement, read_on, statement_item, statements}
use Rattle.css_semantics.proofs.Gathering.{turn_rest, turn_smaller, turn_gathered}
use Rattle.css_semantics.proofs.Tails.{statement_tails}
use Rattle.css_semantics.proofs.Reading.{read_goes, read_none, read_some}
use Rattle.css_syntax.proofs.sheets.read_rules.Goals as goal
use Rattle.css_syntax.proofs.sheets.read_rules.Goals.{in-Some+in_ok-take, in_default}

pub overflow_sub-at : goal.overflow_sub-at
overflow_sub-at c = turn_rest after_statement statement_tails _ c.loop-at.at _ (c.in_ok-statement.ensures).1

pub loop-at-smaller : goal.loop-at-smaller
loop-at-smaller c = turn_smaller after_statement statement_tails _ c.loop-at.at _ (c.in_ok-statement.ensures).1 c.loop-at-test.true

pub loop-at-preserved : goal.loop-at-preserved
loop-at-preserved c =
    let all = c.args.tokens.now in
    let early = c.loop-at.reading.early in
    let rules = c.loop-at.reading.rules.items in
    let cut = turn_gathered after_statement statement_tails all c.loop-at.at _ (c.in_ok-statement.ensures).1 statement_item _ (c.in_ok-statement.ensures).0 in
    let ss = statements (drop (length all - length c.in_ok-statement.rest.now) all) in
    elim c.match-statement.branch [
      | in-Some+in_ok-take w ↦ ap (λ x. read_on x.early x.rules.items ss) w.reading-is ∙ sym (read_goes early rules w.in-Some.statement ss _ _ w.in_ok-take.ensures.ok)
          ∙ sym (read_some early rules _ w.in-Some.statement ss w.in-Some.is) ∙ ap (read_on early rules) (sym cut) ∙ c.loop-at.invariant
      | in_default w ↦ ap (λ x. read_on x.early x.rules.items ss) w.reading-is ∙ sym (read_none early rules _ ss w.in_default.is) ∙ ap (read_on early rules) (sym cut) ∙ c.loop-at.invariant
    ]
