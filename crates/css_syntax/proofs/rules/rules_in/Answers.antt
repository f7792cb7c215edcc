use Rattle.std.proofs.Common.{◌≡◌, ◌++◌, ◌∙◌}
use Rattle.std.specs.Option.{option_to_list}
use Rattle.css_semantics.specs.steps.Sheets.{after_rule, rule_item}
use Rattle.css_semantics.proofs.Gathering.{turn_rest, turn_smaller, turn_gathered, gathered_more, pushed_some, pushed_none}
use Rattle.css_semantics.proofs.Tails.{rule_tails}
use Rattle.css_syntax.proofs.rules.rules_in.Goals as goal
use Rattle.css_syntax.proofs.rules.rules_in.Goals.{in-Some+in_ok-push, in_default}

pub overflow_sub-at : goal.overflow_sub-at
overflow_sub-at c = turn_rest after_rule rule_tails _ c.loop-at.at _ (c.in_ok-rule.ensures).1

pub loop-at-smaller : goal.loop-at-smaller
loop-at-smaller c = turn_smaller after_rule rule_tails _ c.loop-at.at _ (c.in_ok-rule.ensures).1 c.loop-at-test.true

pub loop-at-preserved : goal.loop-at-preserved
loop-at-preserved c =
    let all = c.args.tokens.now in
    let more : c.match-rule.rules ≡ c.loop-at.rules ++ option_to_list c.in_ok-rule.rule = elim c.match-rule.branch [
      | in-Some+in_ok-push w ↦ pushed_some _ _ _ _ w.in-Some.is (w.rules-is ∙ (w.in_ok-push.ensures).ok)
      | in_default w ↦ pushed_none _ _ _ w.in_default.is w.rules-is
    ] in
    gathered_more _ _ _ _ _ _ c.loop-at.invariant (turn_gathered after_rule rule_tails all c.loop-at.at _ (c.in_ok-rule.ensures).1 (rule_item c.args.media.now) _ (c.in_ok-rule.ensures).0) more
