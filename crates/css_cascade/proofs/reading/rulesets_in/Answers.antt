use Rattle.std.proofs.Common.{rules, sym, subst}
use Rattle.std.specs.Option.{option_to_list}
use Rattle.css_semantics.specs.CascadeReading.{Each, IsRuleset}
use Rattle.css_cascade.specs.Faults.{BySelector, refusal_of}
use Rattle.viz_base.specs.Answers.{FailsWith}
use Rattle.css_cascade.proofs.Reaching.{Reached, reached_more, reached_end}
use Rattle.css_cascade.proofs.Rulesets.{fails_refusal}
use Rattle.css_cascade.proofs.reading.rulesets_in.Goals as goal

pub returns-in_err-ruleset_at : goal.returns-in_err-ruleset_at
returns-in_err-ruleset_at c =
    let k : FailsWith (refusal_of c.in_err-ruleset_at.field-0.0) (BySelector (Each (IsRuleset c.args.which c.args.sheet.origin c.args.sheet.text.now) c.args.rules.now)) =
    fails_refusal _ _ _ _ c.rule-item.result c.in_err-ruleset_at.field-0.0 c.loop-rule-test.true c.rule-item.is c.loop-rule.invariant c.in_err-ruleset_at.ensures in
    search rules

pub loop-rule-preserved : goal.loop-rule-preserved
loop-rule-preserved c = subst (Reached (IsRuleset c.args.which c.args.sheet.origin c.args.sheet.text.now) c.args.rules.now _) (sym c.in_ok-push_found.ensures)
    (reached_more c.rule-item.result (option_to_list c.in_ok-ruleset_at.field-0) c.loop-rule-test.true c.rule-item.is c.loop-rule.invariant c.in_ok-ruleset_at.ensures)

pub returns : goal.returns
returns c = reached_end c.loop-rule-test.false c.loop-rule.invariant
