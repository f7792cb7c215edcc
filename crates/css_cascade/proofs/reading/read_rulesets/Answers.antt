use Rattle.std.proofs.Common.{◌<◌, ◌≤◌, ◌+◌, length, Ok, rules, sym, ◌∙◌, ap, subst, arith}
use Rattle.css_semantics.specs.CascadeReading.{AreRulesets}
use Rattle.css_cascade.specs.Faults.{BySelector, refusal_of}
use Rattle.viz_base.specs.Answers.{FailsWith}
use Rattle.css_cascade.proofs.Reaching.{ReachedSheets, sheets_start, sheets_more, sheets_end}
use Rattle.css_cascade.proofs.Rulesets.{each_at, fails_sheets}
use Rattle.css_cascade.proofs.reading.read_rulesets.Goals as goal

pub loop-at-init : goal.loop-at-init
loop-at-init c = subst (ReachedSheets c.args.which c.args.texts.now c.args.sheets.now 0) (sym c.new-rulesets.ensures.items) (sheets_start _ _ _)

pub returns-in_err-rulesets_in : goal.returns-in_err-rulesets_in
returns-in_err-rulesets_in c =
    let m : c.loop-at.at < length c.args.sheets.now = omega arith in
    let l : c.loop-at.at < length c.args.texts.now = omega arith in
    let k : FailsWith (refusal_of c.in_err-rulesets_in.field-0.0) (BySelector (AreRulesets c.args.which c.args.texts.now c.args.sheets.now)) =
    fails_sheets _ _ _ c.loop-at.at c.loop-at.rulesets.items c.index-texts-at.result c.index-sheets-at.result c.in_err-rulesets_in.field-0.0 c.in_ok-origin.origin c.as_str.result.now c.as_slice.result.now
    l c.index-texts-at.is m c.index-sheets-at.is c.loop-at.invariant c.in_ok-origin.ensures c.as_str.ensures (c.as_slice.ensures ∙ ap (λ s. s.rules) (sym c.index-sheets-at.is)) c.in_err-rulesets_in.ensures in
    search rules

pub loop-at-preserved : goal.loop-at-preserved
loop-at-preserved c =
    let m : c.loop-at.at < length c.args.sheets.now = omega arith in
    let l : c.loop-at.at < length c.args.texts.now = omega arith in
    subst (ReachedSheets c.args.which c.args.texts.now c.args.sheets.now (c.loop-at.at + 1)) (sym c.in_ok-append.ensures.items)
    (sheets_more _ _ _ c.loop-at.at c.loop-at.rulesets.items c.index-texts-at.result c.index-sheets-at.result c.in_ok-rulesets_in.field-0.items
    l c.index-texts-at.is m c.index-sheets-at.is c.loop-at.invariant
    (each_at (Ok c.in_ok-rulesets_in.field-0.items) c.in_ok-origin.ensures c.as_str.ensures (c.as_slice.ensures ∙ ap (λ s. s.rules) (sym c.index-sheets-at.is)) c.in_ok-rulesets_in.ensures))

pub returns : goal.returns
returns c = let past : length c.args.sheets.now ≤ c.loop-at.at = omega arith in sheets_end _ _ _ c.loop-at.at c.loop-at.rulesets.items past c.loop-at.invariant
