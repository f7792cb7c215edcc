use Rattle.std.proofs.Common.{◌∙◌, ap, sym, length, ◌-◌, drop}
use Rattle.css_semantics.specs.steps.MediaLists.{after_comma, comma_item, later_entries}
use Rattle.css_semantics.proofs.Gathering.{turn_rest, turn_smaller, turn_gathered}
use Rattle.css_semantics.proofs.Tails.{comma_tails}
use Rattle.css_syntax.specs.Lists.{joined}
use Rattle.css_syntax.proofs.media.later_entries.Goals as goal

pub overflow_sub-at : goal.overflow_sub-at
overflow_sub-at c = turn_rest after_comma comma_tails _ c.loop-at.at _ (c.in_ok-entry.ensures).1

pub loop-at-smaller : goal.loop-at-smaller
loop-at-smaller c = turn_smaller after_comma comma_tails _ c.loop-at.at _ (c.in_ok-entry.ensures).1 c.loop-at-test.true

pub loop-at-preserved : goal.loop-at-preserved
loop-at-preserved c =
    let all = c.args.tokens.now in
    let left = later_entries (drop (length all - length c.in_ok-entry.rest.now) all) in
    let cut = turn_gathered after_comma comma_tails all c.loop-at.at _ (c.in_ok-entry.ensures).1 comma_item _ (c.in_ok-entry.ensures).0 in
    ap (λ x. joined x left) c.in_ok-put.ensures ∙ ap (joined c.loop-at.list) (sym cut) ∙ c.loop-at.invariant
