use Rattle.std.proofs.Common.{◌≡◌, ◌++◌, ◌∙◌}
use Rattle.std.specs.Option.{option_to_list}
use Rattle.css_semantics.specs.ValuesParts.{after_part, part_item}
use Rattle.css_semantics.proofs.Gathering.{turn_rest, turn_smaller, turn_gathered, gathered_more, pushed_some, pushed_none}
use Rattle.css_value.proofs.PartLemmas.{part_tails}
use Rattle.css_value.proofs.splitting.split.Goals as goal
use Rattle.css_value.proofs.splitting.split.Goals.{in-Some+in_ok-push, in_default}

pub overflow_sub-at : goal.overflow_sub-at
overflow_sub-at c = turn_rest after_part part_tails _ c.loop-at.at _ (c.in_ok-part.ensures).1

pub loop-at-smaller : goal.loop-at-smaller
loop-at-smaller c = turn_smaller after_part part_tails _ c.loop-at.at _ (c.in_ok-part.ensures).1 c.loop-at-test.true

pub loop-at-preserved : goal.loop-at-preserved
loop-at-preserved c =
    let all = c.args.tokens.now in
    let more : c.match-part.parts ≡ c.loop-at.parts ++ option_to_list c.in_ok-part.part = elim c.match-part.branch [
      | in-Some+in_ok-push w ↦ pushed_some _ _ _ _ w.in-Some.is (w.parts-is ∙ (w.in_ok-push.ensures).ok)
      | in_default w ↦ pushed_none _ _ _ w.in_default.is w.parts-is
    ] in
    gathered_more _ _ _ _ _ _ c.loop-at.invariant (turn_gathered after_part part_tails all c.loop-at.at _ (c.in_ok-part.ensures).1 part_item _ (c.in_ok-part.ensures).0) more
