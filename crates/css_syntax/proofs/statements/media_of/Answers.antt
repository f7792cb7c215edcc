use Rattle.css_syntax.proofs.MediaSteps.{query_is, media_is}
use Rattle.css_syntax.proofs.statements.media_of.Goals as goal

pub returns-then-is_beyond : goal.returns-then-is_beyond
returns-then-is_beyond c =
    query_is c.args.at c.in_ok-place.field-0 c.args.prelude.now c.args.block.now c.in_ok-list.list _ c.in_ok-list.ensures c.is_beyond.ensures c.if-is_beyond.true c.in_ok-place.ensures

pub returns : goal.returns
returns c =
    media_is c.args.at c.args.prelude.now c.args.block.now c.in_ok-list.list c.in_ok-rules_in.field-0 _ c.in_ok-list.ensures c.is_beyond.ensures c.if-is_beyond.false c.in_ok-rules_in.ensures
