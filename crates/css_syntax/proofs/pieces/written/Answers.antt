use Rattle.std.proofs.Common.{◌≡◌, ◌++◌, ◌∙◌}
use Rattle.std.specs.Option.{option_to_list}
use Rattle.css_semantics.specs.MediaLists.{after_piece, piece_item}
use Rattle.css_semantics.proofs.Gathering.{turn_rest, turn_smaller, turn_gathered, gathered_more, pushed_some, pushed_none}
use Rattle.css_semantics.proofs.Tails.{piece_tails}
use Rattle.css_syntax.proofs.pieces.written.Goals as goal
use Rattle.css_syntax.proofs.pieces.written.Goals.{in-Some+in_ok-push, in_default}

pub overflow_sub-at : goal.overflow_sub-at
overflow_sub-at c = turn_rest after_piece piece_tails _ c.loop-at.at _ (c.in_ok-piece.ensures).1

pub loop-at-smaller : goal.loop-at-smaller
loop-at-smaller c = turn_smaller after_piece piece_tails _ c.loop-at.at _ (c.in_ok-piece.ensures).1 c.loop-at-test.true

pub loop-at-preserved : goal.loop-at-preserved
loop-at-preserved c =
    let all = c.args.tokens.now in
    let more : c.match-piece.found ≡ c.loop-at.found ++ option_to_list c.in_ok-piece.piece = elim c.match-piece.branch [
      | in-Some+in_ok-push w ↦ pushed_some _ _ _ _ w.in-Some.is (w.found-is ∙ (w.in_ok-push.ensures).ok)
      | in_default w ↦ pushed_none _ _ _ w.in_default.is w.found-is
    ] in
    gathered_more _ _ _ _ _ _ c.loop-at.invariant (turn_gathered after_piece piece_tails all c.loop-at.at _ (c.in_ok-piece.ensures).1 piece_item _ (c.in_ok-piece.ensures).0) more
