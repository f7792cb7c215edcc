use Rattle.std.proofs.Common.{◌≡◌, ◌++◌, ◌∙◌}
use Rattle.std.specs.Option.{option_to_list}
use Rattle.css_semantics.specs.steps.Sheets.{after_declaration, declaration_item}
use Rattle.css_semantics.proofs.Gathering.{turn_rest, turn_smaller, turn_gathered, gathered_more, pushed_some, pushed_none}
use Rattle.css_semantics.proofs.Tails.{declaration_tails}
use Rattle.css_syntax.proofs.declarations.declarations.Goals as goal
use Rattle.css_syntax.proofs.declarations.declarations.Goals.{in-Some+in_ok-push, in_default}

pub overflow_sub-at : goal.overflow_sub-at
overflow_sub-at c = turn_rest after_declaration declaration_tails _ c.loop-at.at _ (c.in_ok-decl.ensures).1

pub loop-at-smaller : goal.loop-at-smaller
loop-at-smaller c = turn_smaller after_declaration declaration_tails _ c.loop-at.at _ (c.in_ok-decl.ensures).1 c.loop-at-test.true

pub loop-at-preserved : goal.loop-at-preserved
loop-at-preserved c =
    let all = c.args.tokens.now in
    let more : c.match-decl.decls ≡ c.loop-at.decls ++ option_to_list c.in_ok-decl.decl = elim c.match-decl.branch [
      | in-Some+in_ok-push w ↦ pushed_some _ _ _ _ w.in-Some.is (w.decls-is ∙ (w.in_ok-push.ensures).ok)
      | in_default w ↦ pushed_none _ _ _ w.in_default.is w.decls-is
    ] in
    gathered_more _ _ _ _ _ _ c.loop-at.invariant (turn_gathered after_declaration declaration_tails all c.loop-at.at _ (c.in_ok-decl.ensures).1 declaration_item _ (c.in_ok-decl.ensures).0) more
