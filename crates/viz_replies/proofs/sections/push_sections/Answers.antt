use Rattle.std.proofs.Common.{refl}
use Rattle.viz_replies.proofs.Joins.{next_number, nothing_yet, with_a_section}
use Rattle.viz_replies.proofs.sections.push_sections.Goals as goal

pub loop-before-preserved : goal.loop-before-preserved
loop-before-preserved c =
    let next = next_number c.args.seed c.loop-before.before c.loop-before.number c.number_after-number.result c.loop-before.invariant.0 c.number_after-number.ensures in (
      next,
      with_a_section c.args.seed c.loop-before.before c.number_after-number.result c.args.out.now.items c.loop-before.out.items _ _ next
          c.loop-before.invariant.1 c.in_ok-push_comma.ensures c.in_ok-push_section.ensures,
    )

pub loop-before-init : goal.loop-before-init
loop-before-init c = (refl, nothing_yet c.args.seed c.args.out.now.items)
