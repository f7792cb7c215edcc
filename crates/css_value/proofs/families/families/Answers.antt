use Rattle.std.proofs.Common.{Some, None, ◌∙◌}
use Rattle.css_semantics.specs.Values.{families}
use Rattle.css_value.proofs.FamilyLemmas.{names_more, with_front_nil}
use Rattle.css_value.proofs.families.families.Goals as goal

pub loop-part-preserved : goal.loop-part-preserved
loop-part-preserved c = names_more c.args.parts.now c.loop-part.part-index c.part-item.result c.loop-part.names c.next.new.names c.loop-part.before (Some c.in-Some.after) c.in_ok-after.field-0 _
    c.loop-part-test.true c.part-item.is c.in_ok-after.ensures c.in-Some.is c.loop-part.invariant

pub returns-in-None : goal.returns-in-None
returns-in-None c = names_more c.args.parts.now c.loop-part.part-index c.part-item.result c.loop-part.names c.next.new.names c.loop-part.before None c.in_ok-after.field-0 _
    c.loop-part-test.true c.part-item.is c.in_ok-after.ensures c.in-None.is c.loop-part.invariant ∙ with_front_nil (families c.args.parts.now)
