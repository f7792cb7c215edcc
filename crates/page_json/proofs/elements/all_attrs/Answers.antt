use Rattle.page_json.specs.Elements.{attr_of}
use Rattle.page_json.proofs.Fronts.{members_more, members_none}
use Rattle.page_json.proofs.elements.all_attrs.Goals as goal

pub loop-name-preserved : goal.loop-name-preserved
loop-name-preserved c = members_more attr_of c.loop-name.name-iterator c.next.new.self c.in-Some.name.now c.in-Some.value.now c.as_str.result.now c.in_ok-attr.field-0 c.in-Some-2.attr c.loop-name.attrs c.push.new.self _
    c.in-Some.ensures.steps c.as_str.ensures.value c.in_ok-attr.ensures c.in-Some-2.is c.in_ok-push-in-Some-2.ensures.ok c.loop-name.invariant

pub returns-in-None-2 : goal.returns-in-None-2
returns-in-None-2 c = members_none attr_of c.loop-name.name-iterator c.next.new.self c.in-Some.name.now c.in-Some.value.now c.as_str.result.now c.in_ok-attr.field-0 c.loop-name.attrs _
    c.in-Some.ensures.steps c.as_str.ensures.value c.in_ok-attr.ensures c.in-None-2.is c.loop-name.invariant
