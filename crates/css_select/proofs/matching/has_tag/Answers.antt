use Rattle.css_select.proofs.Passing.{tag_is}
use Rattle.css_select.proofs.matching.has_tag.Goals as goal

pub returns-in-Some : goal.returns-in-Some
returns-in-Some c = tag_is c.args.element.now c.args.tag.now c.in-Some.tag c.as_str.result.now c.as_str-in-Some.result.now c.same_name.result c.in-Some.is c.as_str.ensures c.as_str-in-Some.ensures c.same_name.ensures
