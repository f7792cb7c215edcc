use Rattle.css_select.proofs.Passing.{passes_default, passes_link, passes_other}
use Rattle.css_select.proofs.matching.passes.Goals as goal

pub returns-in_default : goal.returns-in_default
returns-in_default c =
    passes_default c.args.page.now.nodes c.args.node c.args.element.now c.args.test.now c.some_attribute-in_default.result c.in_default.not-FirstChild c.in_default.not-Link c.some_attribute-in_default.ensures

pub returns-then-same_name : goal.returns-then-same_name
returns-then-same_name c =
    passes_link c.args.page.now.nodes c.args.node c.args.element.now c.args.test.now c.same_name.result c.some_attribute.result c.as_str.result.now c.in-Link.is c.as_str.ensures c.same_name.ensures c.if-same_name.true c.some_attribute.ensures

pub returns-else-same_name : goal.returns-else-same_name
returns-else-same_name c =
    passes_other c.args.page.now.nodes c.args.node c.args.element.now c.args.test.now c.same_name.result c.as_str.result.now c.in-Link.is c.as_str.ensures c.same_name.ensures c.if-same_name.false
