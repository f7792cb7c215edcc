use Rattle.std.proofs.Common.{◌≡◌, drop}
use Rattle.std.specs.List.{list_any}
use Rattle.css_select.specs.steps.Attributes.{attribute_passes}
use Rattle.css_select.proofs.attributes.some_attribute.Given as goal

abbrev pub invariant-loop-attribute : goal.invariant-loop-attribute
invariant-loop-attribute l = list_any (attribute_passes l.test) (drop l.attribute-index l.element.attrs) ≡ list_any (attribute_passes l.test) l.element.attrs
