use Rattle.std.proofs.Common.{rules}
use Rattle.std.specs.Option.{option_copied}
use Rattle.viz_base.specs.declared.settings.Prop.TheVariants.{VerticalAlign}
use Rattle.css_semantics.specs.ComputedValues.{valign_of}
use Rattle.page_style.proofs.Beside.{beside}
use Rattle.page_style.proofs.properties.valign.Goals as goal

pub returns : goal.returns
returns c = beside VerticalAlign (valign_of c.args.node) (λ t. t.valign) (option_copied c.args.parent) c.args.winners.now c.raised.result c.map-parents.result c.raised.ensures (search rules)
