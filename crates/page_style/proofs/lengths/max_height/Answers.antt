use Rattle.std.proofs.Common.{rules}
use Rattle.std.specs.Option.{option_copied}
use Rattle.viz_base.specs.declared.settings.Prop.TheVariants.{MaxHeight}
use Rattle.css_semantics.specs.ComputedValues.{maximum_of}
use Rattle.page_style.proofs.Beside.{beside}
use Rattle.page_style.proofs.lengths.max_height.Goals as goal

pub returns : goal.returns
returns c = beside MaxHeight (maximum_of c.args.node) (λ t. t.max_height) (option_copied c.args.parent) c.args.winners.now c.maximum.result c.map-parents.result c.maximum.ensures (search rules)
