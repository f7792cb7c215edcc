use Rattle.std.proofs.Common.{rules}
use Rattle.std.specs.Option.{option_copied}
use Rattle.viz_base.specs.declared.settings.Prop.TheVariants.{BorderTopWidth}
use Rattle.css_semantics.specs.ComputedValues.{width_of}
use Rattle.page_style.proofs.Beside.{beside}
use Rattle.page_style.proofs.lengths.border_top.Goals as goal

pub returns : goal.returns
returns c = beside BorderTopWidth (width_of c.args.node) (λ t. t.border.top) (option_copied c.args.parent) c.args.winners.now c.border_width.result c.map-parents.result c.border_width.ensures (search rules)
