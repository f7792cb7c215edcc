use Rattle.std.proofs.Common.{rules}
use Rattle.std.specs.Option.{option_copied}
use Rattle.viz_base.specs.declared.settings.Prop.TheVariants.{PaddingRight}
use Rattle.css_semantics.specs.ComputedValues.{length_of}
use Rattle.page_style.proofs.Beside.{beside}
use Rattle.page_style.proofs.lengths.padding_right.Goals as goal

pub returns : goal.returns
returns c = beside PaddingRight (length_of c.args.node) (λ t. t.padding.right) (option_copied c.args.parent) c.args.winners.now c.length.result c.map-parents.result c.length.ensures (search rules)
