use Rattle.std.proofs.Common.{sym, ◌∙◌, ap}
use Rattle.layout_semantics.specs.LineFilling.{item_width}
use Rattle.lay_line.specs.steps.Held.{Held, nothing_held}
use Rattle.lay_line.proofs.Widths.{width-same}
use Rattle.lay_line.proofs.Measures.{held-same}
use Rattle.lay_line.proofs.laws.measured_items_hold_their_width.Goals as goal

pub returns : goal.returns
returns args c items = ap (λ (h : Held). h.width) (held-same (item_width c) nothing_held items) ∙ sym (width-same c items)
