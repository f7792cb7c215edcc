use Rattle.std.proofs.Common.{false, ◌∙◌, ap}
use Rattle.lay_line.specs.steps.Staying.{spanned, no_items, stand}
use Rattle.lay_line.proofs.Lasts.{solid-same}
use Rattle.lay_line.proofs.Stands.{stand-same}
use Rattle.lay_line.proofs.Measures.{row-same}
use Rattle.lay_line.proofs.laws.measured_items_stand_in_their_places.Goals as goal

pub returns : goal.returns
returns args c x items = row-same c x (spanned no_items items).solid items ∙ (ap (λ k. stand c x false k items) (solid-same items) ∙ stand-same c x items)
