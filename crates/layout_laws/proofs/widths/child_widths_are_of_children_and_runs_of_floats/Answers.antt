use Rattle.layout_laws.proofs.ChildWidths.{child-widths}
use Rattle.layout_laws.proofs.widths.child_widths_are_of_children_and_runs_of_floats.Goals as goal

pub returns : goal.returns
returns c children width = child-widths children width
