use Rattle.page_boxes.proofs.Bounds.{bounded_margins, bounded_paddings}
use Rattle.page_boxes.proofs.reaches.growth.Goals as goal

pub sides_percentage-requires : goal.sides_percentage-requires
sides_percentage-requires c = bounded_margins c.args.style.now

pub sides_percentage-requires-2 : goal.sides_percentage-requires-2
sides_percentage-requires-2 c = bounded_paddings c.args.style.now
