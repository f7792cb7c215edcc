use Rattle.std.proofs.Common.{◌≡◌, ◌≢◌, Err, rules}
use Rattle.layout_semantics.specs.Refusals.{BoxRefusal}
use Rattle.page_boxes.specs.Trees.{page_tree}
use Rattle.page_build.specs.declared.faults.JobRefusal.TheVariants.{Mem}
use Rattle.page_build.specs.Refusals.{of_boxes, of_box_fault}
use Rattle.page_build.proofs.Stages.{boxes_refused}
use Rattle.page_build.proofs.trees.boxes_of.Goals as goal

pub returns-in_err-build_boxes : goal.returns-in_err-build_boxes
returns-in_err-build_boxes c =
    let fault = c.in_err-build_boxes.field-0.0 in
    let k : (of_box_fault fault ≢ Mem → (why : BoxRefusal) × (page_tree c.args.page.now.nodes c.args.styles.now c.args.fonts.now ≡ Err why) × (of_box_fault fault ≡ of_boxes why)) =
    boxes_refused (page_tree c.args.page.now.nodes c.args.styles.now c.args.fonts.now) fault c.in_err-build_boxes.ensures in
    search rules
