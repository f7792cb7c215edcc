use Rattle.std.proofs.Common.{◌∙◌, ap, rules, pos, unsigned_abs, ◌*ℤ◌, FitsSigned, to_z-of_z}
use Rattle.std.specs.Int.{w64, w128}
use Rattle.viz_base.specs.Numbers.{floor_of}
use Rattle.page_boxes.specs.steps.Extents.{capped}
use Rattle.page_boxes.proofs.fonts.part_of.Goals as goal

pub returns-clause-value : goal.returns-clause-value
returns-clause-value c =
    let fits : FitsSigned w128 c.floor_div.result = search rules in
    let fits_in : FitsSigned w128 c.product.result = search rules in
    let fits_num : FitsSigned w64 c.args.num = search rules in
    c.capped.ensures.value ∙ ap capped (c.unsigned_abs.ensures.value ∙ ap unsigned_abs (to_z-of_z fits ∙ (c.floor_div.ensures.value
    ∙ ap (λ z. floor_of z c.args.den) (to_z-of_z fits_in ∙ (c.product.ensures ∙ ap (λ z. z *ℤ pos c.args.length) (to_z-of_z fits_num))))))
