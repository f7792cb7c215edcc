use Rattle.std.proofs.Common.{◌*◌, ◌∙◌, ℤ, pos, ◌*ℤ◌, ap, arith, rules, w64, to_z-of_z}
use Rattle.std.specs.Prelude.{FitsSigned}
use Rattle.std.specs.Int.{w128}
use Rattle.std.proofs.lemmas.Int.{ints}
use Rattle.page_media.proofs.Bounds.{em-met-least, em-met-most}
use Rattle.page_media.proofs.meeting.is_met_in_em.Goals as goal

pub returns-then-most : goal.returns-then-most
returns-then-most c =
    let fits : FitsSigned w128 c.sizes-bound.result = search rules in
    let bound : FitsSigned w64 c.args.k = search rules in
    em-met-most _ _ c.args.k c.args.w c.args.s c.args.most c.if-most.true (omega (arith, ints))
    (to_z-of_z fits ∙ (c.sizes-bound.ensures ∙ ap (λ (z : ℤ). z *ℤ pos (64 * c.args.s)) (to_z-of_z bound)))

pub returns-else-most : goal.returns-else-most
returns-else-most c =
    let fits : FitsSigned w128 c.sizes-bound.result = search rules in
    let bound : FitsSigned w64 c.args.k = search rules in
    em-met-least _ _ c.args.k c.args.w c.args.s c.args.most c.if-most.false (omega (arith, ints))
    (to_z-of_z fits ∙ (c.sizes-bound.ensures ∙ ap (λ (z : ℤ). z *ℤ pos (64 * c.args.s)) (to_z-of_z bound)))
