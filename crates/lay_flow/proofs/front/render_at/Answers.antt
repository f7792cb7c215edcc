use Rattle.std.proofs.Common.{◌≡◌, ◌^◌, ◌∙◌, IsTrue, ℤ, List, ap, subst, sym}
use Rattle.std.specs.List.{AllByRecursion}
use Rattle.viz_base.specs.declared.renderings.Placed.{Placed}
use Rattle.viz_base.specs.declared.renderings.Rendering.{Rendering}
use Rattle.viz_base.specs.declared.worlds.World.{World}
use Rattle.viz_calc.specs.Plain.{plain_state, plain_reading}
use Rattle.viz_calc.proofs.PlainLemmas.{open_reading, world-stays}
use Rattle.lay_frame.proofs.Slots.{plain_boxes}
use Rattle.page_limits.specs.Bounds.{IsPlacedIn, all_around}
use Rattle.page_limits.proofs.PageSmall.{coordinates-small}
use Rattle.lay_flow.proofs.front.render_at.Goals as goal

pub returns-in-Ok-clause-value : goal.returns-in-Ok-clause-value
returns-in-Ok-clause-value c =
    let w = c.args.world in
    let start : c.new-calc.result.world ≡ w = c.new-calc.ensures in
    let same = world-stays c.new-calc.result.world c.render.new.calc.world c.render.ensures.grows ∙ start in
    let open_now = subst (λ (v : World). IsTrue ((plain_state v).is_open (plain_reading w))) (sym same) (open_reading w) in
    let value = c.in-Ok.ensures.value (plain_reading w) open_now in
    sym (ap (λ (l : List (Placed ℤ)). let r : Rendering ℤ = record { boxes = l } in r) (plain_boxes c.in-Ok.rendering.boxes)) ∙ value

pub returns-in-Ok-clause-low : goal.returns-in-Ok-clause-low
returns-in-Ok-clause-low c =
    subst (λ (r : Rendering ℤ). AllByRecursion (IsPlacedIn (all_around (2 ^ 70))) r.boxes) (sym (returns-in-Ok-clause-value c))
    (coordinates-small c.args.tree.now c.args.world c.requires.small c.requires.few_characters c.requires.narrow c.requires.sized c.requires.low)
