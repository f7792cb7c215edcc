use Rattle.std.proofs.Common.{ap, sym, ◌∙◌, arith, subst, IsTrue}
use Rattle.viz_base.specs.declared.worlds.World.{World}
use Rattle.viz_calc.specs.Plain.{plain_state, plain_reading}
use Rattle.logic_semantics.specs.Scenes.{scene_of}
use Rattle.logic_semantics.specs.Truth.{truth_in}
use Rattle.vis_truth.specs.Names.{places_of}
use Rattle.vis_truth.specs.Scenes.{IsNarrow}
use Rattle.viz_calc.proofs.PlainLemmas.{open_reading, world-stays}
use Rattle.vis_truth.proofs.PlainScenes.{never-halts, plain-tame, rendering-same}
use Rattle.vis_truth.proofs.blames.holds.Goals as goal

pub unreachable-requires : goal.unreachable-requires
unreachable-requires c =
    let narrow : IsNarrow c.args.world = record { width = omega arith; size = omega arith; height = omega arith } in
    never-halts c.new-calc.result.world c.truth_in.new.calc.world _ c.in-Err.field-0
    (plain-tame c.new-calc.result.world c.args.r.now c.args.f.now (subst IsNarrow (sym c.new-calc.ensures) narrow) c.requires.bounded c.requires.small)
    c.in-Err.ensures.cause

pub returns : goal.returns
returns c =
    let same = world-stays c.new-calc.result.world c.truth_in.new.calc.world c.in-Ok.ensures.grows ∙ c.new-calc.ensures in
    let now = subst (λ (w : World). IsTrue ((plain_state w).is_open (plain_reading c.args.world))) (sym same) (open_reading c.args.world) in
    c.in-Ok.ensures.value (plain_reading c.args.world) now
    ∙ ap (λ r. truth_in (scene_of r c.args.world) c.args.f.now (places_of c.args.names.now)) (rendering-same (plain_reading c.args.world) c.args.r.now)
