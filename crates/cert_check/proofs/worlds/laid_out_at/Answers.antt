use Rattle.std.proofs.Common.{◌≡◌, ℤ, ap, ◌∙◌}
use Rattle.viz_base.specs.declared.renderings.Rendering.{Rendering}
use Rattle.viz_calc.specs.Plain.{plain_state, plain_reading}
use Rattle.logic_semantics.specs.Scenes.{scene_of}
use Rattle.logic_semantics.specs.Truth.{truth}
use Rattle.vis_truth.specs.Scenes.{IsNarrow, IsTame, scene_at}
use Rattle.viz_calc.proofs.PlainLemmas.{still_open}
use Rattle.vis_truth.proofs.PlainScenes.{never-halts, plain-tame, rendering-same}
use Rattle.cert_check.proofs.Bounded.{narrow_world, rendering_bounded}
use Rattle.cert_check.proofs.worlds.laid_out_at.Goals as goal

pub unreachable-requires : goal.unreachable-requires
unreachable-requires c =
    let job = c.args.job.now in
    let narrow = narrow_world job c.args.world c.requires.in_range in
    let bounded = rendering_bounded c.in_ok-rendering.rendering c.in_ok-rendering.ensures.low in
    let same = c.new-calc.ensures in
    let wide : IsNarrow c.new-calc.result.world = rw same narrow in
    never-halts c.new-calc.result.world c.truth.new.calc.world (IsTame (plain_state c.new-calc.result.world).is_open (λ n e. n) c.in_ok-rendering.rendering c.args.f.now)
    c.in-Err.field-0 (plain-tame c.new-calc.result.world c.in_ok-rendering.rendering c.args.f.now wide bounded c.requires.small) (c.in-Err.ensures).cause

pub returns : goal.returns
returns c =
    let job = c.args.job.now in
    let e = plain_reading c.new-calc.result.world in
    let is_open = still_open c.new-calc.result.world c.truth.new.calc.world (c.in-Ok.ensures).grows in
    let value : c.in-Ok.yes ≡ truth (scene_at (λ n e. n) c.in_ok-rendering.rendering e) c.args.f.now = (c.in-Ok.ensures).value e is_open in
    let as_is : scene_at (λ n e. n) c.in_ok-rendering.rendering e ≡ scene_of c.in_ok-rendering.rendering c.new-calc.result.world
    = ap (λ (r : Rendering ℤ). scene_of r c.new-calc.result.world) (rendering-same e c.in_ok-rendering.rendering) in
    value ∙ ap (λ s. truth s c.args.f.now) as_is
    ∙ ap (λ w. truth (scene_of c.in_ok-rendering.rendering w) c.args.f.now) c.new-calc.ensures
    ∙ ap (λ r. truth (scene_of r c.args.world) c.args.f.now) c.in_ok-rendering.ensures.value
