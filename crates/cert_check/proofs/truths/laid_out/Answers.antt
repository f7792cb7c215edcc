use Rattle.std.proofs.Common.{◌∙◌, ℤ, ap}
use Rattle.std.proofs.lemmas.Result.{IfOk-weaker}
use Rattle.viz_base.specs.declared.renderings.Rendering.{Rendering}
use Rattle.logic_semantics.specs.Scenes.{scene_of}
use Rattle.logic_semantics.specs.Truth.{truth}
use Rattle.sym_calc.proofs.States.{grows_then}
use Rattle.cert_check.proofs.truths.laid_out.Goals as goal

pub returns-in-Ok-clause-grows : goal.returns-in-Ok-clause-grows
returns-in-Ok-clause-grows g c = grows_then _ _ _ c.render.ensures.grows c.truth.ensures.grows

pub returns-in-Ok-clause-value : goal.returns-in-Ok-clause-value
returns-in-Ok-clause-value g c =
    IfOk-weaker c.truth.result _ _
    (λ b h e o. h e o ∙ ap (λ (r : Rendering ℤ). truth (scene_of r e.world) c.args.f.now) (c.in-Ok.ensures.value e (c.truth.ensures.grows.closes e o)))
    c.truth.ensures.value
