use Rattle.std.proofs.Common.{false, length, sym, ◌∙◌, arith}
use Rattle.std.specs.List.{range_with_len}
use Rattle.logic_semantics.specs.Scenes.{scene_of}
use Rattle.vis_truth.specs.Names.{places_of}
use Rattle.vis_truth.specs.Scenes.{is_witness}
use Rattle.vis_truth.proofs.Witnesses.{any_more, any_none}
use Rattle.vis_truth.proofs.Blamed.{find-at, find-none}
use Rattle.vis_truth.proofs.blames.first_failing.Goals as goal

pub returns-then-is_failing-clause-value : goal.returns-then-is_failing-clause-value
returns-then-is_failing-clause-value c =
    sym (find-at (is_witness (scene_of c.args.r.now c.args.world) c.args.set.now c.args.body.now false (places_of c.args.names.now))
    (length c.args.r.now.boxes) c.loop-place.place c.loop-place.invariant (omega arith) (sym c.is_failing.ensures ∙ c.if-is_failing.true))

pub loop-place-preserved : goal.loop-place-preserved
loop-place-preserved c =
    any_more (is_witness (scene_of c.args.r.now c.args.world) c.args.set.now c.args.body.now false (places_of c.args.names.now))
    (length c.args.r.now.boxes) c.loop-place.place c.loop-place.invariant (omega arith) (sym c.is_failing.ensures ∙ c.if-is_failing.false)

pub returns-clause-value : goal.returns-clause-value
returns-clause-value c =
    let test = is_witness (scene_of c.args.r.now c.args.world) c.args.set.now c.args.body.now false (places_of c.args.names.now) in
    sym (find-none test (range_with_len 0 (length c.args.r.now.boxes)) (any_none test (length c.args.r.now.boxes) c.loop-place.place c.loop-place.invariant (omega arith)))
