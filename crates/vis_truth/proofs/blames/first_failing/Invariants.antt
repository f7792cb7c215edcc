use Rattle.std.proofs.Common.{◌≡◌, false, take, length}
use Rattle.std.specs.List.{list_any, range_with_len}
use Rattle.logic_semantics.specs.Scenes.{scene_of}
use Rattle.vis_truth.specs.Names.{places_of}
use Rattle.vis_truth.specs.Scenes.{is_witness}
use Rattle.vis_truth.proofs.blames.first_failing.Given as goal

-- no box so far is one
abbrev pub invariant-loop-place : goal.invariant-loop-place
invariant-loop-place l =
    list_any (is_witness (scene_of l.r l.world) l.set l.body false (places_of l.names)) (take l.place (range_with_len 0 (length l.r.boxes))) ≡ false
