use Rattle.std.proofs.Common.{◌≡◌, ℤ, ◌-ℤ◌, Bool, true, false, [], refl, arith}
use Rattle.std.proofs.lemmas.Int.{ints}
use Rattle.viz_base.specs.declared.trees.BoxTree.{BoxTree}
use Rattle.viz_base.specs.declared.worlds.World.{World}
use Rattle.layout_semantics.specs.Flow.{below, block_height}
use Rattle.layout_laws.proofs.auto_heights.a_block_ends_at_its_last_line.Goals as goal

ends : (tree : BoxTree) (w : World) (joins : Bool) (top bottom : ℤ) → block_height tree w joins top (below bottom [] false) ≡ bottom -ℤ top
ends tree w true top bottom = refl
ends tree w false top bottom = omega (arith, ints)

pub returns : goal.returns
returns c tree w inside cb top p b joins e = rw e (ends tree w joins top _)
