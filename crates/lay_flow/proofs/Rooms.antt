-- What is asked on the way up to the width of a containing block.
use Rattle.std.proofs.Common.{◌≡◌, ℕ, zero, suc, ◌*◌, pos, false, [], ◌∷◌, Some, None, subst, arith}
use Rattle.viz_base.specs.Trees.{is_inline}
use Rattle.viz_base.specs.declared.trees.BoxTree.{BoxTree}
use Rattle.viz_base.specs.declared.worlds.World.{World}
use Rattle.viz_calc.specs.State.{AllSmall}
use Rattle.layout_semantics.specs.Blocks.{kind_of, parent_of}
use Rattle.layout_semantics.specs.FlowBoxes.{room_to}
use Rattle.lay_flow.specs.IndependentFits.{RoomFits}
use Rattle.lay_flow.specs.Fits.{IsShapeFit}

module _ (tree : BoxTree) (w : World) where
  pub room-top : (levels b : ℕ) → levels ≡ 0 → RoomFits tree w levels b → AllSmall (pos (64 * w.w) ∷ [])
  unfolding RoomFits
  room-top zero b e f = f
  room-top (suc levels) b e f = absurd (omega (arith, e))

  pub room-independent : (levels b : ℕ) → parent_of tree.boxes b ≡ None → RoomFits tree w levels b → AllSmall (pos (64 * w.w) ∷ [])
  unfolding RoomFits
  room-independent zero b e f = f
  room-independent (suc levels) b e f = rw e at f

  pub room-inside : (levels n b parent : ℕ) → levels ≡ suc n → parent_of tree.boxes b ≡ Some parent → RoomFits tree w levels b
      → RoomFits tree w n parent × (is_inline (kind_of tree parent) ≡ false → IsShapeFit tree w parent (room_to n tree w parent))
  unfolding RoomFits
  room-inside zero n b parent l e f = absurd (omega (arith, l))
  room-inside (suc levels) n b parent l e f =
      let same : levels ≡ n = omega (arith, l) in
      subst (λ (m : ℕ). RoomFits tree w m parent × (is_inline (kind_of tree parent) ≡ false → IsShapeFit tree w parent (room_to m tree w parent))) same (rw e at f)
