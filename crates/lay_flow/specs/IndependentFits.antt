-- What is asked of boxes in coordinates of their own, and of a page, so that each number that is computed of them fits.
use Rattle.std.specs.Prelude.{◌≡◌, ◌<◌, ◌-◌, ℕ, zero, suc, ℤ, pos, ◌*◌, true, false, List, [], ◌∷◌, length, Option, Some, None}
use Rattle.viz_base.specs.Trees.{is_inline}
use Rattle.viz_base.specs.declared.trees.BoxTree.{BoxTree}
use Rattle.viz_base.specs.declared.worlds.World.{World}
use Rattle.viz_calc.specs.State.{AllSmall}
use Rattle.layout_semantics.specs.Blocks.{kind_of, parent_of}
use Rattle.layout_semantics.specs.Flow.{Independent}
use Rattle.layout_semantics.specs.FlowBoxes.{content_from, is_replaced_at, room, room_to}
use Rattle.layout_semantics.specs.Rectangles.{Frame, content_top}
use Rattle.page_limits.specs.Bounds.{IsQuadIn}
use Rattle.lay_steps.specs.Flow.{Context, fresh}
use Rattle.lay_steps.specs.Tables.{laid_at, outside_of}
use Rattle.lay_flow.specs.Low.{IsContextLow, IsFrameLow}
use Rattle.lay_flow.specs.Fits.{IsHeightFit, IsReplacedFit, IsShapeFit, near}
use Rattle.lay_flow.specs.WalkFits.{WalkFits, before_content, inner_end}
use Rattle.lay_steps.specs.Flow.{corner_of, root_of}
use Rattle.lay_steps.specs.Tables.{table_to, with_box}

module _ (tree : BoxTree) (w : World) where
  -- ---- the width of a containing block

  -- up so many levels
  unfoldable pub RoomFits : ℕ → ℕ → Type 0
  RoomFits zero b = AllSmall (pos (64 * w.w) ∷ [])
  RoomFits (suc levels) b = by (parent_of tree.boxes b) (λ parent. RoomFits levels parent)
    where
      by : Option ℕ → (ℕ → Type 0) → Type 0
      by None around = AllSmall (pos (64 * w.w) ∷ [])
      by (Some parent) around = around parent
          × (is_inline (kind_of tree parent) ≡ false
          → IsShapeFit tree w parent (room_to levels tree w parent))

  -- ---- a box

  module _ (apart : ℕ → Independent) where
    abbrev pub own_end : ℕ → Frame → Context
    own_end b f = inner_end tree w apart b (content_from (pos 0) f.x) (content_top f) (fresh (content_top f))

    -- one that starts a context, with all in it
    pub record RootFits (b : ℕ) (f : Frame) : Type 0 where
      pub frame : IsFrameLow f
      pub own_height : IsHeightFit tree w b
      pub inside : WalkFits tree w apart
          (before_content b (content_from (pos 0) f.x) (content_top f) (fresh (content_top f)))
      pub end : IsContextLow (own_end b f)
      pub margin : IsQuadIn near (root_of tree w b f (own_end b f)).margin

    pub record IndependentFits (b : ℕ) (room : ℤ) : Type 0 where
      pub shape : IsShapeFit tree w b room
      pub frame : IsFrameLow (corner_of tree w b room)
      pub replaced : is_replaced_at tree b ≡ true → IsReplacedFit tree w b room
      pub root : is_replaced_at tree b ≡ false → RootFits b (corner_of tree w b room)

  -- ---- the table of what stands outside the flow

  pub record BoxAddedFits (table : List (Option Independent)) (k : ℕ) : Type 0 where
    pub around : RoomFits (suc k) k
    pub own : IndependentFits (laid_at table) k (room tree w k)

  abbrev pub BoxesAddedFit : List (Option Independent) → List ℕ → Type 0
  BoxesAddedFit table [] = Unit {0}
  BoxesAddedFit table (k ∷ ks) = BoxAddedFits table k × BoxesAddedFit (with_box tree w table k) ks

  abbrev pub ContainerFits : List (Option Independent) → ℕ → Type 0
  ContainerFits table b = is_inline (kind_of tree b) ≡ false → BoxesAddedFit table (outside_of tree b)

  -- of each box, from the last one on
  abbrev pub TableFits : Type 0
  TableFits = (done : ℕ) → done < length tree.boxes
      → ContainerFits (table_to tree w done) (length tree.boxes - suc done)

  -- ---- a page

  pub record PageComesFit : Type 0 where
    pub table : TableFits
    pub width : AllSmall (pos (64 * w.w) ∷ [])
    pub root : 0 < length tree.boxes
        → IndependentFits (laid_at (table_to tree w (length tree.boxes))) 0 (pos (64 * w.w))
