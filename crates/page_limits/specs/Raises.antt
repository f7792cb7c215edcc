-- How far boxes are raised in their lines (CSS 2.1, 10.8.1).
use Rattle.std.specs.Prelude.{◌≡◌, ℕ, ◌+◌, ◌≤◌, ℤ, ◌-ℤ◌, unsigned_abs, List, Option, Some, if◌then◌else◌}
use Rattle.viz_base.specs.Trees.{is_inline}
use Rattle.viz_base.specs.declared.layouts.Band.{Band}
use Rattle.viz_base.specs.declared.layouts.Inner.{Inner}
use Rattle.viz_base.specs.declared.lengths.Valign.TheVariants as of_valign
use Rattle.viz_base.specs.declared.styles.Style.{Style}
use Rattle.viz_base.specs.declared.trees.BoxTree.{BoxTree}
use Rattle.viz_base.specs.declared.worlds.World.{World}
use Rattle.layout_semantics.specs.Blocks.{kind_of, node_of, parent_of}
use Rattle.layout_semantics.specs.Lengths.{own}
use Rattle.layout_semantics.specs.LineHeights.{InlineContext, LineExtent, inline_extent, raise}
use Rattle.layout_semantics.specs.Order.{IsOnPage}
use Rattle.page_limits.specs.Boxes.{middle_of}

abbrev pub own_raise : InlineContext → ℕ → ℕ → LineExtent → ℤ
own_raise c k parent e =
    raise c (node_of c.tree k) (node_of c.tree parent) e (own c.tree k (λ (s : Style). s.valign) of_valign.Baseline)

-- what the box around a box adds to its raise: of an inline box, what that
-- is raised at most; any other is the container of the lines
abbrev pub raise_around : BoxTree → (ℕ → ℕ) → ℕ → ℕ
raise_around tree raises at = if is_inline (kind_of tree at) then raises at else 0

-- the raise of a box over the box around it, and what that one is raised at most, is at most
-- this: of an inline box, and of any other but for what its middle makes of its height
pub record AreRaisedBy (tree : BoxTree) (w : World) (raises : ℕ → ℕ) : Type 0 where
  pub inline : (container : ℕ) (inner : List (Option (Inner ℤ))) (cb : Band ℤ) (k parent : ℕ) → IsOnPage tree.boxes k
      → parent_of tree.boxes k ≡ Some parent
      → let c : InlineContext = record { tree = tree; world = w; container = container; inner = inner; cb = cb } in
      unsigned_abs (own_raise c k parent (inline_extent tree w (node_of tree k)))
      + raise_around tree raises parent ≤ raises k
  pub other : (container : ℕ) (inner : List (Option (Inner ℤ))) (cb : Band ℤ) (k parent : ℕ) (e : LineExtent)
      → IsOnPage tree.boxes k → parent_of tree.boxes k ≡ Some parent
      → let c : InlineContext = record { tree = tree; world = w; container = container; inner = inner; cb = cb } in
      unsigned_abs (own_raise c k parent e -ℤ middle_of c k e) + raise_around tree raises parent ≤ raises k

-- each of them is at most so much
pub record AreRaisesSmall (tree : BoxTree) (w : World) (most : ℕ) : Type 0 where
  pub raises : ℕ → ℕ
  pub each : AreRaisedBy tree w raises
  pub all : (k : ℕ) → IsOnPage tree.boxes k → raises k ≤ most
