-- What the properties of a box give across, and its edges at all sides.
use Rattle.std.specs.Prelude.{◌≡◌, ℕ, ◌+◌, ◌*◌, ◌≤◌, ℤ, unsigned_abs, Some, ◌++◌}
use Rattle.std.specs.List.{AllByRecursion}
use Rattle.viz_base.specs.Styles.{sides_of, nothing}
use Rattle.viz_base.specs.declared.lengths.Length.TheVariants as of_length
use Rattle.viz_base.specs.declared.styles.Style.{Style}
use Rattle.viz_base.specs.declared.trees.BoxTree.{BoxTree}
use Rattle.viz_base.specs.declared.worlds.World.{World}
use Rattle.layout_semantics.specs.FlowBoxes.{room}
use Rattle.layout_semantics.specs.Lengths.{used, used_unless_auto, own, margins, borders, paddings}
use Rattle.layout_semantics.specs.Preferred.{preferred}
use Rattle.layout_semantics.specs.Replaced.{replaced_size}
use Rattle.layout_semantics.specs.Verticals.{verticals}
use Rattle.page_limits.specs.Inline.{IsSmall}
use Rattle.page_limits.specs.Boxes.{AreSidesSmall, IsWidthWithin, edges_at}

-- each width of a box, with its edges and its containing block, is at most so large, and so is each edge
pub record AreWidthsBounded (tree : BoxTree) (w : World) (most k : ℕ) : Type 0 where
  pub edges : 2 * (unsigned_abs (room tree w k) + edges_at tree w k (room tree w k)) ≤ most
  pub width : (v : ℤ)
      → used_unless_auto tree w (own tree k (λ (s : Style). s.width) of_length.Auto) (room tree w k) ≡ Some v
      → IsWidthWithin tree w k (room tree w k) most v
  pub least : IsWidthWithin tree w k (room tree w k) most
      (used tree w (own tree k (λ (s : Style). s.min_width) nothing) (room tree w k))
  pub preferred_least : IsWidthWithin tree w k (room tree w k) most (preferred tree w k).least
  pub preferred_most : IsWidthWithin tree w k (room tree w k) most (preferred tree w k).most
  pub replaced_width
      : IsWidthWithin tree w k (room tree w k) most (replaced_size tree w k (room tree w k)).width
  pub sides : AreSidesSmall most (verticals tree w k (room tree w k))

-- each edge of an inline box is
abbrev pub AreEdgesSmall : BoxTree → World → (most k : ℕ) → Type 0
AreEdgesSmall tree w most k = AllByRecursion (λ length. IsSmall most (used tree w length (room tree w k)))
    (sides_of (paddings tree k) ++ (sides_of (borders tree k) ++ sides_of (margins tree k)))
