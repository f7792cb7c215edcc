use Rattle.std.proofs.Common.{◌≡◌, ℕ, ℤ, ◌<◌, length, sym, ◌∙◌, ap, subst}
use Rattle.viz_base.specs.declared.layouts.Preferred.{Preferred}
use Rattle.viz_base.specs.declared.trees.BoxTree.{BoxTree}
use Rattle.viz_base.specs.declared.worlds.World.{World}
use Rattle.layout_semantics.specs.Order.{kids_of}
use Rattle.layout_semantics.specs.InlineContent.{inner_boxes}
use Rattle.layout_semantics.specs.Replaced.{preferred_replaced}
use Rattle.layout_semantics.specs.Preferred.{preferred, Inside, inside_of, inline_content, blocks, a_replaced}
use Rattle.layout_semantics.proofs.Forest.{IsForest-from}
use Rattle.layout_laws.specs.Greatest.{IsGreatestOf}
use Rattle.layout_laws.specs.Outer.{outer_widths, unbreakable_widths, piece_widths, child_least_widths, child_most_widths}
use Rattle.layout_laws.proofs.Greatest.{greatest-is}
use Rattle.layout_laws.proofs.Levels.{preferred-by-inside}
use Rattle.layout_laws.specs.Nested.{preferred_of_sort}

pub by_sort : (tree : BoxTree) (w : World) (at : ℕ) → at < length tree.boxes
    → preferred tree w at ≡ preferred_of_sort tree w at (outer_widths tree w (inner_boxes tree at)) (outer_widths tree w (kids_of tree.boxes at)) (inside_of tree at)
by_sort tree w at l = preferred-by-inside tree w at (IsForest-from tree.boxes tree.styles tree.fonts tree.parents tree.ok) l

pub with_sort : (tree : BoxTree) (w : World) (at : ℕ) (s : Inside) → at < length tree.boxes → inside_of tree at ≡ s
    → preferred tree w at ≡ preferred_of_sort tree w at (outer_widths tree w (inner_boxes tree at)) (outer_widths tree w (kids_of tree.boxes at)) s
with_sort tree w at s l e = by_sort tree w at l ∙ ap (preferred_of_sort tree w at (outer_widths tree w (inner_boxes tree at)) (outer_widths tree w (kids_of tree.boxes at))) e

pub inline-widths : (tree : BoxTree) (w : World) (at : ℕ) → at < length tree.boxes → inside_of tree at ≡ inline_content
    → IsGreatestOf (unbreakable_widths tree w at) (preferred tree w at).least × IsGreatestOf (piece_widths tree w at) (preferred tree w at).most
inline-widths tree w at l e = subst (λ (p : Preferred ℤ). IsGreatestOf (unbreakable_widths tree w at) p.least × IsGreatestOf (piece_widths tree w at) p.most) (sym (with_sort tree w at inline_content l e))
    (greatest-is (unbreakable_widths tree w at), greatest-is (piece_widths tree w at))

pub block-widths : (tree : BoxTree) (w : World) (at : ℕ) → at < length tree.boxes → inside_of tree at ≡ blocks
    → IsGreatestOf (child_least_widths tree w at) (preferred tree w at).least × IsGreatestOf (child_most_widths tree w at) (preferred tree w at).most
block-widths tree w at l e = subst (λ (p : Preferred ℤ). IsGreatestOf (child_least_widths tree w at) p.least × IsGreatestOf (child_most_widths tree w at) p.most) (sym (with_sort tree w at blocks l e))
    (greatest-is (child_least_widths tree w at), greatest-is (child_most_widths tree w at))

pub replaced-widths : (tree : BoxTree) (w : World) (at : ℕ) → at < length tree.boxes → inside_of tree at ≡ a_replaced
    → ((preferred tree w at).least ≡ preferred_replaced tree w at) × ((preferred tree w at).most ≡ preferred_replaced tree w at)
replaced-widths tree w at l e = (ap (λ (p : Preferred ℤ). p.least) (with_sort tree w at a_replaced l e), ap (λ (p : Preferred ℤ). p.most) (with_sort tree w at a_replaced l e))
