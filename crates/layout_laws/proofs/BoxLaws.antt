-- The laws of boxes, of a page.
use Rattle.std.proofs.Common.{◌≡◌, ℕ, List, [], Contains, Option, Some, None, option_and_then, slice_get, IsTrue, refl, ◌∙◌, ap}
use Rattle.std.specs.Option.{option_map_or}
use Rattle.viz_base.specs.Pages.{IsPage}
use Rattle.viz_base.specs.Trees.{ascends}
use Rattle.viz_base.specs.declared.nodes.Node.{Node}
use Rattle.viz_base.specs.declared.styles.Style.{Style}
use Rattle.viz_base.specs.declared.trees.BoxNode.{BoxNode}
use Rattle.layout_semantics.specs.Blocks.{parent_of}
use Rattle.layout_semantics.specs.Order.{kids_of}
use Rattle.layout_semantics.specs.BoxTrees.{page_boxes, page_parts, tree_styles, items_of}
use Rattle.layout_laws.proofs.Members.{no_member}
use Rattle.layout_laws.proofs.Kids.{IsArranged}
use Rattle.layout_laws.proofs.Nesting.{kids_ascend, kids_place}
use Rattle.layout_laws.proofs.Runs.{items_arranged}
use Rattle.layout_laws.proofs.PageParts.{parts_of_page}

pub page_arranged : (nodes : List Node) (styles : List Style) → IsPage nodes → IsArranged (items_of (page_parts nodes styles))
page_arranged nodes styles page = items_arranged (page_parts nodes styles) (parts_of_page nodes (tree_styles nodes styles) page)

pub ascending : (nodes : List Node) (styles : List Style) → IsPage nodes → (at : ℕ) → IsTrue (ascends at (kids_of (page_boxes nodes styles) at))
ascending nodes styles page at = by_box (slice_get (page_boxes nodes styles) at) refl
  where
    by_box : (o : Option BoxNode) → slice_get (page_boxes nodes styles) at ≡ o → IsTrue (ascends at (option_map_or (λ (b : BoxNode). b.kids) o []))
    by_box None e = refl
    by_box (Some b) e = kids_ascend (items_of (page_parts nodes styles)) (page_arranged nodes styles page) at b e

pub named : (nodes : List Node) (styles : List Style) → IsPage nodes → (at kid : ℕ) → Contains (kids_of (page_boxes nodes styles) at) kid → parent_of (page_boxes nodes styles) kid ≡ Some at
named nodes styles page at kid h = by_box (slice_get (page_boxes nodes styles) at) refl h
  where
    by_box : (o : Option BoxNode) → slice_get (page_boxes nodes styles) at ≡ o → Contains (option_map_or (λ (b : BoxNode). b.kids) o []) kid → parent_of (page_boxes nodes styles) kid ≡ Some at
    by_box None e i = no_member i
    by_box (Some b) e i =
        let there = kids_place (items_of (page_parts nodes styles)) (page_arranged nodes styles page) at b e kid i in
        ap (option_and_then (λ (c : BoxNode). c.parent)) there.1 ∙ there.2
